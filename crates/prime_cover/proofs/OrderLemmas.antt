-- The number of a row orders rows as their places do.
use Rattle.std.proofs.Common.{◌≡◌, ℕ, zero, suc, ◌+◌, ◌*◌, ◌<◌, List, [], ◌∷◌, length, refl, ap, arith}
use Rattle.tm_bits.specs.declared.cover.Place.{Place}
use Rattle.tm_bits.specs.declared.cover.Place.TheVariants.{Zero, One, Any}
use Rattle.prime_cover.specs.Primes.{place_rank, ComesBefore}
use Rattle.prime_cover.specs.Cubes.{order_from}
use Rattle.prime_cover.proofs.CubeLemmas.{rank_small}

-- Digits that come first decide.
order_first : (before above : ℕ) (row other : List Place) → length row ≡ length other → before < above → order_from before row < order_from above other
order_first before above [] [] long less = less
order_first before above [] (q ∷ other) long less = absurd (omega arith)
order_first before above (p ∷ row) [] long less = absurd (omega arith)
order_first before above (p ∷ row) (q ∷ other) long less =
    order_first (3 * before + place_rank p) (3 * above + place_rank q) row other (omega arith) (omega (arith, rank_small p, rank_small q))

later : (p : Place) (row other : List Place) → ComesBefore row other → ComesBefore (p ∷ row) (p ∷ other)
later p row other before = (suc before.0, omega (arith, before.1), ap (λ rest. p ∷ rest) before.2, before.3)

-- Of two rows of one length the one with the lesser number comes first.
pub before_from_order : (number : ℕ) (row other : List Place) → length row ≡ length other → order_from number row < order_from number other → ComesBefore row other
before_from_order number [] [] long less = absurd (omega arith)
before_from_order number [] (q ∷ other) long less = absurd (omega arith)
before_from_order number (p ∷ row) [] long less = absurd (omega arith)
before_from_order number (Zero ∷ row) (Zero ∷ other) long less = later Zero row other (before_from_order (3 * number + 0) row other (omega arith) less)
before_from_order number (One ∷ row) (One ∷ other) long less = later One row other (before_from_order (3 * number + 1) row other (omega arith) less)
before_from_order number (Any ∷ row) (Any ∷ other) long less = later Any row other (before_from_order (3 * number + 2) row other (omega arith) less)
before_from_order number (Zero ∷ row) (One ∷ other) long less = (zero, omega arith, refl, omega arith)
before_from_order number (Zero ∷ row) (Any ∷ other) long less = (zero, omega arith, refl, omega arith)
before_from_order number (One ∷ row) (Any ∷ other) long less = (zero, omega arith, refl, omega arith)
before_from_order number (One ∷ row) (Zero ∷ other) long less =
    let more = order_first (3 * number + 0) (3 * number + 1) other row (omega arith) (omega arith) in absurd (omega arith)
before_from_order number (Any ∷ row) (Zero ∷ other) long less =
    let more = order_first (3 * number + 0) (3 * number + 2) other row (omega arith) (omega arith) in absurd (omega arith)
before_from_order number (Any ∷ row) (One ∷ other) long less =
    let more = order_first (3 * number + 1) (3 * number + 2) other row (omega arith) (omega arith) in absurd (omega arith)

-- Rows of one length with the same number are the same.
pub same_from_order : (number : ℕ) (row other : List Place) → length row ≡ length other → order_from number row ≡ order_from number other → row ≡ other
same_from_order number [] [] long same = refl
same_from_order number [] (q ∷ other) long same = absurd (omega arith)
same_from_order number (p ∷ row) [] long same = absurd (omega arith)
same_from_order number (Zero ∷ row) (Zero ∷ other) long same = ap (λ rest. Zero ∷ rest) (same_from_order (3 * number + 0) row other (omega arith) same)
same_from_order number (One ∷ row) (One ∷ other) long same = ap (λ rest. One ∷ rest) (same_from_order (3 * number + 1) row other (omega arith) same)
same_from_order number (Any ∷ row) (Any ∷ other) long same = ap (λ rest. Any ∷ rest) (same_from_order (3 * number + 2) row other (omega arith) same)
same_from_order number (Zero ∷ row) (One ∷ other) long same =
    let less = order_first (3 * number + 0) (3 * number + 1) row other (omega arith) (omega arith) in absurd (omega arith)
same_from_order number (Zero ∷ row) (Any ∷ other) long same =
    let less = order_first (3 * number + 0) (3 * number + 2) row other (omega arith) (omega arith) in absurd (omega arith)
same_from_order number (One ∷ row) (Any ∷ other) long same =
    let less = order_first (3 * number + 1) (3 * number + 2) row other (omega arith) (omega arith) in absurd (omega arith)
same_from_order number (One ∷ row) (Zero ∷ other) long same =
    let less = order_first (3 * number + 0) (3 * number + 1) other row (omega arith) (omega arith) in absurd (omega arith)
same_from_order number (Any ∷ row) (Zero ∷ other) long same =
    let less = order_first (3 * number + 0) (3 * number + 2) other row (omega arith) (omega arith) in absurd (omega arith)
same_from_order number (Any ∷ row) (One ∷ other) long same =
    let less = order_first (3 * number + 1) (3 * number + 2) other row (omega arith) (omega arith) in absurd (omega arith)
