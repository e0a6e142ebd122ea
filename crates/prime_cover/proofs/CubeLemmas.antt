-- The rows of a table that the places of a row agree with, and the number that orders rows.
use Rattle.std.proofs.Common.{◌≡◌, ℕ, zero, suc, ◌+◌, ◌-◌, ◌*◌, ◌^◌, ◌<◌, ◌≤◌, Bool, true, false, ◌&&◌, eqb, ltb, List, [], ◌∷◌, length, get_or, take, refl, sym, ap, ◌∙◌, arith, ⊎_elim}
use Rattle.std.specs.Int.{bit_at}
use Rattle.std.proofs.lemmas.Bool.{cases_lt, lt-ltb, le-ltb}
use Rattle.tm_bits.specs.declared.cover.Place.{Place}
use Rattle.tm_bits.specs.declared.cover.Place.TheVariants.{Zero, One, Any}
use Rattle.tm_bits.specs.Rows.{agrees_at, row_agrees}
use Rattle.tm_bits.specs.Tables.{bit_of, bits_of, IsClear}
use Rattle.tm_bits.proofs.RowNumbers.{get_or-bits_of, length-bits_of}
use Rattle.prime_cover.specs.Primes.{place_rank}

and_true : (a : Bool) → (a && true) ≡ a
and_true true = refl
and_true false = refl

and_assoc : (a b c : Bool) → (a && b && c) ≡ (a && (b && c))
and_assoc true b c = refl
and_assoc false b c = refl

-- One more place.
pub row_agrees_more : (places : List Place) (bits : List Bool) (i : ℕ) (d : Place) (e : Bool) → i < length places → i < length bits
    → row_agrees (take (suc i) places) bits ≡ (row_agrees (take i places) bits && agrees_at (get_or places i d) (get_or bits i e))
row_agrees_more [] bits i d e here there = absurd (omega arith)
row_agrees_more (p ∷ places) [] i d e here there = absurd (omega arith)
row_agrees_more (p ∷ places) (bit ∷ bits) zero d e here there = and_true (agrees_at p bit)
row_agrees_more (p ∷ places) (bit ∷ bits) (suc i) d e here there =
    ap (λ x. agrees_at p bit && x) (row_agrees_more places bits i d e (omega arith) (omega arith))
    ∙ sym (and_assoc (agrees_at p bit) (row_agrees (take i places) bits) (agrees_at (get_or places i d) (get_or bits i e)))

-- All rows of so many inputs, before a place asks anything.
pub all_rows : (inputs : ℕ) (words : List ℕ) → ((row : ℕ) → row < 2 ^ inputs → bit_of words row ≡ true) → IsClear inputs words
    → (row : ℕ) → bit_of words row ≡ (ltb row (2 ^ inputs) && true)
all_rows inputs words ones clear row =
    ⊎_elim
    (λ (below : row < 2 ^ inputs). rw (ones row below, lt-ltb row (2 ^ inputs) below) refl)
    (λ (past : 2 ^ inputs ≤ row). rw (clear row past, le-ltb row (2 ^ inputs) past) refl)
    (cases_lt row (2 ^ inputs))

-- One more place narrows the rows.
pub rows_narrowed : (inputs : ℕ) (places : List Place) (i : ℕ) (d : Place) (rows narrowed : List ℕ) → i < inputs → length places ≡ inputs
    → ((row : ℕ) → bit_of rows row ≡ (ltb row (2 ^ inputs) && row_agrees (take i places) (bits_of inputs row)))
    → ((row : ℕ) → bit_of narrowed row ≡ (bit_of rows row && agrees_at (get_or places i d) (eqb (bit_at row (inputs - 1 - i)) 1)))
    → (row : ℕ) → bit_of narrowed row ≡ (ltb row (2 ^ inputs) && row_agrees (take (suc i) places) (bits_of inputs row))
rows_narrowed inputs places i d rows narrowed inside long are narrow row =
    let bit = get_or-bits_of inputs row i false inside in
    let more = row_agrees_more places (bits_of inputs row) i d false (omega arith) (omega (arith, length-bits_of inputs row)) in
    narrow row
    ∙ ap (λ x. x && agrees_at (get_or places i d) (eqb (bit_at row (inputs - 1 - i)) 1)) (are row)
    ∙ and_assoc (ltb row (2 ^ inputs)) (row_agrees (take i places) (bits_of inputs row)) (agrees_at (get_or places i d) (eqb (bit_at row (inputs - 1 - i)) 1))
    ∙ ap (λ x. ltb row (2 ^ inputs) && (row_agrees (take i places) (bits_of inputs row) && agrees_at (get_or places i d) x)) (sym bit)
    ∙ ap (λ x. ltb row (2 ^ inputs) && x) (sym more)

pub rank_small : (place : Place) → place_rank place ≤ 2
rank_small Zero = omega arith
rank_small One = omega arith
rank_small Any = omega arith

-- So many digits to the base 3 make a number below this one.
pub order_grows : (i order rank : ℕ) → i < 8 → rank ≤ 2 → order < 3 ^ i → 3 * order + rank < 3 ^ (i + 1)
order_grows zero order rank few small below = omega arith
order_grows (suc zero) order rank few small below = omega arith
order_grows (suc (suc zero)) order rank few small below = omega arith
order_grows (suc (suc (suc zero))) order rank few small below = omega arith
order_grows (suc (suc (suc (suc zero)))) order rank few small below = omega arith
order_grows (suc (suc (suc (suc (suc zero))))) order rank few small below = omega arith
order_grows (suc (suc (suc (suc (suc (suc zero)))))) order rank few small below = omega arith
order_grows (suc (suc (suc (suc (suc (suc (suc zero))))))) order rank few small below = omega arith
order_grows (suc (suc (suc (suc (suc (suc (suc (suc i)))))))) order rank few small below = absurd (omega arith)

pub order_fits : (i order : ℕ) → i < 8 → order < 3 ^ i → order < 2187
order_fits zero order few below = omega arith
order_fits (suc zero) order few below = omega arith
order_fits (suc (suc zero)) order few below = omega arith
order_fits (suc (suc (suc zero))) order few below = omega arith
order_fits (suc (suc (suc (suc zero)))) order few below = omega arith
order_fits (suc (suc (suc (suc (suc zero))))) order few below = omega arith
order_fits (suc (suc (suc (suc (suc (suc zero)))))) order few below = omega arith
order_fits (suc (suc (suc (suc (suc (suc (suc zero))))))) order few below = omega arith
order_fits (suc (suc (suc (suc (suc (suc (suc (suc i)))))))) order few below = absurd (omega arith)
