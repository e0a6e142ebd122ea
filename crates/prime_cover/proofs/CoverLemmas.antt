-- The cover of prime cubes each of which has a row of its own.
use Rattle.std.proofs.Common.{◌≡◌, ℕ, zero, ◌+◌, ◌^◌, ◌<◌, ◌≤◌, Bool, true, false, ◌||◌, ltb, List, [], ◌∷◌, ◌++◌, length, get_or, map, refl, sym, ap, ◌∙◌, arith, ⊎_elim, All, AllPairs, Contains}
use Rattle.std.specs.List.{list_any}
use Rattle.std.proofs.lemmas.Bool.{cases_Bool, cases_lt, both_ways, lt-ltb, or_left, or_right, false_from_ne_true}
use Rattle.std.proofs.lemmas.List.{length-map, get_or-map}
use Rattle.std.proofs.lemmas.List.Elements.{All-map, All-push, All-head, All-tail, All-weaker, All-contains, Contains-get_or}
use Rattle.std.specs.List.Sorted.{IsPermutation}
use Rattle.std.proofs.lemmas.List.Folds.{list_any-append, list_any_none, list_any_at, Any-from_list_any}
use Rattle.std.proofs.lemmas.List.Sorted.{Contains-permutation}
use Rattle.tm_bits.specs.declared.cover.Place.{Place}
use Rattle.tm_bits.specs.Rows.{Rows, AreEven, row_agrees, holds}
use Rattle.tm_bits.specs.Tables.{bit_of, bits_of, IsClear}
use Rattle.tm_bits.proofs.Evenness.{even_from_width}
use Rattle.tm_bits.proofs.RowNumbers.{length-bits_of, values_at_bits}
use Rattle.prime_cover.specs.declared.cube.Cube.{Cube}
use Rattle.prime_cover.specs.Primes.{IsPrime, IsNeeded, ComesBefore, IsPrimeCover}
use Rattle.prime_cover.specs.Cubes.{order_from}
use Rattle.prime_cover.specs.Found.{row_of, has, IsPrimeCube, HaveOnes, HasOwnRow, Ascend, HaveOneWidth}
use Rattle.prime_cover.proofs.GrowLemmas.{row_parts, has_from, row_long}
use Rattle.prime_cover.proofs.SetLemmas.{no_row}
use Rattle.prime_cover.proofs.OrderLemmas.{before_from_order}

-- ---- the primes that are found

-- One more cube.
pub any_pushed : (row : ℕ) (cubes : List Cube) (cube : Cube) → list_any (has row) (cubes ++ cube ∷ []) ≡ (list_any (has row) cubes || has row cube)
any_pushed row cubes cube = list_any-append (has row) cubes (cube ∷ []) ∙ ap (λ x. list_any (has row) cubes || x) (or_false (has row cube))
  where
    or_false : (x : Bool) → (x || false) ≡ x
    or_false true = refl
    or_false false = refl

-- What is found when the rows of a table below one were looked at.
pub record IsFound (inputs : ℕ) (words : List ℕ) (primes : List Cube) (set : List ℕ) (row : ℕ) : Type 0 where
  pub primes_are : All (IsPrimeCube inputs words) primes
  pub had : (other : ℕ) → bit_of set other ≡ list_any (has other) primes
  pub ones : (other : ℕ) → other < row → bit_of words other ≡ true → list_any (has other) primes ≡ true

pub found_none : (inputs : ℕ) (words : List ℕ) → IsFound inputs words [] (0 ∷ 0 ∷ 0 ∷ 0 ∷ []) 0
found_none inputs words =
    record {
      primes_are = λ k d inside. absurd (omega arith);
      had = λ other. no_row (0 ∷ 0 ∷ 0 ∷ 0 ∷ []) refl refl other;
      ones = λ other below one. absurd (omega arith);
    }

pub found_more : (inputs : ℕ) (words : List ℕ) (primes : List Cube) (set more : List ℕ) (row : ℕ) (prime : Cube) → IsFound inputs words primes set row
    → IsPrimeCube inputs words prime → has row prime ≡ true → ((other : ℕ) → bit_of more other ≡ (bit_of set other || bit_of prime.rows other))
    → IsFound inputs words (primes ++ prime ∷ []) more (row + 1)
found_more inputs words primes set more row prime found is has_row union =
    record {
      primes_are = All-push (IsPrimeCube inputs words) primes prime found.primes_are is;
      had = λ other. union other ∙ ap (λ x. x || has other prime) (found.had other) ∙ sym (any_pushed other primes prime);
      ones = λ other below one.
          any_pushed other primes prime
          ∙ ⊎_elim
          (λ (before : other < row). or_left (list_any (has other) primes) (has other prime) (found.ones other before one))
          (λ (past : row ≤ other).
          let here : row ≡ other = omega arith in or_right (list_any (has other) primes) (has other prime) (rw here at has_row))
          (cases_lt other row);
    }

pub found_same : (inputs : ℕ) (words : List ℕ) (primes : List Cube) (set : List ℕ) (row : ℕ) → IsFound inputs words primes set row
    → (bit_of words row ≡ true → bit_of set row ≡ true) → IsFound inputs words primes set (row + 1)
found_same inputs words primes set row found there =
    record {
      primes_are = found.primes_are;
      had = found.had;
      ones = λ other below one.
          ⊎_elim
          (λ (before : other < row). found.ones other before one)
          (λ (past : row ≤ other).
          let here : other ≡ row = omega arith in sym (found.had other) ∙ rw here (there (rw here at one)))
          (cases_lt other row);
    }

-- All rows of the table were looked at.
pub found_all : (inputs : ℕ) (words : List ℕ) (primes : List Cube) (set : List ℕ) (row : ℕ) → IsClear inputs words → 2 ^ inputs ≤ row
    → IsFound inputs words primes set row → HaveOnes words primes
found_all inputs words primes set row clear ended found other one =
    ⊎_elim
    (λ (below : other < 2 ^ inputs). found.ones other (omega arith) one)
    (λ (past : 2 ^ inputs ≤ other). absurd (both_ways _ (clear other past) one))
    (cases_lt other (2 ^ inputs))

-- ---- widths

pub one_width : (inputs : ℕ) (words : List ℕ) (cubes : List Cube) → All (IsPrimeCube inputs words) cubes → HaveOneWidth cubes
one_width inputs words cubes primes one other there here =
    (All-contains (IsPrimeCube inputs words) cubes one primes there).lies.width
    ∙ sym (All-contains (IsPrimeCube inputs words) cubes other primes here).lies.width

-- The rows of cubes of one width are even.
pub rows_even : (cubes : List Cube) → HaveOneWidth cubes → AreEven (map row_of cubes)
rows_even [] width = λ i j d below inside. absurd (omega arith)
rows_even (c ∷ cubes) width =
    even_from_width (map row_of (c ∷ cubes)) c.inputs
    (All-map (λ row. length row ≡ c.inputs) row_of (c ∷ cubes)
    (λ k d inside.
    let cube = get_or (c ∷ cubes) k d in row_long cube ∙ width cube c (Contains-get_or (c ∷ cubes) k d inside) (zero, omega arith, refl)))

-- ---- the cover

-- A row of the cover agrees with the bits of a row of the table exactly where its cube has that row.
agrees_where_has : (cube : Cube) (inputs row : ℕ) → cube.inputs ≡ inputs → row < 2 ^ inputs → row_agrees (row_of cube) (bits_of inputs row) ≡ has row cube
agrees_where_has cube inputs row width below =
    let inside : ltb row (2 ^ inputs) ≡ true = lt-ltb row (2 ^ inputs) below in
    sym (cube.span row ∙ rw (width, inside) refl)

any_where_has : (inputs row : ℕ) (cubes : List Cube) → All (λ cube. cube.inputs ≡ inputs) cubes → row < 2 ^ inputs
    → list_any (λ places. row_agrees places (bits_of inputs row)) (map row_of cubes) ≡ list_any (has row) cubes
any_where_has inputs row [] width below = refl
any_where_has inputs row (c ∷ cubes) width below =
    let here = agrees_where_has c inputs row (All-head (λ cube. cube.inputs ≡ inputs) c cubes width) below in
    let rest = any_where_has inputs row cubes (All-tail (λ cube. cube.inputs ≡ inputs) c cubes width) below in
    ap (λ x. x || list_any (λ places. row_agrees places (bits_of inputs row)) (map row_of cubes)) here ∙ ap (λ x. has row c || x) rest

-- Some cube has a row exactly where the table has the value 1.
ones_are_had : (inputs : ℕ) (words : List ℕ) (cubes : List Cube) → All (IsPrimeCube inputs words) cubes → HaveOnes words cubes
    → (row : ℕ) → bit_of words row ≡ list_any (has row) cubes
ones_are_had inputs words cubes primes ones row =
    ⊎_elim
    (λ (one : bit_of words row ≡ true). one ∙ sym (ones row one))
    (λ (nought : bit_of words row ≡ false).
    nought
    ∙ sym (list_any_none (has row) cubes
    (All-weaker (IsPrimeCube inputs words) (λ cube. has row cube ≡ false)
    (λ cube prime. false_from_ne_true (has row cube) (λ had. both_ways _ nought (prime.lies.within row had))) cubes primes)))
    (cases_Bool (bit_of words row))

-- A row of the cover is that of one of the cubes.
cube_of : (cubes : List Cube) (row : List Place) (d : Cube) → Contains (map row_of cubes) row → (cube : Cube) × Contains cubes cube × (row ≡ row_of cube)
cube_of cubes row d there =
    let inside : there.0 < length cubes = omega (arith, there.1, length-map cubes row_of) in
    let at = get_or-map row_of cubes there.0 d row inside in
    (get_or cubes there.0 d, Contains-get_or cubes there.0 d inside, sym there.2 ∙ at)

own_needed : (inputs : ℕ) (words : List ℕ) (cubes : List Cube) → All (IsPrimeCube inputs words) cubes → (cube : Cube) → cube.inputs ≡ inputs
    → HasOwnRow cubes cube → IsNeeded inputs (map row_of cubes) (row_of cube)
own_needed inputs words cubes primes cube width own =
    let row = own.0 in
    let parts = row_parts cube row own.1 in (
      bits_of cube.inputs row,
      length-bits_of cube.inputs row ∙ width,
      parts.1,
      λ other there agrees.
          let found = cube_of cubes other cube there in
          let other_width : found.0.inputs ≡ cube.inputs = (All-contains (IsPrimeCube inputs words) cubes found.0 primes found.1).lies.width ∙ sym width in
          let below : row < 2 ^ found.0.inputs = rw other_width parts.0 in
          let agrees_there : row_agrees (row_of found.0) (bits_of found.0.inputs row) ≡ true
          = ap (λ r. row_agrees r (bits_of found.0.inputs row)) (sym found.2) ∙ ap (λ n. row_agrees other (bits_of n row)) other_width ∙ agrees in
          found.2 ∙ ap row_of (own.2 found.0 found.1 (has_from found.0 row below agrees_there)),
    )

-- The rows ascend as the numbers of the cubes do.
rows_ascend : (inputs : ℕ) (cubes : List Cube) → All (λ cube. cube.inputs ≡ inputs) cubes → Ascend cubes → AllPairs ComesBefore (map row_of cubes)
rows_ascend inputs [] width ascend = λ i j d below inside. absurd (omega arith)
rows_ascend inputs (c ∷ cubes) width ascend = λ i j d below inside.
    let far : j < length (c ∷ cubes) = omega (arith, inside, length-map (c ∷ cubes) row_of) in
    let one = get_or (c ∷ cubes) i c in
    let other = get_or (c ∷ cubes) j c in
    let at_one : get_or (map row_of (c ∷ cubes)) i d ≡ row_of one = get_or-map row_of (c ∷ cubes) i c d (omega arith) in
    let at_other : get_or (map row_of (c ∷ cubes)) j d ≡ row_of other = get_or-map row_of (c ∷ cubes) j c d far in
    let long : length (row_of one) ≡ length (row_of other) = row_long one ∙ width i c (omega arith) ∙ sym (row_long other ∙ width j c far) in
    let less : order_from 0 (row_of one) < order_from 0 (row_of other) = rw (← one.ordered, ← other.ordered) (ascend i j c below far) in
    rw (at_one, at_other) (before_from_order 0 (row_of one) (row_of other) long less)

pub cover_is_prime : (inputs : ℕ) (words : List ℕ) (cubes : List Cube) → All (IsPrimeCube inputs words) cubes → HaveOnes words cubes
    → All (HasOwnRow cubes) cubes → Ascend cubes → IsPrimeCover inputs words (record { on = true; rows = map row_of cubes })
cover_is_prime inputs words cubes primes ones own ascend =
    record {
      on = refl;
      width =
          All-map (λ row. length row ≡ inputs) row_of cubes
          (All-weaker (IsPrimeCube inputs words) (λ cube. length (row_of cube) ≡ inputs) (λ cube prime. row_long cube ∙ prime.lies.width) cubes primes);
      values = values_at_bits (holds cover) inputs words
          (λ row below. ones_are_had inputs words cubes primes ones row ∙ sym (any_where_has inputs row cubes widths below));
      primes = All-map (IsPrime inputs words) row_of cubes (All-weaker (IsPrimeCube inputs words) (λ cube. IsPrime inputs words (row_of cube)) (λ cube prime. prime.prime) cubes primes);
      needed = All-map (IsNeeded inputs (map row_of cubes)) row_of cubes
          (λ k d inside. own_needed inputs words cubes primes (get_or cubes k d) (widths k d inside) (own k d inside));
      ascending = rows_ascend inputs cubes widths ascend;
    }
  where
    cover : Rows
    cover = record { on = true; rows = map row_of cubes }

    widths : All (λ cube. cube.inputs ≡ inputs) cubes
    widths = All-weaker (IsPrimeCube inputs words) (λ cube. cube.inputs ≡ inputs) (λ cube prime. prime.lies.width) cubes primes

-- ---- the cubes that are kept

pub kept_primes : (inputs : ℕ) (words : List ℕ) (cubes needed : List Cube) → All (IsPrimeCube inputs words) cubes → All (Contains cubes) needed
    → All (IsPrimeCube inputs words) needed
kept_primes inputs words cubes needed primes kept k d inside =
    All-contains (IsPrimeCube inputs words) cubes (get_or needed k d) primes (kept k d inside)

any_from_contains : (row : ℕ) (cubes : List Cube) (cube : Cube) → Contains cubes cube → has row cube ≡ true → list_any (has row) cubes ≡ true
any_from_contains row cubes cube there had = list_any_at (has row) cubes there.0 cube there.1 (rw there.2 had)

any_permuted : (row : ℕ) (cubes others : List Cube) → IsPermutation cubes others → list_any (has row) cubes ≡ true → list_any (has row) others ≡ true
any_permuted row cubes others moved some =
    let found = Any-from_list_any (has row) cubes some in
    any_from_contains row others found.1 (Contains-permutation cubes others found.1 moved (found.0, found.2, found.3)) found.4

pub kept_ones : (words : List ℕ) (primes sorted needed : List Cube) → IsPermutation primes sorted → HaveOnes words primes
    → ((row : ℕ) → list_any (has row) sorted ≡ true → list_any (has row) needed ≡ true) → HaveOnes words needed
kept_ones words primes sorted needed moved ones rows row one = rows row (any_permuted row primes sorted moved (ones row one))
