-- Cubes that grow by places that are made `Any`.
use Rattle.std.proofs.Common.{◌≡◌, ◌≢◌, ℕ, zero, suc, ◌+◌, ◌^◌, ◌<◌, ◌≤◌, Bool, true, false, ltb, List, [], ◌∷◌, length, get_or, take, set, map, refl, sym, ap, ◌∙◌, arith, ⊎_elim}
use Rattle.std.proofs.lemmas.Bool.{cases_lt, cases_eq, lt-ltb, ltb-true, and_parts, and_from}
use Rattle.std.proofs.lemmas.List.{get_or-set_same, get_or-set_other, get_or_past, set_comm, length-take, length-set}
use Rattle.tm_bits.specs.declared.cover.Place.{Place}
use Rattle.tm_bits.specs.declared.cover.Place.TheVariants.{Any}
use Rattle.tm_bits.specs.Rows.{agrees_at, row_agrees}
use Rattle.tm_bits.specs.Tables.{bit_of, bits_of, row_number, place_of, minterm}
use Rattle.tm_bits.proofs.RowNumbers.{length-bits_of, row_number-bits_of}
use Rattle.prime_cover.specs.declared.cube.Cube.{Cube}
use Rattle.prime_cover.specs.Primes.{MeetsZero}
use Rattle.prime_cover.specs.Found.{row_of, has, LiesWithin, IsPrimeCube}

-- ---- rows of one row of the table

agrees_with_itself : (bits : List Bool) → row_agrees (map place_of bits) bits ≡ true
agrees_with_itself [] = refl
agrees_with_itself (true ∷ bits) = agrees_with_itself bits
agrees_with_itself (false ∷ bits) = agrees_with_itself bits

same_from_agrees : (bits others : List Bool) → length bits ≡ length others → row_agrees (map place_of bits) others ≡ true → bits ≡ others
same_from_agrees [] [] long agrees = refl
same_from_agrees [] (other ∷ others) long agrees = cc
same_from_agrees (bit ∷ bits) [] long agrees = cc
same_from_agrees (true ∷ bits) (true ∷ others) long agrees = ap (λ rest. true ∷ rest) (same_from_agrees bits others (cc) agrees)
same_from_agrees (false ∷ bits) (false ∷ others) long agrees = ap (λ rest. false ∷ rest) (same_from_agrees bits others (cc) agrees)
same_from_agrees (true ∷ bits) (false ∷ others) long agrees = cc
same_from_agrees (false ∷ bits) (true ∷ others) long agrees = cc

-- ---- what a cube tells of a row that it has

-- A row that a cube has is one of its inputs, and the places agree with its bits.
pub row_parts : (cube : Cube) (row : ℕ) → has row cube ≡ true → (row < 2 ^ cube.inputs) × (row_agrees (row_of cube) (bits_of cube.inputs row) ≡ true)
row_parts cube row had =
    let parts = and_parts (ltb row (2 ^ cube.inputs)) (row_agrees (row_of cube) (bits_of cube.inputs row)) (sym (cube.span row) ∙ had) in
    (ltb-true row (2 ^ cube.inputs) parts.0, parts.1)

pub has_from : (cube : Cube) (row : ℕ) → row < 2 ^ cube.inputs → row_agrees (row_of cube) (bits_of cube.inputs row) ≡ true → has row cube ≡ true
has_from cube row below agrees =
    cube.span row ∙ and_from (ltb row (2 ^ cube.inputs)) (row_agrees (row_of cube) (bits_of cube.inputs row)) (lt-ltb row (2 ^ cube.inputs) below) agrees

pub row_long : (cube : Cube) → length (row_of cube) ≡ cube.inputs
row_long cube =
    let few = cube.few in
    let long = cube.long in
    omega (arith, length-take cube.inputs cube.places)

-- A row of value 0 that a cube has shows that its places agree with bits of value 0.
meets_zero : (cube : Cube) (inputs : ℕ) (words : List ℕ) (row : ℕ) → cube.inputs ≡ inputs → has row cube ≡ true → bit_of words row ≡ false
    → MeetsZero inputs words (row_of cube)
meets_zero cube inputs words row width had nought =
    let parts = row_parts cube row had in
    (bits_of cube.inputs row, length-bits_of cube.inputs row ∙ width, parts.1, ap (bit_of words) (row_number-bits_of cube.inputs row parts.0) ∙ nought)

-- ---- one place made `Any`

agrees_widened : (places : List Place) (bits : List Bool) (place : ℕ) → row_agrees places bits ≡ true → row_agrees (set places place Any) bits ≡ true
agrees_widened [] bits place agrees = agrees
agrees_widened (p ∷ places) [] zero agrees = agrees
agrees_widened (p ∷ places) [] (suc place) agrees = agrees
agrees_widened (p ∷ places) (bit ∷ bits) zero agrees = (and_parts (agrees_at p bit) (row_agrees places bits) agrees).1
agrees_widened (p ∷ places) (bit ∷ bits) (suc place) agrees =
    let parts = and_parts (agrees_at p bit) (row_agrees places bits) agrees in
    and_from (agrees_at p bit) (row_agrees (set places place Any) bits) parts.0 (agrees_widened places bits place parts.1)

meets_zero_widened : (inputs : ℕ) (words : List ℕ) (row : List Place) (place : ℕ) → MeetsZero inputs words row → MeetsZero inputs words (set row place Any)
meets_zero_widened inputs words row place meets = (meets.0, meets.1, agrees_widened row meets.0 place meets.2, meets.3)

take_set : (n : ℕ) (places : List Place) (place : ℕ) (p : Place) → take n (set places place p) ≡ set (take n places) place p
take_set zero places place p = refl
take_set (suc n) [] place p = refl
take_set (suc n) (q ∷ places) zero p = refl
take_set (suc n) (q ∷ places) (suc place) p = ap (λ rest. q ∷ rest) (take_set n places place p)

-- ---- growing

-- A cube with a row of value 1 that lies within the table, and none of whose first places, so many, can be made `Any`.
pub record IsGrown (inputs : ℕ) (words : List ℕ) (row place : ℕ) (cube : Cube) : Type 0 where
  pub lies : LiesWithin inputs words cube
  pub had : has row cube ≡ true
  pub tight : (earlier : ℕ) → earlier < place → get_or (row_of cube) earlier Any ≢ Any → MeetsZero inputs words (set (row_of cube) earlier Any)

-- The cube of the row alone.
pub grown_start : (inputs : ℕ) (words : List ℕ) (row : ℕ) (cube : Cube) → cube.inputs ≡ inputs → take inputs cube.places ≡ minterm inputs row → row < 2 ^ inputs
    → bit_of words row ≡ true → IsGrown inputs words row 0 cube
grown_start inputs words row cube width places below one =
    record {
      lies = record {
        width = width;
        within = λ other had.
            let parts = row_parts cube other had in
            let other_below : other < 2 ^ inputs = rw (← width) parts.0 in
            let agrees : row_agrees (map place_of (bits_of inputs row)) (bits_of inputs other) ≡ true = rw (← places, ← width) parts.1 in
            let bits = same_from_agrees (bits_of inputs row) (bits_of inputs other) (length-bits_of inputs row ∙ sym (length-bits_of inputs other)) agrees in
            let same : row ≡ other = sym (row_number-bits_of inputs row below) ∙ ap row_number bits ∙ row_number-bits_of inputs other other_below in
            rw (← same) one;
      };
      had =
          let below_own : row < 2 ^ cube.inputs = rw width below in
          let itself = agrees_with_itself (bits_of inputs row) in
          has_from cube row below_own (rw (width, places) itself);
      tight = λ earlier before. absurd (omega arith);
    }

-- One place made `Any`, where that stays within the table.
pub grown_wider : (inputs : ℕ) (words : List ℕ) (row place : ℕ) (cube freed : Cube) → IsGrown inputs words row place cube → freed.inputs ≡ cube.inputs
    → freed.places ≡ set cube.places place Any → ((other : ℕ) → bit_of freed.rows other ≡ true → bit_of words other ≡ true)
    → IsGrown inputs words row (place + 1) freed
grown_wider inputs words row place cube freed grown width places within =
    let is : row_of freed ≡ set (row_of cube) place Any
    = ap (λ n. take n freed.places) width ∙ ap (take cube.inputs) places ∙ take_set cube.inputs cube.places place Any in
    let parts = row_parts cube row grown.had in
    record {
      lies = record { width = width ∙ grown.lies.width; within = within };
      had =
          let below : row < 2 ^ freed.inputs = rw width parts.0 in
          let agrees = agrees_widened (row_of cube) (bits_of cube.inputs row) place parts.1 in
          has_from freed row below (rw (is, width) agrees);
      tight = λ earlier before asks.
          ⊎_elim
          (λ (here : earlier ≡ place).
          let any : get_or (row_of freed) earlier Any ≡ Any = rw is (any_at (row_of cube) place earlier here) in
          absurd (asks any))
          (λ (other : earlier ≡ place → ⊥).
          let kept : get_or (row_of freed) earlier Any ≡ get_or (row_of cube) earlier Any
          = ap (λ r. get_or r earlier Any) is ∙ get_or-set_other (row_of cube) place earlier Any Any other in
          let apart : place ≢ earlier = λ e. other (sym e) in
          let meets = meets_zero_widened inputs words (set (row_of cube) earlier Any) place (grown.tight earlier (omega arith) (λ any. asks (kept ∙ any))) in
          let swapped : set (set (row_of cube) earlier Any) place Any ≡ set (row_of freed) earlier Any
          = sym (ap (λ r. set r earlier Any) is ∙ set_comm (row_of cube) place earlier Any Any apart) in
          rw swapped at meets)
          (cases_eq earlier place);
    }
  where
    any_at : (row : List Place) (place earlier : ℕ) → earlier ≡ place → get_or (set row place Any) earlier Any ≡ Any
    any_at row place earlier here =
        rw here
        (⊎_elim
        (λ (inside : place < length row). get_or-set_same row place Any Any inside)
        (λ (past : length row ≤ place). get_or_past (set row place Any) place Any (omega (arith, length-set row place Any)))
        (cases_lt place (length row)))

-- One place kept, where it cannot be made `Any`.
pub grown_kept : (inputs : ℕ) (words : List ℕ) (row place : ℕ) (cube freed : Cube) → IsGrown inputs words row place cube → freed.inputs ≡ cube.inputs
    → freed.places ≡ set cube.places place Any → (other : ℕ) → bit_of freed.rows other ≡ true → bit_of words other ≡ false
    → IsGrown inputs words row (place + 1) cube
grown_kept inputs words row place cube freed grown width places other had nought =
    let is : row_of freed ≡ set (row_of cube) place Any
    = ap (λ n. take n freed.places) width ∙ ap (take cube.inputs) places ∙ take_set cube.inputs cube.places place Any in
    record {
      lies = grown.lies;
      had = grown.had;
      tight = λ earlier before asks.
          ⊎_elim
          (λ (here : earlier ≡ place).
          let meets = meets_zero freed inputs words other (width ∙ grown.lies.width) had nought in
          rw here (rw is at meets))
          (λ (differs : earlier ≡ place → ⊥). grown.tight earlier (omega arith) asks)
          (cases_eq earlier place);
    }

-- A cube all of whose places were tried is prime.
pub grown_prime : (inputs : ℕ) (words : List ℕ) (row place : ℕ) (cube : Cube) → inputs ≤ place → IsGrown inputs words row place cube
    → IsPrimeCube inputs words cube
grown_prime inputs words row place cube all grown =
    record {
      lies = grown.lies;
      prime = λ earlier asks.
          ⊎_elim
          (λ (inside : earlier < inputs). grown.tight earlier (omega arith) asks)
          (λ (past : inputs ≤ earlier).
          let width = grown.lies.width in
          absurd (asks (get_or_past (row_of cube) earlier Any (omega (arith, row_long cube)))))
          (cases_lt earlier inputs);
    }
