-- Bits in the words of a table.
use Rattle.std.proofs.Common.{◌≡◌, ◌≢◌, ℕ, zero, suc, ◌+◌, ◌-◌, ◌*◌, ◌/◌, ◌%◌, ◌^◌, ◌<◌, ◌≤◌, Bool, eqb, ltb, List, [], ◌∷◌, length, get_or, set, refl, ap, ◌∙◌, arith, ⊎_elim}
use Rattle.std.specs.Int.{bit_at}
use Rattle.std.proofs.Math.Pow.{pow_mono}
use Rattle.std.proofs.lemmas.List.{get_or-set_same, get_or-set_other}
use Rattle.std.proofs.lemmas.Nat.Bits.{bit_at_ones, bit_at_ones_above, ones_shr, bit_at-zero}
use Rattle.std.proofs.lemmas.Bool.{cases_lt, cases_eq, lt-ltb, le-ltb}
use Rattle.tm_bits.specs.Tables.{bit_of}

-- A table of at most 8 inputs has at most 256 rows.
pub rows_fit : (inputs : ℕ) → inputs ≤ 8 → 2 ^ inputs ≤ 256
rows_fit inputs few = pow_mono few

-- `MAX >> (64 - count)` has its lowest bits set, so many.
pub bit_at_low_ones : (count place : ℕ) → count ≤ 64 → eqb (bit_at ((2 ^ 64 - 1) / 2 ^ (64 - count)) place) 1 ≡ ltb place count
bit_at_low_ones count place fits =
    let shifted = ones_shr 64 (64 - count) (omega arith) in
    let back : 64 - (64 - count) ≡ count = omega arith in
    rw (shifted, back)
    (⊎_elim
    (λ (inside : place < count). rw (bit_at_ones count place inside, lt-ltb place count inside) refl)
    (λ (past : count ≤ place). rw (bit_at_ones_above count place past, le-ltb place count past) refl)
    (cases_lt place count))

-- A write of one word changes the bit on one row.
pub bit_of-set_same : (words : List ℕ) (row word : ℕ) (value : Bool) → row / 64 < length words → eqb (bit_at word (row % 64)) 1 ≡ value → bit_of (set words (row / 64) word) row ≡ value
bit_of-set_same words row word value inside is = rw get_or-set_same is

pub bit_of-set_other : (words : List ℕ) (row word : ℕ) → row / 64 < length words → ((place : ℕ) → place < 64 → place ≢ row % 64 → bit_at word place ≡ bit_at (get_or words (row / 64) 0) place) → (other : ℕ) → other ≢ row → bit_of (set words (row / 64) word) other ≡ bit_of words other
bit_of-set_other words row word inside kept other apart =
    ⊎_elim
    (λ (same : other / 64 ≡ row / 64).
    let below : other % 64 < 64 = omega arith in
    let elsewhere : other % 64 ≢ row % 64 = λ e. apart (omega arith) in
    let bit = kept (other % 64) below elsewhere in
    rw (same, get_or-set_same) (ap (λ n. eqb n 1) bit))
    (λ (differ : other / 64 ≡ row / 64 → ⊥). rw get_or-set_other refl)
    (cases_eq (other / 64) (row / 64))

-- A word that is 1 on the rows of a table below some row.
pub record HasFirst (rows index word : ℕ) : Type 0 where
  pub bits : (place : ℕ) → place < 64 → eqb (bit_at word place) 1 ≡ ltb (64 * index + place) rows

-- The bit on a row from the word that holds it.
bit_from_word : (rows index word row : ℕ) → HasFirst rows index word → row / 64 ≡ index → eqb (bit_at word (row % 64)) 1 ≡ ltb row rows
bit_from_word rows index word row has here =
    let place : 64 * index + row % 64 ≡ row = omega arith in
    has.bits (row % 64) (omega arith) ∙ ap (λ n. ltb n rows) place

-- Four words that are 1 on the first rows, so many.
pub bit_of-first_rows : (a b c d rows row : ℕ) → rows ≤ 256 → HasFirst rows 0 a → HasFirst rows 1 b → HasFirst rows 2 c → HasFirst rows 3 d → bit_of (a ∷ b ∷ c ∷ d ∷ []) row ≡ ltb row rows
bit_of-first_rows a b c d rows row few at_a at_b at_c at_d = by_index (row / 64) refl
  where
    by_index : (index : ℕ) → row / 64 ≡ index → eqb (bit_at (get_or (a ∷ b ∷ c ∷ d ∷ []) index 0) (row % 64)) 1 ≡ ltb row rows
    by_index zero here = bit_from_word rows 0 a row at_a here
    by_index (suc zero) here = bit_from_word rows 1 b row at_b here
    by_index (suc (suc zero)) here = bit_from_word rows 2 c row at_c here
    by_index (suc (suc (suc zero))) here = bit_from_word rows 3 d row at_d here
    by_index (suc (suc (suc (suc more)))) here = rw (bit_at-zero (row % 64), le-ltb row rows (omega arith)) refl
