-- Sets of rows as the bits of four words.
use Rattle.std.proofs.Common.{◌≡◌, ℕ, zero, suc, ◌+◌, ◌-◌, ◌/◌, ◌%◌, ◌^◌, ◌<◌, ◌≤◌, min, max, Bool, true, false, not, ◌&&◌, ◌||◌, eqb, List, [], ◌∷◌, length, get_or, refl, sym, ap, ◌∙◌, arith, w64, bit_and, bit_or, MatchBool, IsTrue, All, ⊎_elim, ◌*◌, ◌↔◌}
use Rattle.std.specs.Int.{bit_at, trailing_zeros}
use Rattle.std.specs.List.{list_all}
use Rattle.std.proofs.lemmas.List.{get_or_past, get_or_default}
use Rattle.std.proofs.lemmas.Nat.Bits.{bit_at_and, bit_at_or, bit_at_not, bit_at-lt, bit_at-zero, bit_at-trailing_zeros}
use Rattle.std.proofs.lemmas.Bool.{cases_Bool, cases_lt, and_parts, eqb-true, eqb-false, not-true, not-false, agree_below_at, true_from_ne_false, false_from_ne_true, both_ways, MatchBool-at_true, MatchBool-at_false}
use Rattle.tm_bits.specs.Tables.{bit_of}

min_of_bits : (m n : ℕ) → m < 2 → n < 2 → eqb (min m n) 1 ≡ (eqb m 1 && eqb n 1)
min_of_bits zero zero small few = refl
min_of_bits zero (suc zero) small few = refl
min_of_bits zero (suc (suc n)) small few = absurd (omega arith)
min_of_bits (suc zero) zero small few = refl
min_of_bits (suc zero) (suc zero) small few = refl
min_of_bits (suc zero) (suc (suc n)) small few = absurd (omega arith)
min_of_bits (suc (suc m)) n small few = absurd (omega arith)

max_of_bits : (m n : ℕ) → m < 2 → n < 2 → eqb (max m n) 1 ≡ (eqb m 1 || eqb n 1)
max_of_bits zero zero small few = refl
max_of_bits zero (suc zero) small few = refl
max_of_bits zero (suc (suc n)) small few = absurd (omega arith)
max_of_bits (suc zero) zero small few = refl
max_of_bits (suc zero) (suc zero) small few = refl
max_of_bits (suc zero) (suc (suc n)) small few = absurd (omega arith)
max_of_bits (suc (suc m)) n small few = absurd (omega arith)

other_bit : (n : ℕ) → n < 2 → eqb (1 - n) 1 ≡ not (eqb n 1)
other_bit zero small = refl
other_bit (suc zero) small = refl
other_bit (suc (suc n)) small = absurd (omega arith)

-- One bit of a word.
abbrev word_bit : ℕ → ℕ → Bool
word_bit word place = eqb (bit_at word place) 1

word_and : (a b place : ℕ) → word_bit (bit_and a b) place ≡ (word_bit a place && word_bit b place)
word_and a b place =
    ap (λ n. eqb n 1) (bit_at_and a b place) ∙ min_of_bits (bit_at a place) (bit_at b place) (bit_at-lt a place) (bit_at-lt b place)

word_or : (a b place : ℕ) → word_bit (bit_or a b) place ≡ (word_bit a place || word_bit b place)
word_or a b place =
    ap (λ n. eqb n 1) (bit_at_or a b place) ∙ max_of_bits (bit_at a place) (bit_at b place) (bit_at-lt a place) (bit_at-lt b place)

word_not : (a place : ℕ) → a < 2 ^ 64 → place < 64 → word_bit (18446744073709551615 - a) place ≡ not (word_bit a place)
word_not a place fits inside = ap (λ n. eqb n 1) (bit_at_not w64 a place fits inside) ∙ other_bit (bit_at a place) (bit_at-lt a place)

word_minus : (a b place : ℕ) → b < 2 ^ 64 → place < 64 → word_bit (bit_and a (18446744073709551615 - b)) place ≡ (word_bit a place && not (word_bit b place))
word_minus a b place fits inside =
    word_and a (18446744073709551615 - b) place ∙ ap (λ x. word_bit a place && x) (word_not b place fits inside)

-- There is no row past the fourth word.
past_words : (words : List ℕ) (index place : ℕ) → length words ≡ 4 → 4 ≤ index → word_bit (get_or words index 0) place ≡ false
past_words words index place four past = rw (get_or_past words index 0 (omega arith), bit_at-zero place) refl

pub bit_of-intersection : (a b : List ℕ) → length a ≡ 4 → length b ≡ 4 → (row : ℕ)
    → bit_of (bit_and (get_or a 0 0) (get_or b 0 0) ∷ bit_and (get_or a 1 0) (get_or b 1 0) ∷ bit_and (get_or a 2 0) (get_or b 2 0) ∷ bit_and (get_or a 3 0) (get_or b 3 0) ∷ []) row
    ≡ (bit_of a row && bit_of b row)
bit_of-intersection a b four_a four_b row = by_index (row / 64)
  where
    by_index : (index : ℕ) → word_bit (get_or (bit_and (get_or a 0 0) (get_or b 0 0) ∷ bit_and (get_or a 1 0) (get_or b 1 0) ∷ bit_and (get_or a 2 0) (get_or b 2 0) ∷ bit_and (get_or a 3 0) (get_or b 3 0) ∷ []) index 0) (row % 64)
        ≡ (word_bit (get_or a index 0) (row % 64) && word_bit (get_or b index 0) (row % 64))
    by_index zero = word_and _ _ (row % 64)
    by_index (suc zero) = word_and _ _ (row % 64)
    by_index (suc (suc zero)) = word_and _ _ (row % 64)
    by_index (suc (suc (suc zero))) = word_and _ _ (row % 64)
    by_index (suc (suc (suc (suc more)))) =
        rw (past_words a (suc (suc (suc (suc more)))) (row % 64) four_a (omega arith), bit_at-zero (row % 64)) refl

pub bit_of-union : (a b : List ℕ) → length a ≡ 4 → length b ≡ 4 → (row : ℕ)
    → bit_of (bit_or (get_or a 0 0) (get_or b 0 0) ∷ bit_or (get_or a 1 0) (get_or b 1 0) ∷ bit_or (get_or a 2 0) (get_or b 2 0) ∷ bit_or (get_or a 3 0) (get_or b 3 0) ∷ []) row
    ≡ (bit_of a row || bit_of b row)
bit_of-union a b four_a four_b row = by_index (row / 64)
  where
    by_index : (index : ℕ) → word_bit (get_or (bit_or (get_or a 0 0) (get_or b 0 0) ∷ bit_or (get_or a 1 0) (get_or b 1 0) ∷ bit_or (get_or a 2 0) (get_or b 2 0) ∷ bit_or (get_or a 3 0) (get_or b 3 0) ∷ []) index 0) (row % 64)
        ≡ (word_bit (get_or a index 0) (row % 64) || word_bit (get_or b index 0) (row % 64))
    by_index zero = word_or _ _ (row % 64)
    by_index (suc zero) = word_or _ _ (row % 64)
    by_index (suc (suc zero)) = word_or _ _ (row % 64)
    by_index (suc (suc (suc zero))) = word_or _ _ (row % 64)
    by_index (suc (suc (suc (suc more)))) =
        rw (past_words a (suc (suc (suc (suc more)))) (row % 64) four_a (omega arith), past_words b (suc (suc (suc (suc more)))) (row % 64) four_b (omega arith), bit_at-zero (row % 64)) refl

-- Each word is one of 64 bits.
abbrev pub AreWords : List ℕ → Type 0
AreWords words = (index : ℕ) → get_or words index 0 < 2 ^ 64

pub bit_of-difference : (a b : List ℕ) → length a ≡ 4 → get_or b 0 0 < 2 ^ 64 → get_or b 1 0 < 2 ^ 64 → get_or b 2 0 < 2 ^ 64 → get_or b 3 0 < 2 ^ 64 → (row : ℕ)
    → bit_of (bit_and (get_or a 0 0) (18446744073709551615 - get_or b 0 0) ∷ bit_and (get_or a 1 0) (18446744073709551615 - get_or b 1 0) ∷ bit_and (get_or a 2 0) (18446744073709551615 - get_or b 2 0) ∷ bit_and (get_or a 3 0) (18446744073709551615 - get_or b 3 0) ∷ []) row
    ≡ (bit_of a row && not (bit_of b row))
bit_of-difference a b four_a fit_0 fit_1 fit_2 fit_3 row = by_index (row / 64)
  where
    inside : row % 64 < 64
    inside = omega arith

    by_index : (index : ℕ) → word_bit (get_or (bit_and (get_or a 0 0) (18446744073709551615 - get_or b 0 0) ∷ bit_and (get_or a 1 0) (18446744073709551615 - get_or b 1 0) ∷ bit_and (get_or a 2 0) (18446744073709551615 - get_or b 2 0) ∷ bit_and (get_or a 3 0) (18446744073709551615 - get_or b 3 0) ∷ []) index 0) (row % 64)
        ≡ (word_bit (get_or a index 0) (row % 64) && not (word_bit (get_or b index 0) (row % 64)))
    by_index zero = word_minus _ _ (row % 64) fit_0 inside
    by_index (suc zero) = word_minus _ _ (row % 64) fit_1 inside
    by_index (suc (suc zero)) = word_minus _ _ (row % 64) fit_2 inside
    by_index (suc (suc (suc zero))) = word_minus _ _ (row % 64) fit_3 inside
    by_index (suc (suc (suc (suc more)))) =
        rw (past_words a (suc (suc (suc (suc more)))) (row % 64) four_a (omega arith), bit_at-zero (row % 64)) refl

-- A list that does not pass a test has an element that fails it.
failing_at : (test : ℕ → Bool) (xs : List ℕ) → list_all test xs ≡ false → (i : ℕ) × (i < length xs) × (test (get_or xs i 0) ≡ false)
failing_at test [] fails = cc
failing_at test (x ∷ xs) fails =
    ⊎_elim
    (λ (here : test x ≡ true).
    let rest = failing_at test xs (rw here at fails) in (suc rest.0, omega arith, rest.2))
    (λ (here : test x ≡ false). (0, omega arith, here))
    (cases_Bool (test x))

passing_at : (test : ℕ → Bool) (xs : List ℕ) → list_all test xs ≡ true → (i : ℕ) → i < length xs → test (get_or xs i 0) ≡ true
passing_at test [] passes i inside = absurd (omega arith)
passing_at test (x ∷ xs) passes zero inside = (and_parts (test x) (list_all test xs) passes).0
passing_at test (x ∷ xs) passes (suc i) inside = passing_at test xs (and_parts (test x) (list_all test xs) passes).1 i (omega arith)

-- A word that is not 0 has a row.
row_of_word : (words : List ℕ) (index : ℕ) → get_or words index 0 < 2 ^ 64 → eqb (get_or words index 0) 0 ≡ false → (row : ℕ) × (bit_of words row ≡ true)
row_of_word words index fits some =
    let word = get_or words index 0 in
    let differs = eqb-false word 0 some in
    let positive : 0 < word = omega arith in
    let lowest = bit_at-trailing_zeros w64 word positive fits in
    let place = trailing_zeros w64 word in
    let small : place < 64 = lowest.0 in
    let row = 64 * index + place in
    let at_index : row / 64 ≡ index = omega arith in
    let at_place : row % 64 ≡ place = omega arith in
    (row, rw (at_index, at_place, lowest.1) refl)

pub no_row : (words : List ℕ) → length words ≡ 4 → list_all (λ word. eqb word 0) words ≡ true → (row : ℕ) → bit_of words row ≡ false
no_row words four all row =
    ⊎_elim
    (λ (inside : row / 64 < length words).
    let is_zero : get_or words (row / 64) 0 ≡ 0 = eqb-true _ 0 (passing_at (λ word. eqb word 0) words all (row / 64) inside) in
    rw (is_zero, bit_at-zero (row % 64)) refl)
    (λ (past : length words ≤ row / 64). past_words words (row / 64) (row % 64) four (omega arith))
    (cases_lt (row / 64) (length words))

-- A test of the words tells whether a set has no row.
pub empty_by_words : (words : List ℕ) → length words ≡ 4 → AreWords words
    → MatchBool (list_all (λ word. eqb word 0) words) ((row : ℕ) → bit_of words row ≡ false) ((row : ℕ) × (bit_of words row ≡ true))
empty_by_words words four fit = by_test (list_all (λ word. eqb word 0) words) refl
  where
    by_test : (test : Bool) → list_all (λ word. eqb word 0) words ≡ test
        → MatchBool test ((row : ℕ) → bit_of words row ≡ false) ((row : ℕ) × (bit_of words row ≡ true))
    by_test true all = no_row words four all
    by_test false some =
        let failing = failing_at (λ word. eqb word 0) words some in row_of_word words failing.0 (fit failing.0) failing.2

-- The same test of the rows of one set that another lacks.
pub within_by_test : (test : Bool) (lacking set other : List ℕ)
    → MatchBool test ((row : ℕ) → bit_of lacking row ≡ false) ((row : ℕ) × (bit_of lacking row ≡ true))
    → ((row : ℕ) → bit_of lacking row ≡ (bit_of set row && not (bit_of other row)))
    → MatchBool test ((row : ℕ) → bit_of set row ≡ true → bit_of other row ≡ true) ((row : ℕ) × (bit_of set row ≡ true) × (bit_of other row ≡ false))
within_by_test true lacking set other none are = λ row in_set.
    let lacks : (bit_of set row && not (bit_of other row)) ≡ false = sym (are row) ∙ none row in
    not-false (bit_of other row) (rw in_set at lacks)
within_by_test false lacking set other found are =
    let parts = and_parts (bit_of set found.0) (not (bit_of other found.0)) (sym (are found.0) ∙ found.1) in
    (found.0, parts.0, not-true (bit_of other found.0) parts.1)

-- No set of four words has a row from 256 on.
pub past_rows : (words : List ℕ) → length words ≡ 4 → (row : ℕ) → 256 ≤ row → bit_of words row ≡ false
past_rows words four row past = past_words words (row / 64) (row % 64) four (omega arith)

-- The rows in whose number a bit is 1, for each bit.
abbrev pub rows_of_bits : List (List ℕ)
rows_of_bits =
    (12297829382473034410 ∷ 12297829382473034410 ∷ 12297829382473034410 ∷ 12297829382473034410 ∷ [])
    ∷ (14757395258967641292 ∷ 14757395258967641292 ∷ 14757395258967641292 ∷ 14757395258967641292 ∷ [])
    ∷ (17361641481138401520 ∷ 17361641481138401520 ∷ 17361641481138401520 ∷ 17361641481138401520 ∷ [])
    ∷ (18374966859414961920 ∷ 18374966859414961920 ∷ 18374966859414961920 ∷ 18374966859414961920 ∷ [])
    ∷ (18446462603027742720 ∷ 18446462603027742720 ∷ 18446462603027742720 ∷ 18446462603027742720 ∷ [])
    ∷ (18446744069414584320 ∷ 18446744069414584320 ∷ 18446744069414584320 ∷ 18446744069414584320 ∷ [])
    ∷ (0 ∷ 18446744073709551615 ∷ 0 ∷ 18446744073709551615 ∷ [])
    ∷ (0 ∷ 0 ∷ 18446744073709551615 ∷ 18446744073709551615 ∷ []) ∷ []

pub bit_of-rows_of_bits : (bit : ℕ) → bit < 8 → (row : ℕ) → row < 256 → bit_of (get_or rows_of_bits bit []) row ≡ eqb (bit_at row bit) 1
bit_of-rows_of_bits zero few row below =
    agree_below_at (bit_of (12297829382473034410 ∷ 12297829382473034410 ∷ 12297829382473034410 ∷ 12297829382473034410 ∷ [])) (λ other. eqb (bit_at other 0) 1) 256 row refl below
bit_of-rows_of_bits (suc zero) few row below =
    agree_below_at (bit_of (14757395258967641292 ∷ 14757395258967641292 ∷ 14757395258967641292 ∷ 14757395258967641292 ∷ [])) (λ other. eqb (bit_at other 1) 1) 256 row refl below
bit_of-rows_of_bits (suc (suc zero)) few row below =
    agree_below_at (bit_of (17361641481138401520 ∷ 17361641481138401520 ∷ 17361641481138401520 ∷ 17361641481138401520 ∷ [])) (λ other. eqb (bit_at other 2) 1) 256 row refl below
bit_of-rows_of_bits (suc (suc (suc zero))) few row below =
    agree_below_at (bit_of (18374966859414961920 ∷ 18374966859414961920 ∷ 18374966859414961920 ∷ 18374966859414961920 ∷ [])) (λ other. eqb (bit_at other 3) 1) 256 row refl below
bit_of-rows_of_bits (suc (suc (suc (suc zero)))) few row below =
    agree_below_at (bit_of (18446462603027742720 ∷ 18446462603027742720 ∷ 18446462603027742720 ∷ 18446462603027742720 ∷ [])) (λ other. eqb (bit_at other 4) 1) 256 row refl below
bit_of-rows_of_bits (suc (suc (suc (suc (suc zero))))) few row below =
    agree_below_at (bit_of (18446744069414584320 ∷ 18446744069414584320 ∷ 18446744069414584320 ∷ 18446744069414584320 ∷ [])) (λ other. eqb (bit_at other 5) 1) 256 row refl below
bit_of-rows_of_bits (suc (suc (suc (suc (suc (suc zero)))))) few row below =
    agree_below_at (bit_of (0 ∷ 18446744073709551615 ∷ 0 ∷ 18446744073709551615 ∷ [])) (λ other. eqb (bit_at other 6) 1) 256 row refl below
bit_of-rows_of_bits (suc (suc (suc (suc (suc (suc (suc zero))))))) few row below =
    agree_below_at (bit_of (0 ∷ 0 ∷ 18446744073709551615 ∷ 18446744073709551615 ∷ [])) (λ other. eqb (bit_at other 7) 1) 256 row refl below
bit_of-rows_of_bits (suc (suc (suc (suc (suc (suc (suc (suc more)))))))) few row below = absurd (omega arith)

-- A set of which those rows are kept in whose number a bit is as a place asks.
pub kept_where_one : (bit : ℕ) (rows set kept : List ℕ) → length set ≡ 4 → ((row : ℕ) → row < 256 → bit_of rows row ≡ eqb (bit_at row bit) 1)
    → ((row : ℕ) → bit_of kept row ≡ (bit_of set row && bit_of rows row)) → (row : ℕ) → bit_of kept row ≡ (bit_of set row && eqb (bit_at row bit) 1)
kept_where_one bit rows set kept four tell are row =
    ⊎_elim
    (λ (below : row < 256). are row ∙ ap (λ x. bit_of set row && x) (tell row below))
    (λ (past : 256 ≤ row). let none = past_rows set four row past in are row ∙ rw none refl)
    (cases_lt row 256)

pub kept_where_zero : (bit : ℕ) (rows set kept : List ℕ) → length set ≡ 4 → ((row : ℕ) → row < 256 → bit_of rows row ≡ eqb (bit_at row bit) 1)
    → ((row : ℕ) → bit_of kept row ≡ (bit_of set row && not (bit_of rows row))) → (row : ℕ) → bit_of kept row ≡ (bit_of set row && not (eqb (bit_at row bit) 1))
kept_where_zero bit rows set kept four tell are row =
    ⊎_elim
    (λ (below : row < 256). are row ∙ ap (λ x. bit_of set row && not x) (tell row below))
    (λ (past : 256 ≤ row). let none = past_rows set four row past in are row ∙ rw none refl)
    (cases_lt row 256)

all_zero : (words : List ℕ) → list_all (λ word. eqb word 0) words ≡ true → All (λ word. word ≡ 0) words
all_zero words passes k d inside =
    let is : eqb (get_or words k d) 0 ≡ true = rw (get_or_default words k d 0 inside) (passing_at (λ word. eqb word 0) words passes k inside) in
    eqb-true (get_or words k d) 0 is

zero_passes : (words : List ℕ) → All (λ word. word ≡ 0) words → list_all (λ word. eqb word 0) words ≡ true
zero_passes words all =
    true_from_ne_false _
    (λ fails.
    let failing = failing_at (λ word. eqb word 0) words fails in
    eqb-false (get_or words failing.0 0) 0 failing.2 (all failing.0 0 failing.1))

-- The same, of a test that is true exactly where each word is 0.
pub empty_by_all : (test : Bool) (words : List ℕ) → length words ≡ 4 → AreWords words → IsTrue test ↔ All (λ word. word ≡ 0) words
    → MatchBool test ((row : ℕ) → bit_of words row ≡ false) ((row : ℕ) × (bit_of words row ≡ true))
empty_by_all true words four fit is =
    MatchBool-at_true _ _ (zero_passes words (is.0 refl)) (empty_by_words words four fit)
empty_by_all false words four fit is =
    MatchBool-at_false _ _ (false_from_ne_true _ (λ passes. both_ways false refl (is.1 (all_zero words passes)))) (empty_by_words words four fit)
