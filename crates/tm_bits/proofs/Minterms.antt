-- The rows without `Any` that spell a table: how their list grows, and that together they hold exactly on the rows of value 1.
use Rattle.std.proofs.Common.{◌≡◌, ℕ, zero, suc, ◌+◌, ◌^◌, ◌<◌, ◌≤◌, Bool, true, false, cond, List, [], ◌∷◌, ◌++◌, length, map, All, refl, sym, ap, ◌∙◌, arith, ⊎_elim}
use Rattle.std.specs.List.{range_with_len, filter, list_any}
use Rattle.std.proofs.lemmas.List.{append-nil, map-append, map-id, length-map}
use Rattle.std.proofs.lemmas.List.Elements.{filter-append, All-map}
use Rattle.std.proofs.lemmas.List.FromFn.{map-range_with_len_more}
use Rattle.std.proofs.lemmas.Bool.{cases_Bool, cases_eq, false_from_ne_true, both_ways, or_right, or_from}
use Rattle.tm_bits.specs.declared.cover.Place.{Place}
use Rattle.tm_bits.specs.Rows.{AreEven, row_agrees}
use Rattle.tm_bits.specs.Tables.{bit_of, bits_of, row_number, place_of, minterm, minterms, IsTableOf}
use Rattle.tm_bits.proofs.Evenness.{even_from_width}
use Rattle.tm_bits.proofs.RowNumbers.{length-bits_of, row_number-bits_of}

-- The minterms of the rows below one, the first ones of the whole list.
abbrev pub minterms_below : ℕ → List ℕ → ℕ → List (List Place)
minterms_below inputs words rows = map (minterm inputs) (filter (bit_of words) (range_with_len 0 rows))

range_more : (n : ℕ) → range_with_len 0 (n + 1) ≡ range_with_len 0 n ++ n ∷ []
range_more n =
    sym (map-id (range_with_len 0 (n + 1)))
    ∙ map-range_with_len_more (λ k. k) 0 n n (omega arith)
    ∙ ap (λ ks. ks ++ n ∷ []) (map-id (range_with_len 0 n))

-- One more row.
minterms_more : (inputs : ℕ) (words : List ℕ) (row : ℕ) → minterms_below inputs words (row + 1) ≡ minterms_below inputs words row ++ map (minterm inputs) (cond (bit_of words row) (row ∷ []) [])
minterms_more inputs words row =
    ap (λ ks. map (minterm inputs) (filter (bit_of words) ks)) (range_more row)
    ∙ ap (map (minterm inputs)) (filter-append (bit_of words) (range_with_len 0 row) (row ∷ []))
    ∙ map-append (minterm inputs) (filter (bit_of words) (range_with_len 0 row)) (filter (bit_of words) (row ∷ []))

pub minterms_pushed : (inputs : ℕ) (words : List ℕ) (row : ℕ) → bit_of words row ≡ true → minterms_below inputs words (row + 1) ≡ minterms_below inputs words row ++ minterm inputs row ∷ []
minterms_pushed inputs words row one = rw one at (minterms_more inputs words row)

pub minterms_kept : (inputs : ℕ) (words : List ℕ) (row : ℕ) → bit_of words row ≡ false → minterms_below inputs words (row + 1) ≡ minterms_below inputs words row
minterms_kept inputs words row nought = (rw nought at (minterms_more inputs words row)) ∙ append-nil (minterms_below inputs words row)

-- Each has a place for each input.
pub minterms_width : (inputs : ℕ) (words : List ℕ) (rows : ℕ) → All (λ row. length row ≡ inputs) (minterms_below inputs words rows)
minterms_width inputs words rows =
    All-map (λ row. length row ≡ inputs) (minterm inputs) (filter (bit_of words) (range_with_len 0 rows))
    (λ k d inside. length-map _ place_of ∙ length-bits_of inputs _)

pub minterms_even : (inputs : ℕ) (words : List ℕ) (rows : ℕ) → AreEven (minterms_below inputs words rows)
minterms_even inputs words rows = even_from_width _ inputs (minterms_width inputs words rows)

-- The places for some bits agree with these bits, and with no others.
agrees_with_itself : (bits : List Bool) → row_agrees (map place_of bits) bits ≡ true
agrees_with_itself [] = refl
agrees_with_itself (true ∷ bits) = agrees_with_itself bits
agrees_with_itself (false ∷ bits) = agrees_with_itself bits

same_from_agrees : (bits others : List Bool) → length bits ≡ length others → row_agrees (map place_of bits) others ≡ true → bits ≡ others
same_from_agrees [] [] long agrees = refl
same_from_agrees [] (other ∷ others) long agrees = cc
same_from_agrees (bit ∷ bits) [] long agrees = cc
same_from_agrees (true ∷ bits) (true ∷ others) long agrees = ap (λ rest. true ∷ rest) (same_from_agrees bits others (cc) agrees)
same_from_agrees (false ∷ bits) (false ∷ others) long agrees = ap (λ rest. false ∷ rest) (same_from_agrees bits others (cc) agrees)
same_from_agrees (true ∷ bits) (false ∷ others) long agrees = cc
same_from_agrees (false ∷ bits) (true ∷ others) long agrees = cc

-- A row of the list passes a test where the row of the table that it comes from is 1 and passes it.
found : (test : List Place → Bool) (term : ℕ → List Place) (is_one : ℕ → Bool) (from count row : ℕ) → from ≤ row → row < from + count → test (term row) ≡ true → is_one row ≡ true → list_any test (map term (filter is_one (range_with_len from count))) ≡ true
found test term is_one from zero row low high passes one = absurd (omega arith)
found test term is_one from (suc count) row low high passes one =
    ⊎_elim
    (λ (here : from ≡ row). rw (here, one, passes) refl)
    (λ (later : from ≡ row → ⊥).
    let rest = found test term is_one (from + 1) count row (omega arith) (omega arith) passes one in
    ⊎_elim
    (λ (kept : is_one from ≡ true). rw kept (or_right (test (term from)) _ rest))
    (λ (left : is_one from ≡ false). rw left rest)
    (cases_Bool (is_one from)))
    (cases_eq from row)

-- None does where each row of value 1 fails it.
missed : (test : List Place → Bool) (term : ℕ → List Place) (is_one : ℕ → Bool) (from count : ℕ) → ((row : ℕ) → from ≤ row → row < from + count → is_one row ≡ true → test (term row) ≡ false) → list_any test (map term (filter is_one (range_with_len from count))) ≡ false
missed test term is_one from zero fails = refl
missed test term is_one from (suc count) fails =
    let rest = missed test term is_one (from + 1) count (λ row low high one. fails row (omega arith) (omega arith) one) in
    ⊎_elim
    (λ (kept : is_one from ≡ true). rw kept (or_from (test (term from)) _ (fails from (omega arith) (omega arith) kept) rest))
    (λ (left : is_one from ≡ false). rw left rest)
    (cases_Bool (is_one from))

-- Rows that give the same bits are the same.
same_row : (inputs row other : ℕ) → row < 2 ^ inputs → other < 2 ^ inputs → bits_of inputs other ≡ bits_of inputs row → other ≡ row
same_row inputs row other below also same =
    sym (row_number-bits_of inputs other also) ∙ ap row_number same ∙ row_number-bits_of inputs row below

-- The minterms of a table hold exactly where the table is 1.
pub minterms_table : (inputs : ℕ) (words : List ℕ) → IsTableOf (λ bits. list_any (λ row. row_agrees row bits) (minterms inputs words)) inputs words
minterms_table inputs words row below = by_value (bit_of words row) refl
  where
    test : List Place → Bool
    test places = row_agrees places (bits_of inputs row)

    by_value : (value : Bool) → bit_of words row ≡ value → value ≡ list_any (λ places. row_agrees places (bits_of inputs row)) (minterms inputs words)
    by_value true is = sym (found _ (minterm inputs) (bit_of words) 0 (2 ^ inputs) row (omega arith) (omega arith) (agrees_with_itself (bits_of inputs row)) is)
    by_value false is =
        sym (missed _ (minterm inputs) (bit_of words) 0 (2 ^ inputs)
        (λ other low high one. false_from_ne_true _
        (λ agrees.
        let same = same_from_agrees (bits_of inputs other) (bits_of inputs row) (length-bits_of inputs other ∙ sym (length-bits_of inputs row)) agrees in
        let here = same_row inputs row other below (omega arith) same in
        both_ways _ is (rw here at one))))
