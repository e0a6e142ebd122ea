-- Decimal numbers as words: what a parse tells of a number in a range.
use Rattle.std.proofs.Common.{◌≡◌, ◌≤◌, ◌<◌, ◌^◌, ℕ, Bool, true, false, not, ◌&&◌, ◌==◌, nat_le, if◌then◌else◌, List, [], ◌∷◌, length, slice_index, Option, None, Some, Result, Ok, Err, refl, sym, ap, ◌∙◌, subst, arith}
use Rattle.std.specs.Str.{all_ascii_digits}
use Rattle.std.specs.Str.Parse.{digits_value, ParsesUnsigned}
use Rattle.std.specs.Result.{OkIff}
use Rattle.std.proofs.lemmas.Bool.{and_parts, and_from, le-leb, leb-true, false≢true}
use Rattle.std.proofs.lemmas.Bool.Decides.{nat_tests}
use Rattle.std.proofs.lemmas.Str.Parse.{IsNumeralModel, numerals_by_value, tells_all_ascii_digits, parse_plain}
use Rattle.turbomap.specs.Words.{number_between}

own : IsNumeralModel (λ ds. all_ascii_digits ds ≡ true) (digits_value 10)
own = numerals_by_value (λ ds. all_ascii_digits ds ≡ true) tells_all_ascii_digits

-- a word that begins with a digit other than 0
abbrev pub is_headed : List ℕ → Bool
is_headed word = nat_le 49 (slice_index word 0) && nat_le (slice_index word 0) 57

abbrev is_within : ℕ → ℕ → List ℕ → Bool
is_within least most word =
    all_ascii_digits word && not (slice_index word 0 == 48) && nat_le least (digits_value 10 word) && nat_le (digits_value 10 word) most

-- ---- tests of numbers

above_zero : (x : ℕ) → (nat_le 49 x && nat_le x 57) ≡ true → not (x == 48) ≡ true
above_zero x head = grind (arith, nat_tests)

no_plus : (x : ℕ) → (nat_le 49 x && nat_le x 57) ≡ true → x ≡ 43 → ⊥
no_plus x head is = let low = leb-true 49 x (and_parts (nat_le 49 x) (nat_le x 57) head).0 in omega (arith, low, is)

chosen : (b : Bool) (x : Option ℕ) → b ≡ true → (if b then x else None) ≡ x
chosen true x is = refl
chosen false x is = absurd (false≢true is)

not_chosen : (b : Bool) (x : Option ℕ) → (b ≡ true → ⊥) → (if b then x else None) ≡ None
not_chosen true x never = absurd (never refl)
not_chosen false x never = refl

-- what the test of a number says
pub record IsWithin (least most : ℕ) (word : List ℕ) : Type 0 where
  pub digits : all_ascii_digits word ≡ true
  pub plain : not (slice_index word 0 == 48) ≡ true
  pub low : least ≤ digits_value 10 word
  pub high : digits_value 10 word ≤ most

parts_of : (least most : ℕ) (word : List ℕ) → is_within least most word ≡ true → IsWithin least most word
parts_of least most word is =
    let v = digits_value 10 word in
    let last = and_parts (all_ascii_digits word && not (slice_index word 0 == 48) && nat_le least v) (nat_le v most) is in
    let third = and_parts (all_ascii_digits word && not (slice_index word 0 == 48)) (nat_le least v) last.0 in
    let second = and_parts (all_ascii_digits word) (not (slice_index word 0 == 48)) third.0 in
    record { digits = second.0; plain = second.1; low = leb-true least v third.1; high = leb-true v most last.1 }

-- ---- numbers

number_told : (least most : ℕ) (word : List ℕ) → IsWithin least most word → number_between least most word ≡ Some (digits_value 10 word)
number_told least most word is =
    let v = digits_value 10 word in
    chosen (is_within least most word) (Some v)
    (and_from (all_ascii_digits word && not (slice_index word 0 == 48) && nat_le least v) (nat_le v most)
    (and_from (all_ascii_digits word && not (slice_index word 0 == 48)) (nat_le least v)
    (and_from (all_ascii_digits word) (not (slice_index word 0 == 48)) is.digits is.plain) (le-leb least v is.low)) (le-leb v most is.high))

number_not : (least most : ℕ) (word : List ℕ) → (IsWithin least most word → ⊥) → number_between least most word ≡ None
number_not least most word never =
    not_chosen (is_within least most word) (Some (digits_value 10 word)) (λ is. never (parts_of least most word is))

-- a word that begins so, and does not parse
pub number_unparsed : {E : Type 0} (least most : ℕ) (word : List ℕ) (r : Result ℕ E) (e : E) → most < 2 ^ 32 → is_headed word ≡ true
    → ParsesUnsigned 32 10 word r → r ≡ Err e → number_between least most word ≡ None
number_unparsed least most word r e below headed parses is =
    let told = parse_plain own 32 word r parses (no_plus (slice_index word 0) headed) in
    let none = subst (λ r. OkIff r ((all_ascii_digits word ≡ true) × (0 < length word) × (digits_value 10 word < 2 ^ 32)) (digits_value 10 word)) is told in
    number_not least most word (λ within. none (within.digits, some word headed, omega (arith, within.high, below)))
  where
    some : (word : List ℕ) → is_headed word ≡ true → 0 < length word
    some [] headed = absurd (false≢true headed)
    some (c ∷ cs) headed = omega arith

-- a word that begins so, and parses: it is a number where that is in the range
pub number_parsed : {E : Type 0} (least most : ℕ) (word : List ℕ) (r : Result ℕ E) (n : ℕ) → is_headed word ≡ true
    → ParsesUnsigned 32 10 word r → r ≡ Ok n
    → number_between least most word ≡ (if nat_le least n && nat_le n most then Some n else None)
number_parsed least most word r n headed parses is =
    let told = parse_plain own 32 word r parses (no_plus (slice_index word 0) headed) in
    let is_ok = subst (λ r. OkIff r ((all_ascii_digits word ≡ true) × (0 < length word) × (digits_value 10 word < 2 ^ 32)) (digits_value 10 word)) is told in
    by (nat_le least n && nat_le n most) refl is_ok.0.0 is_ok.1
  where
    by : (b : Bool) → (nat_le least n && nat_le n most) ≡ b → all_ascii_digits word ≡ true → n ≡ digits_value 10 word
        → number_between least most word ≡ (if b then Some n else None)
    by true test digits value =
        let both = and_parts (nat_le least n) (nat_le n most) test in
        number_told least most word (record {
          digits = digits;
          plain = above_zero (slice_index word 0) headed;
          low = subst (λ v. least ≤ v) value (leb-true least n both.0);
          high = subst (λ v. v ≤ most) value (leb-true n most both.1);
        }) ∙ ap Some (sym value)
    by false test digits value =
        number_not least most word (λ within. false≢true (sym test ∙ and_from (nat_le least n) (nat_le n most)
        (le-leb least n (subst (λ v. least ≤ v) (sym value) within.low)) (le-leb n most (subst (λ v. v ≤ most) (sym value) within.high))))
