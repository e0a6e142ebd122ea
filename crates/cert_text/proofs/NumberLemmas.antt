-- Numbers as words: how digits are read one by one, and that a number has one word.
use Rattle.std.proofs.Common.{◌≡◌, ℕ, zero, suc, ◌+◌, ◌-◌, ◌*◌, ◌^◌, ◌<◌, ◌≤◌, true, false, not, eqb, ltb, leb, ◌&&◌, List, [], ◌∷◌, ◌++◌, length, take, get_or, slice_index, decimal, All, Option, None, Some, SomeIff, refl, sym, ◌∙◌, ap, inl, inr, arith, lit<}
use Rattle.std.specs.Str.{all_ascii_digits}
use Rattle.std.specs.Str.Parse.{digits_value}
use Rattle.std.specs.Char.{is_ascii_digit, digit_value}
use Rattle.std.proofs.lemmas.Bool.{and_parts, and_from, lt-ltb, le-leb, leb-true, ltb-true, not-true, not_from_false, false_from_ne_true, cases_eq, cases_lt, false≢true}
use Rattle.std.proofs.lemmas.Bool.Decides.{nat_tests}
use Rattle.std.proofs.lemmas.List.{take_more}
use Rattle.std.proofs.lemmas.Int.Digits.{digits_value_more}
use Rattle.std.proofs.lemmas.Str.Parse.{IsNumeralModel, numerals_by_value, tells_all_ascii_digits, digits_value-take-le}
use Rattle.std.proofs.lemmas.Fmt.{digits_decimal, digits_value-decimal, decimal-digits_value, decimal_nonempty, first_decimal, decimal_digit}
use Rattle.cert_text.specs.Words.{number_in, has_leading_zero, is_number}

-- ---- digits, one by one

pub digits-at : (xs : List ℕ) (i d : ℕ) → all_ascii_digits xs ≡ true → i < length xs → is_ascii_digit (get_or xs i d) ≡ true
digits-at [] i d all inside = absurd (omega arith)
digits-at (x ∷ xs) zero d all inside = (and_parts (is_ascii_digit x) (all_ascii_digits xs) all).0
digits-at (x ∷ xs) (suc i) d all inside = digits-at xs i d (and_parts (is_ascii_digit x) (all_ascii_digits xs) all).1 (omega arith)

digits-push : (xs : List ℕ) (x : ℕ) → all_ascii_digits xs ≡ true → is_ascii_digit x ≡ true → all_ascii_digits (xs ++ x ∷ []) ≡ true
digits-push [] x all here = and_from (is_ascii_digit x) true here refl
digits-push (y ∷ xs) x all here =
    let parts = and_parts (is_ascii_digit y) (all_ascii_digits xs) all in
    and_from (is_ascii_digit y) (all_ascii_digits (xs ++ x ∷ [])) parts.0 (digits-push xs x parts.1 here)

digit-value : (b : ℕ) → is_ascii_digit b ≡ true → digit_value b ≡ b - 48
digit-value b is = grind (arith, nat_tests)

-- a byte that is no digit: the word is no row of digits
pub not_digits : (word : List ℕ) (i : ℕ) → i < length word → is_ascii_digit (get_or word i 0) ≡ false → all_ascii_digits word ≡ true → ⊥
not_digits word i inside fails all = false≢true (sym fails ∙ digits-at word i 0 all inside)

next_value : (word : List ℕ) (i value : ℕ) → i < length word → is_ascii_digit (get_or word i 0) ≡ true → value ≡ number_in (take i word)
    → number_in (take (i + 1) word) ≡ value * 10 + (get_or word i 0 - 48)
next_value word i value inside digit told =
    digits_value_more 10 word i inside ∙ ap (λ n. n * 10 + digit_value (get_or word i 0)) (sym told) ∙ ap (λ d. value * 10 + d) (digit-value (get_or word i 0) digit)

pub digits_next : (word : List ℕ) (i value next : ℕ) → i < length word → is_ascii_digit (get_or word i 0) ≡ true
    → (all_ascii_digits (take i word) ≡ true) × (value ≡ number_in (take i word)) → next ≡ value * 10 + (get_or word i 0 - 48)
    → (all_ascii_digits (take (i + 1) word) ≡ true) × (next ≡ number_in (take (i + 1) word))
digits_next word i value next inside digit before told =
    (ap all_ascii_digits (take_more word i 0 inside) ∙ digits-push (take i word) (get_or word i 0) before.0 digit, told ∙ sym (next_value word i value inside digit before.1))

-- the digits so far are too much already
pub too_much : (word : List ℕ) (i value : ℕ) → i < length word → is_ascii_digit (get_or word i 0) ≡ true → value ≡ number_in (take i word)
    → (value * 10 + (get_or word i 0 - 48) < 2 ^ 64 → ⊥) → 2 ^ 64 ≤ number_in word
too_much word i value inside digit told much =
    elim (cases_lt (value * 10 + (get_or word i 0 - 48)) (2 ^ 64)) [
      | inl below ↦ absurd (much below)
      | inr past ↦ omega (arith, past, next_value word i value inside digit told, digits_value-take-le 10 word (i + 1) (omega arith))
    ]

pub some_told : (o : Option ℕ) (P : Type 0) (v x : ℕ) → SomeIff o P v → o ≡ Some x → x ≡ v
some_told None P v x h e = cc
some_told (Some y) P v x h e = let same : y ≡ x = cc in sym same ∙ h.1

pub none_told : (o : Option ℕ) (P : Type 0) (v : ℕ) → SomeIff o P v → o ≡ None → P → ⊥
none_told None P v h e = h
none_told (Some y) P v h e = cc

-- ---- the test of a number

-- A word is a number.
pub record IsNumber (most : ℕ) (word : List ℕ) : Type 0 where
  pub some : 0 < length word
  pub digits : all_ascii_digits word ≡ true
  pub plain : has_leading_zero word ≡ false
  pub within : number_in word ≤ most

pub number-parts : (most : ℕ) (word : List ℕ) → is_number most word ≡ true → IsNumber most word
unfolding is_number
number-parts most word is =
    let last = and_parts (ltb 0 (length word) && all_ascii_digits word && not (has_leading_zero word)) (leb (number_in word) most) is in
    let third = and_parts (ltb 0 (length word) && all_ascii_digits word) (not (has_leading_zero word)) last.0 in
    let second = and_parts (ltb 0 (length word)) (all_ascii_digits word) third.0 in
    record { some = ltb-true 0 (length word) second.0; digits = second.1; plain = not-true (has_leading_zero word) third.1; within = leb-true (number_in word) most last.1 }

pub number-yes : (most : ℕ) (word : List ℕ) → IsNumber most word → is_number most word ≡ true
unfolding is_number
number-yes most word is =
    and_from (ltb 0 (length word) && all_ascii_digits word && not (has_leading_zero word)) (leb (number_in word) most)
    (and_from (ltb 0 (length word) && all_ascii_digits word) (not (has_leading_zero word))
    (and_from (ltb 0 (length word)) (all_ascii_digits word) (lt-ltb 0 (length word) is.some) is.digits)
    (not_from_false (has_leading_zero word) is.plain)) (le-leb (number_in word) most is.within)

pub number-no : (most : ℕ) (word : List ℕ) → (IsNumber most word → ⊥) → is_number most word ≡ false
number-no most word none = false_from_ne_true (is_number most word) (λ is. none (number-parts most word is))

-- ---- a number has one word

own : IsNumeralModel (λ ds. all_ascii_digits ds ≡ true) (digits_value 10)
own = numerals_by_value (λ ds. all_ascii_digits ds ≡ true) tells_all_ascii_digits

-- a word that is a number is what is written of it
pub decimal-number : (most : ℕ) (word : List ℕ) → most < 2 ^ 64 → is_number most word ≡ true → word ≡ decimal (number_in word)
decimal-number most word small is =
    let parts = number-parts most word is in
    sym (decimal-digits_value own word parts.digits parts.some (λ zero_first. one (slice_index word 0) (length word) parts.plain zero_first parts.some) (omega (arith, parts.within)))
  where
    one : (b n : ℕ) → (eqb b 48 && ltb 1 n) ≡ false → b ≡ 48 → 0 < n → n ≡ 1
    one b n plain e some = grind (arith, nat_tests)

pub number-decimal : (n : ℕ) → n < 2 ^ 64 → number_in (decimal n) ≡ n
number-decimal n small = digits_value-decimal own n small

-- what is written of a number is a word that is one
pub is_number-decimal : (most n : ℕ) → most < 2 ^ 64 → n ≤ most → is_number most (decimal n) ≡ true
is_number-decimal most n small within = number-yes most (decimal n) (record {
  some = decimal_nonempty n (omega arith);
  digits = digits_decimal own n (omega arith);
  plain = plain n (omega arith);
  within = let told : number_in (decimal n) ≡ n = number-decimal n (omega arith) in omega arith;
})
  where
    first_not : (b m : ℕ) → 48 < b → (eqb b 48 && ltb 1 m) ≡ false
    first_not b m h = grind (arith, nat_tests)

    plain : (n : ℕ) → n < 2 ^ 64 → has_leading_zero (decimal n) ≡ false
    plain n h =
        elim (cases_eq n 0) [
          | inl none ↦ rw none (ap has_leading_zero (decimal_digit 0 (lit< tt)))
          | inr some ↦ first_not (get_or (decimal n) 0 0) (length (decimal n)) (first_decimal n (omega arith) h)
        ]

-- ---- ink: bytes that neither part words nor lines

abbrev pub IsInk : ℕ → Type 0
IsInk b = 33 ≤ b

digit-ink : (b : ℕ) → is_ascii_digit b ≡ true → IsInk b
digit-ink b is = grind (arith, nat_tests)

pub digits-ink : (xs : List ℕ) → all_ascii_digits xs ≡ true → All IsInk xs
digits-ink xs all = λ k d inside. digit-ink (get_or xs k d) (digits-at xs k d all inside)

pub decimal-ink : (n : ℕ) → n < 2 ^ 64 → All IsInk (decimal n)
decimal-ink n small = digits-ink (decimal n) (digits_decimal own n small)

-- digits have no dot
pub digits-dotless : (xs : List ℕ) → all_ascii_digits xs ≡ true → All (λ b. eqb b 46 ≡ false) xs
digits-dotless xs all = λ k d inside. no_dot (get_or xs k d) (digits-at xs k d all inside)
  where
    no_dot : (b : ℕ) → is_ascii_digit b ≡ true → eqb b 46 ≡ false
    no_dot b is = grind (arith, nat_tests)

pub decimal-dotless : (n : ℕ) → n < 2 ^ 64 → All (λ b. eqb b 46 ≡ false) (decimal n)
decimal-dotless n small = digits-dotless (decimal n) (digits_decimal own n small)
