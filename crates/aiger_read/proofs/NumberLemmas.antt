-- Numbers as words: how digits are read one by one.
use Rattle.std.proofs.Common.{◌≡◌, ℕ, zero, suc, ◌+◌, ◌-◌, ◌*◌, ◌^◌, ◌<◌, ◌≤◌, true, false, not, ltb, leb, ◌&&◌, List, [], ◌∷◌, ◌++◌, length, take, get_or, Option, None, Some, SomeIff, Bor, cond, refl, sym, ◌∙◌, ap, inl, inr, arith}
use Rattle.std.specs.Prelude.{IfNone, IfSome, map}
use Rattle.std.specs.List.{list_all}
use Rattle.std.specs.Str.{all_ascii_digits}
use Rattle.std.specs.Char.{is_ascii_digit, digit_value}
use Rattle.std.proofs.lemmas.Bool.{and_parts, and_from, lt-ltb, le-leb, leb-true, ltb-true, not-true, not_from_false, false_from_ne_true, cases_lt, false≢true}
use Rattle.std.proofs.lemmas.Bool.Decides.{nat_tests}
use Rattle.std.proofs.lemmas.List.{take_more}
use Rattle.std.proofs.lemmas.Int.Digits.{digits_value_more}
use Rattle.std.proofs.lemmas.Str.Parse.{digits_value-take-le}
use Rattle.aiger_read.specs.Limits.{most_number}
use Rattle.aiger_read.specs.Steps.{texts}
use Rattle.aiger_read.proofs.Lists.{list_all_seen, list_all-fails}
use Rattle.aiger_read.specs.Lines.{number_in, has_leading_zero, is_number, numbers_in}

-- ---- digits, one by one

pub digits-at : (xs : List ℕ) (i d : ℕ) → all_ascii_digits xs ≡ true → i < length xs → is_ascii_digit (get_or xs i d) ≡ true
digits-at [] i d all inside = absurd (omega arith)
digits-at (x ∷ xs) zero d all inside = (and_parts (is_ascii_digit x) (all_ascii_digits xs) all).0
digits-at (x ∷ xs) (suc i) d all inside = digits-at xs i d (and_parts (is_ascii_digit x) (all_ascii_digits xs) all).1 (omega arith)

digits-push : (xs : List ℕ) (x : ℕ) → all_ascii_digits xs ≡ true → is_ascii_digit x ≡ true → all_ascii_digits (xs ++ x ∷ []) ≡ true
digits-push [] x all here = and_from (is_ascii_digit x) true here refl
digits-push (y ∷ xs) x all here =
    let parts = and_parts (is_ascii_digit y) (all_ascii_digits xs) all in
    and_from (is_ascii_digit y) (all_ascii_digits (xs ++ x ∷ [])) parts.0 (digits-push xs x parts.1 here)

digit-value : (b : ℕ) → is_ascii_digit b ≡ true → digit_value b ≡ b - 48
digit-value b is = grind (arith, nat_tests)

-- a byte that is no digit: the word is no row of digits
pub not_digits : (word : List ℕ) (i : ℕ) → i < length word → is_ascii_digit (get_or word i 0) ≡ false → all_ascii_digits word ≡ true → ⊥
not_digits word i inside fails all = false≢true (sym fails ∙ digits-at word i 0 all inside)

next_value : (word : List ℕ) (i value : ℕ) → i < length word → is_ascii_digit (get_or word i 0) ≡ true → value ≡ number_in (take i word)
    → number_in (take (i + 1) word) ≡ value * 10 + (get_or word i 0 - 48)
next_value word i value inside digit told =
    digits_value_more 10 word i inside ∙ ap (λ n. n * 10 + digit_value (get_or word i 0)) (sym told) ∙ ap (λ d. value * 10 + d) (digit-value (get_or word i 0) digit)

pub digits_next : (word : List ℕ) (i value next : ℕ) → i < length word → is_ascii_digit (get_or word i 0) ≡ true
    → (all_ascii_digits (take i word) ≡ true) × (value ≡ number_in (take i word)) → next ≡ value * 10 + (get_or word i 0 - 48)
    → (all_ascii_digits (take (i + 1) word) ≡ true) × (next ≡ number_in (take (i + 1) word))
digits_next word i value next inside digit before told =
    (ap all_ascii_digits (take_more word i 0 inside) ∙ digits-push (take i word) (get_or word i 0) before.0 digit, told ∙ sym (next_value word i value inside digit before.1))

-- the digits so far are too much already
pub too_much : (word : List ℕ) (i value : ℕ) → i < length word → is_ascii_digit (get_or word i 0) ≡ true → value ≡ number_in (take i word)
    → (value * 10 + (get_or word i 0 - 48) < 2 ^ 32 → ⊥) → 2 ^ 32 ≤ number_in word
too_much word i value inside digit told much =
    elim (cases_lt (value * 10 + (get_or word i 0 - 48)) (2 ^ 32)) [
      | inl below ↦ absurd (much below)
      | inr past ↦ omega (arith, past, next_value word i value inside digit told, digits_value-take-le 10 word (i + 1) (omega arith))
    ]

pub some_told : (o : Option ℕ) (P : Type 0) (v x : ℕ) → SomeIff o P v → o ≡ Some x → x ≡ v
some_told None P v x h e = cc
some_told (Some y) P v x h e = let same : y ≡ x = cc in sym same ∙ h.1

pub some_fits : (o : Option ℕ) (P : Type 0) (v x : ℕ) → SomeIff o P v → o ≡ Some x → P
some_fits None P v x h e = cc
some_fits (Some y) P v x h e = h.0

pub none_told : (o : Option ℕ) (P : Type 0) (v : ℕ) → SomeIff o P v → o ≡ None → P → ⊥
none_told None P v h e = h
none_told (Some y) P v h e = cc

-- ---- the test of a number

-- A word is a number.
pub record IsNumber (word : List ℕ) : Type 0 where
  pub some : 0 < length word
  pub digits : all_ascii_digits word ≡ true
  pub plain : has_leading_zero word ≡ false
  pub within : number_in word ≤ most_number

pub number-parts : (word : List ℕ) → is_number word ≡ true → IsNumber word
unfolding is_number
number-parts word is =
    let last = and_parts (ltb 0 (length word) && all_ascii_digits word && not (has_leading_zero word)) (leb (number_in word) most_number) is in
    let third = and_parts (ltb 0 (length word) && all_ascii_digits word) (not (has_leading_zero word)) last.0 in
    let second = and_parts (ltb 0 (length word)) (all_ascii_digits word) third.0 in
    record { some = ltb-true 0 (length word) second.0; digits = second.1; plain = not-true (has_leading_zero word) third.1; within = leb-true (number_in word) most_number last.1 }

pub number-yes : (word : List ℕ) → IsNumber word → is_number word ≡ true
unfolding is_number
number-yes word is =
    and_from (ltb 0 (length word) && all_ascii_digits word && not (has_leading_zero word)) (leb (number_in word) most_number)
    (and_from (ltb 0 (length word) && all_ascii_digits word) (not (has_leading_zero word))
    (and_from (ltb 0 (length word)) (all_ascii_digits word) (lt-ltb 0 (length word) is.some) is.digits)
    (not_from_false (has_leading_zero word) is.plain)) (le-leb (number_in word) most_number is.within)

pub number-no : (word : List ℕ) → (IsNumber word → ⊥) → is_number word ≡ false
number-no word none = false_from_ne_true (is_number word) (λ is. none (number-parts word is))

pub if_none : {X : Type 0} (o : Option X) (P : Type 0) → ((x : X) → o ≡ Some x → ⊥) → IfNone o P → P
if_none None P none fact = fact
if_none (Some x) P none fact = absurd (none x refl)

-- ---- what digits tell

pub number_told : (word : List ℕ) (o : Option ℕ) → 0 < length word → has_leading_zero word ≡ false → IfSome o (λ n. (all_ascii_digits word ≡ true) × (n ≡ number_in word))
    → IfSome o (λ n. n < 2 ^ 32) → IfSome o (λ n. (is_number word ≡ true) × (n ≡ number_in word))
number_told word None some plain told small = tt
number_told word (Some n) some plain told small =
    (number-yes word (record { some = some; digits = told.0; plain = plain; within = omega (arith, told.1, small) }), told.1)

pub number_refused : (word : List ℕ) (o : Option ℕ) → IfNone o ((all_ascii_digits word ≡ true) → 2 ^ 32 ≤ number_in word) → IfNone o (is_number word ≡ false)
number_refused word None past = number-no word (λ is. omega (arith, is.within, past is.digits))
number_refused word (Some n) past = tt

pub no_numbers : (words : List (List ℕ)) → list_all is_number words ≡ false → numbers_in words ≡ []
no_numbers words fails = ap (λ b. cond b (map number_in words) []) fails

pub all_numbers : (words : List (List ℕ)) → list_all is_number words ≡ true → map number_in words ≡ numbers_in words
all_numbers words all = sym (ap (λ b. cond b (map number_in words) []) all)

-- one word that is no number
pub numbers_refused : (words : List (Bor (List ℕ))) (i : ℕ) (d : Bor (List ℕ)) → i < length words → is_number (get_or words i d).now ≡ false
    → numbers_in (texts words) ≡ []
numbers_refused words i d inside fails =
    no_numbers (texts words) (list_all_seen is_number (λ (w : Bor (List ℕ)). w.now) words ∙ list_all-fails (λ (w : Bor (List ℕ)). is_number w.now) words i d inside fails)
