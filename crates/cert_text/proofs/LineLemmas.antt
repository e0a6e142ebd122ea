-- Lines as words: a line that has its form is what is written of its value, and what is written has its form.
use Rattle.std.proofs.Common.{◌≡◌, ℕ, ◌<◌, ◌≤◌, ◌^◌, ◌⊎◌, Bool, true, false, cond, eqb, ltb, leb, ◌&&◌, List, [], ◌∷◌, ◌++◌, map, length, get_or, decimal, codes, bytes_eq, All, None, Some, refl, sym, ◌∙◌, ap, ap₂, inl, inr, arith, lit<}
use Rattle.std.specs.List.{list_all, join_with_byte, AllByRecursion}
use Rattle.std.proofs.lemmas.Bool.{and_parts, and_from, or_cases, lt-ltb, ltb-true, leb-true, eqb-true}
use Rattle.std.proofs.lemmas.Bool.Decides.{nat_tests}
use Rattle.std.proofs.lemmas.List.Elements.{All-head, All-tail, All-cons, All-nil, All-append}
use Rattle.std.proofs.lemmas.List.Splits.{slice_split_none, slice_split_at, join_with_byte-slice_split}
use Rattle.std.proofs.lemmas.Slice.Eq.{bytes_eq-Decides}
use Rattle.std.proofs.lemmas.Fmt.{decimal_digit, decimal_nonempty}
use Rattle.tm_unroll.specs.declared.node.Node.{Node}
use Rattle.cert_text.specs.declared.keyword.Keyword.{Keyword}
use Rattle.cert_text.specs.declared.keyword.Keyword.TheVariants as keywords
use Rattle.cert_text.specs.declared.fault.CertKind.TheVariants.{Version, Word, Number}
use Rattle.cert_text.specs.Certificates.{leaf_word, walk_word, counted, HasSpellingLeaf, HasSpellingWalk}
use Rattle.cert_text.specs.Words.{words_in, word_at, number_in, is_number, number_on}
use Rattle.cert_text.specs.Faults.{first, later, keyword_word, takes, has_words, has_numbers, is_version, fault_in}
use Rattle.cert_text.specs.Steps.{IsMost}
use Rattle.cert_text.proofs.NumberLemmas.{IsInk, number-parts, decimal-number, number-decimal, is_number-decimal, decimal-ink}
use Rattle.cert_text.proofs.WordLemmas.{leaf-ink, leaf-some, walk-ink, walk-some}
use Rattle.cert_text.proofs.StepLemmas.{fault-none}

-- ---- words and lines

-- Words that neither part words nor lines, and are not empty.
pub record IsWhole (word : List ℕ) : Type 0 where
  pub some : 0 < length word
  pub ink : All IsInk word

abbrev pub AreWhole : List (List ℕ) → Type 0
AreWhole words = AllByRecursion IsWhole words

-- the bytes of a line
abbrev pub line_of : List (List ℕ) → List ℕ
line_of words = join_with_byte 32 words

no_blank : (word : List ℕ) → All IsInk word → All (λ b. eqb b 32 ≡ false) word
no_blank word ink = λ k d inside. other (get_or word k d) (ink k d inside)
  where
    other : (b : ℕ) → 33 ≤ b → eqb b 32 ≡ false
    other b h = grind (arith, nat_tests)

pub words-line : (word : List ℕ) (words : List (List ℕ)) → AreWhole (word ∷ words) → words_in (line_of (word ∷ words)) ≡ word ∷ words
words-line word [] whole = slice_split_none (λ (b : ℕ). eqb b 32) word (no_blank word whole.0.ink)
words-line word (next ∷ words) whole =
    slice_split_at (λ (b : ℕ). eqb b 32) word 32 (line_of (next ∷ words)) (no_blank word whole.0.ink) refl
    ∙ ap (λ ws. word ∷ ws) (words-line next words whole.1)

-- a line is its words joined
pub line-words : (line : List ℕ) → line ≡ line_of (words_in line)
line-words line = sym (join_with_byte-slice_split 32 line)

-- no byte of a line ends it
pub line-plain : (words : List (List ℕ)) → AreWhole words → All (λ b. 32 ≤ b) (line_of words)
line-plain [] whole = All-nil (λ b. 32 ≤ b)
line-plain (word ∷ []) whole = λ k d inside. omega (arith, whole.0.ink k d inside)
line-plain (word ∷ next ∷ words) whole =
    All-append (λ b. 32 ≤ b) word (32 ∷ line_of (next ∷ words)) (λ k d inside. omega (arith, whole.0.ink k d inside))
    (All-cons (λ b. 32 ≤ b) 32 (line_of (next ∷ words)) (omega arith) (line-plain (next ∷ words) whole.1))

pub filled : (words : List (List ℕ)) → AreWhole words → list_all (λ word. ltb 0 (length word)) words ≡ true
filled [] whole = refl
filled (word ∷ words) whole = and_from (ltb 0 (length word)) _ (lt-ltb 0 (length word) whole.0.some) (filled words whole.1)

pub AreWhole-append : (words more : List (List ℕ)) → AreWhole words → AreWhole more → AreWhole (words ++ more)
AreWhole-append [] more front back = back
AreWhole-append (word ∷ words) more front back = (front.0, AreWhole-append words more front.1 back)

-- a word whose bytes are tested one by one
pub tested-whole : (word : List ℕ) → ltb 0 (length word) ≡ true → list_all (λ b. leb 33 b) word ≡ true → IsWhole word
tested-whole word some ink = record { some = ltb-true 0 (length word) some; ink = each word ink }
  where
    each : (word : List ℕ) → list_all (λ b. leb 33 b) word ≡ true → All IsInk word
    each [] all = All-nil IsInk
    each (b ∷ word) all =
        let parts = and_parts (leb 33 b) (list_all (λ b. leb 33 b) word) all in
        All-cons IsInk b word (leb-true 33 b parts.0) (each word parts.1)

pub number-whole : (n : ℕ) → n < 2 ^ 64 → IsWhole (decimal n)
number-whole n small = record { some = decimal_nonempty n small; ink = decimal-ink n small }

pub leaves-whole : (leaves : List Node) → All HasSpellingLeaf leaves → AreWhole (map leaf_word leaves)
leaves-whole [] spelled = tt
leaves-whole (x ∷ leaves) spelled =
    (record { some = leaf-some x; ink = leaf-ink x (All-head HasSpellingLeaf x leaves spelled) }, leaves-whole leaves (All-tail HasSpellingLeaf x leaves spelled))

pub walks-whole : (walks : List (List ℕ)) → All HasSpellingWalk walks → AreWhole (map walk_word walks)
walks-whole [] spelled = tt
walks-whole (walk ∷ walks) spelled =
    (record { some = walk-some walk (All-head HasSpellingWalk walk walks spelled); ink = walk-ink walk }, walks-whole walks (All-tail HasSpellingWalk walk walks spelled))

-- ---- what has no fault

both_true : (words numbers : Bool) → cond words (cond numbers None (Some Number)) (Some Word) ≡ None → (words ≡ true) × (numbers ≡ true)
both_true true true e = (refl, refl)
both_true true false e = cc
both_true false numbers e = cc

pub line-lawful : (keyword : Keyword) (line : List ℕ) → fault_in (later keyword) line ≡ None → (has_words keyword (words_in line) ≡ true) × (has_numbers keyword (words_in line) ≡ true)
unfolding fault_in
line-lawful keyword line none = both_true (has_words keyword (words_in line)) (has_numbers keyword (words_in line)) none

-- What the test of words tells.
pub record HasWords (keyword : Keyword) (words : List (List ℕ)) : Type 0 where
  pub word : word_at words 0 ≡ keyword_word keyword
  pub many : takes keyword (length words) ≡ true
  pub filled : list_all (λ word. ltb 0 (length word)) words ≡ true

pub words-parts : (keyword : Keyword) (words : List (List ℕ)) → has_words keyword words ≡ true → HasWords keyword words
unfolding has_words
words-parts keyword words is =
    let last = and_parts (bytes_eq (word_at words 0) (keyword_word keyword) && takes keyword (length words)) (list_all (λ word. ltb 0 (length word)) words) is in
    let two = and_parts (bytes_eq (word_at words 0) (keyword_word keyword)) (takes keyword (length words)) last.0 in
    record { word = (bytes_eq-Decides (word_at words 0) (keyword_word keyword)).0 two.0; many = two.1; filled = last.1 }

pub words-yes : (keyword : Keyword) (words : List (List ℕ)) → word_at words 0 ≡ keyword_word keyword → takes keyword (length words) ≡ true → AreWhole words → has_words keyword words ≡ true
unfolding has_words
words-yes keyword words word many whole =
    and_from (bytes_eq (word_at words 0) (keyword_word keyword) && takes keyword (length words)) (list_all (λ word. ltb 0 (length word)) words)
    (and_from (bytes_eq (word_at words 0) (keyword_word keyword)) (takes keyword (length words)) ((bytes_eq-Decides (word_at words 0) (keyword_word keyword)).1 word) many)
    (filled words whole)

-- ---- lines of a number

pub number-test : (keyword : Keyword) (most : ℕ) (words : List (List ℕ)) → IsMost keyword most → has_numbers keyword words ≡ is_number most (word_at words 1)
unfolding has_numbers
number-test keywords.Period most words e = ap (λ m. is_number m (word_at words 1)) (sym e)
number-test keywords.Tables most words e = ap (λ m. is_number m (word_at words 1)) (sym e)
number-test keywords.Table most words e = absurd e
number-test keywords.Drops most words e = ap (λ m. is_number m (word_at words 1)) (sym e)
number-test keywords.Drop most words e = absurd e
number-test keywords.End most words e = absurd e

pub takes-two : (keyword : Keyword) (most many : ℕ) → IsMost keyword most → (takes keyword many ≡ true → many ≡ 2) × (takes keyword 2 ≡ true)
takes-two keywords.Period most many e = (eqb-true many 2, refl)
takes-two keywords.Tables most many e = (eqb-true many 2, refl)
takes-two keywords.Table most many e = absurd e
takes-two keywords.Drops most many e = (eqb-true many 2, refl)
takes-two keywords.Drop most many e = absurd e
takes-two keywords.End most many e = absurd e

pub most-small : (keyword : Keyword) (most : ℕ) → IsMost keyword most → most < 2 ^ 64
most-small keywords.Period most e = omega arith
most-small keywords.Tables most e = omega arith
most-small keywords.Table most e = absurd e
most-small keywords.Drops most e = omega arith
most-small keywords.Drop most e = absurd e
most-small keywords.End most e = absurd e

two_words : (words : List (List ℕ)) → length words ≡ 2 → words ≡ word_at words 0 ∷ word_at words 1 ∷ []
two_words [] e = absurd (omega arith)
two_words (a ∷ []) e = absurd (omega arith)
two_words (a ∷ b ∷ []) e = refl
two_words (a ∷ b ∷ x ∷ words) e = absurd (omega arith)

-- a line of a number is what is written of it
pub counted-spelled : (keyword : Keyword) (most : ℕ) (line : List ℕ) → IsMost keyword most → fault_in (later keyword) line ≡ None
    → (words_in line ≡ counted (keyword_word keyword) (number_on line)) × (number_on line ≤ most)
counted-spelled keyword most line is none =
    let words : List (List ℕ) = words_in line in
    let lawful = line-lawful keyword line none in
    let has = words-parts keyword words lawful.0 in
    let number : is_number most (word_at words 1) ≡ true = sym (number-test keyword most words is) ∙ lawful.1 in (
      two_words words ((takes-two keyword most (length words) is).0 has.many)
          ∙ ap₂ (λ (a b : List ℕ). a ∷ b ∷ []) has.word (decimal-number most (word_at words 1) (most-small keyword most is) number),
      (number-parts most (word_at words 1) number).within,
    )

-- what is written of a number has its form
pub counted-lawful : (keyword : Keyword) (most n : ℕ) → IsMost keyword most → n ≤ most → IsWhole (keyword_word keyword)
    → (fault_in (later keyword) (line_of (counted (keyword_word keyword) n)) ≡ None) × (number_on (line_of (counted (keyword_word keyword) n)) ≡ n) × AreWhole (counted (keyword_word keyword) n)
counted-lawful keyword most n is within word =
    let small : n < 2 ^ 64 = omega (arith, most-small keyword most is) in
    let ws : List (List ℕ) = counted (keyword_word keyword) n in
    let whole : AreWhole ws = (word, (number-whole n small, tt)) in
    let same : words_in (line_of ws) ≡ ws = words-line (keyword_word keyword) (decimal n ∷ []) whole in
    let lawful : has_words keyword ws ≡ true = words-yes keyword ws refl (takes-two keyword most 2 is).1 whole in
    let numbers : has_numbers keyword ws ≡ true = number-test keyword most ws is ∙ is_number-decimal most n (most-small keyword most is) within in (
      fault-none keyword (line_of ws) (ap (has_words keyword) same ∙ lawful) (ap (has_numbers keyword) same ∙ numbers),
      ap (λ words. number_in (word_at words 1)) same ∙ number-decimal n small,
      whole,
    )

-- ---- the first line

version-one : (line : List ℕ) → line ≡ codes "turbomap 1" → (line ≡ line_of (counted (codes "turbomap") (number_on line))) × ((number_on line ≡ 1) ⊎ (number_on line ≡ 2))
version-one line e = rw e (ap (λ d. codes "turbomap " ++ d) (sym (decimal_digit 1 (lit< tt))), inl refl)

version-two : (line : List ℕ) → line ≡ codes "turbomap 2" → (line ≡ line_of (counted (codes "turbomap") (number_on line))) × ((number_on line ≡ 1) ⊎ (number_on line ≡ 2))
version-two line e = rw e (ap (λ d. codes "turbomap " ++ d) (sym (decimal_digit 2 (lit< tt))), inr refl)

version_true : (is : Bool) → cond is None (Some Version) ≡ None → is ≡ true
version_true true e = refl
version_true false e = cc

pub version-spelled : (line : List ℕ) → fault_in first line ≡ None → (line ≡ line_of (counted (codes "turbomap") (number_on line))) × ((number_on line ≡ 1) ⊎ (number_on line ≡ 2))
unfolding fault_in
version-spelled line none =
    elim (or_cases (bytes_eq line (codes "turbomap 1")) (bytes_eq line (codes "turbomap 2")) (version_true (is_version line) none)) [
      | inl one ↦ version-one line ((bytes_eq-Decides line (codes "turbomap 1")).0 one)
      | inr two ↦ version-two line ((bytes_eq-Decides line (codes "turbomap 2")).0 two)
    ]

pub version-lawful : (version : ℕ) → (version ≡ 1) ⊎ (version ≡ 2)
    → (fault_in first (line_of (counted (codes "turbomap") version)) ≡ None) × (number_on (line_of (counted (codes "turbomap") version)) ≡ version) × AreWhole (counted (codes "turbomap") version)
unfolding fault_in
version-lawful version (inl one) = rw (one, decimal_digit 1 (lit< tt)) (refl, refl, search arith)
version-lawful version (inr two) = rw (two, decimal_digit 2 (lit< tt)) (refl, refl, search arith)
