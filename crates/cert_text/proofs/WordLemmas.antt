-- Leaves and walks as words, each with one spelling.
use Rattle.std.proofs.Common.{◌≡◌, ℕ, suc, ◌+◌, ◌-◌, ◌<◌, true, false, eqb, List, [], ◌∷◌, ◌++◌, length, take, drop, get_or, decimal, All, refl, ◌∙◌, ap, ap₂, arith, lit<}
use Rattle.std.specs.List.{list_all, before_first, after_first, position_or_len}
use Rattle.std.proofs.lemmas.Bool.{and_parts, and_from, eqb-true}
use Rattle.std.proofs.lemmas.Bool.Decides.{nat_tests}
use Rattle.std.proofs.lemmas.List.{length-drop, length-append, length-map, take_at, get_or_at, get_or_append_left}
use Rattle.std.proofs.lemmas.List.Elements.{All-head, All-tail, All-cons, All-nil, All-append}
use Rattle.std.proofs.lemmas.List.Sums.{split_at_first, passes_at_first, position_or_len_is}
use Rattle.tm_unroll.specs.declared.node.Node.{Node}
use Rattle.cert_text.specs.Limits.{most_number, most_steps}
use Rattle.cert_text.specs.Certificates.{leaf_word, walk_word, HasSpellingLeaf, HasSpellingWalk}
use Rattle.cert_text.specs.Words.{number_in, is_number, is_dot, is_leaf, leaf_in, is_index, is_walk, walk_in}
use Rattle.cert_text.proofs.NumberLemmas.{IsInk, number-parts, decimal-number, number-decimal, is_number-decimal, decimal-ink, decimal-dotless}

-- ---- leaves

pub leaf-spelled : (word : List ℕ) → is_leaf word ≡ true → word ≡ leaf_word (leaf_in word)
unfolding is_leaf
leaf-spelled word is =
    let before : List ℕ = before_first is_dot word in
    let after : List ℕ = after_first is_dot word in
    let parts = and_parts (is_number most_number before) (is_number most_steps after) is in
    let signal : before ≡ decimal (number_in before) = decimal-number most_number before (lit< tt) parts.0 in
    let advance : after ≡ decimal (number_in after) = decimal-number most_steps after (lit< tt) parts.1 in
    let some : 0 < length after = (number-parts most_steps after parts.1).some in
    let found : position_or_len is_dot word < length word = omega (arith, some, length-drop (position_or_len is_dot word + 1) word) in
    let dot : get_or word (position_or_len is_dot word) 0 ≡ 46 = eqb-true _ _ (passes_at_first is_dot word 0 found) in
    split_at_first is_dot word 0 found
    ∙ ap (λ d. before ++ d ∷ after) dot
    ∙ ap₂ (λ (xs ys : List ℕ). xs ++ 46 ∷ ys) signal advance

pub leaf-bounds : (word : List ℕ) → is_leaf word ≡ true → HasSpellingLeaf (leaf_in word)
unfolding is_leaf
leaf-bounds word is =
    let parts = and_parts (is_number most_number (before_first is_dot word)) (is_number most_steps (after_first is_dot word)) is in
    record { signal = (number-parts most_number (before_first is_dot word) parts.0).within; advance = (number-parts most_steps (after_first is_dot word) parts.1).within }

-- the first dot of a word that begins with dotless bytes and a dot
first_dot : (xs ys : List ℕ) → All (λ b. eqb b 46 ≡ false) xs → position_or_len is_dot (xs ++ 46 ∷ ys) ≡ length xs
first_dot xs ys dotless =
    position_or_len_is is_dot (xs ++ 46 ∷ ys) (length xs) 0 (omega (arith, length-append xs (46 ∷ ys)))
    (λ k below. ap is_dot (get_or_append_left xs (46 ∷ ys) 0 k below) ∙ dotless k 0 below)
    (λ inside. ap is_dot (get_or_at xs 46 ys 0 (length xs) refl))

before_dot : (xs ys : List ℕ) → All (λ b. eqb b 46 ≡ false) xs → before_first is_dot (xs ++ 46 ∷ ys) ≡ xs
before_dot xs ys dotless = ap (λ n. take n (xs ++ 46 ∷ ys)) (first_dot xs ys dotless) ∙ take_at xs (46 ∷ ys) (length xs) refl

behind_dot : (xs ys : List ℕ) → drop (length xs + 1) (xs ++ 46 ∷ ys) ≡ ys
behind_dot [] ys = refl
behind_dot (x ∷ xs) ys =
    let next : suc (length xs) + 1 ≡ suc (length xs + 1) = omega arith in
    ap (λ n. drop n (x ∷ xs ++ 46 ∷ ys)) next ∙ behind_dot xs ys

after_dot : (xs ys : List ℕ) → All (λ b. eqb b 46 ≡ false) xs → after_first is_dot (xs ++ 46 ∷ ys) ≡ ys
after_dot xs ys dotless = ap (λ n. drop (n + 1) (xs ++ 46 ∷ ys)) (first_dot xs ys dotless) ∙ behind_dot xs ys

pub leaf-again : (x : Node) → HasSpellingLeaf x → leaf_in (leaf_word x) ≡ x
leaf-again x spelled =
    let dotless = decimal-dotless x.signal (omega (arith, spelled.signal)) in
    let signal = ap number_in (before_dot (decimal x.signal) (decimal x.advance) dotless) ∙ number-decimal x.signal (omega (arith, spelled.signal)) in
    let advance = ap number_in (after_dot (decimal x.signal) (decimal x.advance) dotless) ∙ number-decimal x.advance (omega (arith, spelled.advance)) in
    ap₂ (λ (s a : ℕ). record { signal = s; advance = a }) signal advance

pub is_leaf-word : (x : Node) → HasSpellingLeaf x → is_leaf (leaf_word x) ≡ true
unfolding is_leaf
is_leaf-word x spelled =
    let dotless = decimal-dotless x.signal (omega (arith, spelled.signal)) in
    and_from (is_number most_number (before_first is_dot (leaf_word x))) (is_number most_steps (after_first is_dot (leaf_word x)))
    (ap (is_number most_number) (before_dot (decimal x.signal) (decimal x.advance) dotless) ∙ is_number-decimal most_number x.signal (lit< tt) spelled.signal)
    (ap (is_number most_steps) (after_dot (decimal x.signal) (decimal x.advance) dotless) ∙ is_number-decimal most_steps x.advance (lit< tt) spelled.advance)

pub leaf-ink : (x : Node) → HasSpellingLeaf x → All IsInk (leaf_word x)
leaf-ink x spelled =
    All-append IsInk (decimal x.signal) (46 ∷ decimal x.advance) (decimal-ink x.signal (omega (arith, spelled.signal)))
    (All-cons IsInk 46 (decimal x.advance) (omega arith) (decimal-ink x.advance (omega (arith, spelled.advance))))

pub leaf-some : (x : Node) → 0 < length (leaf_word x)
leaf-some x = omega (arith, length-append (decimal x.signal) (46 ∷ decimal x.advance))

-- ---- walks

pub walk-spelled : (word : List ℕ) → is_walk word ≡ true → word ≡ walk_word (walk_in word)
unfolding is_walk
walk-spelled [] is = refl
walk-spelled (b ∷ word) is =
    let parts = and_parts (is_index b) (list_all is_index word) is in
    ap₂ (λ (x : ℕ) (xs : List ℕ). x ∷ xs) (same b parts.0) (walk-spelled word parts.1)
  where
    same : (b : ℕ) → is_index b ≡ true → b ≡ 48 + (b - 48)
    same b h = grind (arith, nat_tests)

pub walk-bounds : (word : List ℕ) → is_walk word ≡ true → 0 < length word → HasSpellingWalk (walk_in word)
unfolding is_walk
walk-bounds word is some = record { some = omega (arith, some, length-map word (λ b. b - 48)); indices = small word is }
  where
    below : (b : ℕ) → is_index b ≡ true → b - 48 < 8
    below b h = grind (arith, nat_tests)

    small : (word : List ℕ) → is_walk word ≡ true → All (λ index. index < 8) (walk_in word)
    small [] is = All-nil (λ index. index < 8)
    small (b ∷ word) is =
        let parts = and_parts (is_index b) (list_all is_index word) is in
        All-cons (λ index. index < 8) (b - 48) (walk_in word) (below b parts.0) (small word parts.1)

pub walk-again : (walk : List ℕ) → walk_in (walk_word walk) ≡ walk
walk-again [] = refl
walk-again (index ∷ walk) = ap₂ (λ (x : ℕ) (xs : List ℕ). x ∷ xs) (same index) (walk-again walk)
  where
    same : (index : ℕ) → (48 + index) - 48 ≡ index
    same index = omega arith

pub is_walk-word : (walk : List ℕ) → All (λ index. index < 8) walk → is_walk (walk_word walk) ≡ true
unfolding is_walk
is_walk-word [] small = refl
is_walk-word (index ∷ walk) small =
    and_from (is_index (48 + index)) (list_all is_index (walk_word walk)) (is index (All-head (λ i. i < 8) index walk small)) (is_walk-word walk (All-tail (λ i. i < 8) index walk small))
  where
    is : (index : ℕ) → index < 8 → is_index (48 + index) ≡ true
    is index h = grind (arith, nat_tests)

pub walk-ink : (walk : List ℕ) → All IsInk (walk_word walk)
walk-ink [] = All-nil IsInk
walk-ink (index ∷ walk) = All-cons IsInk (48 + index) (walk_word walk) (omega arith) (walk-ink walk)

pub walk-some : (walk : List ℕ) → HasSpellingWalk walk → 0 < length (walk_word walk)
walk-some walk spelled = omega (arith, spelled.some, length-map walk (λ index. 48 + index))
