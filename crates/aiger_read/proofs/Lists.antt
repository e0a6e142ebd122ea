-- Lists of pieces and of words.
use Rattle.std.proofs.Common.{◌≡◌, ℕ, zero, suc, ◌+◌, ◌<◌, ◌≤◌, Bool, true, false, cond, ◌&&◌, List, [], ◌∷◌, ◌++◌, map, length, take, drop, get_or, Some, None, inl, inr, position, refl, sym, ◌∙◌, ap, arith, ltb, Bor}
use Rattle.std.specs.List.{list_all, slice_split, position_or_len}
use Rattle.std.proofs.lemmas.Bool.{and_parts, and_from, lt-ltb, le-ltb, cases_lt, cond-true, cond-false}
use Rattle.std.proofs.lemmas.List.{drop-map, get_or-map}
use Rattle.std.proofs.lemmas.List.Splits.{length-slice_split, slice_split_none, slice_split_first}
use Rattle.std.proofs.lemmas.List.Sums.{fails_before_first}

-- ---- tests of each item

pub list_all-append : {X : Type 0} (test : X → Bool) (xs ys : List X) → list_all test (xs ++ ys) ≡ (list_all test xs && list_all test ys)
list_all-append test [] ys = refl
list_all-append test (x ∷ xs) ys =
    elim (test x) as (λ b. (b && list_all test (xs ++ ys)) ≡ ((b && list_all test xs) && list_all test ys)) [
      | true ↦ list_all-append test xs ys
      | false ↦ refl
    ]

pub list_all-push : {X : Type 0} (test : X → Bool) (xs : List X) (x : X) → list_all test xs ≡ true → test x ≡ true → list_all test (xs ++ x ∷ []) ≡ true
list_all-push test xs x all here =
    list_all-append test xs (x ∷ []) ∙ and_from (list_all test xs) (test x && true) all (and_from (test x) true here refl)

pub list_all_seen : {X Y : Type 0} (test : Y → Bool) (seen : X → Y) (xs : List X) → list_all test (map seen xs) ≡ list_all (λ x. test (seen x)) xs
list_all_seen test seen [] = refl
list_all_seen test seen (x ∷ xs) = ap (λ b. test (seen x) && b) (list_all_seen test seen xs)

pub list_all_at : {X : Type 0} (test : X → Bool) (xs : List X) (i : ℕ) (d : X) → list_all test xs ≡ true → i < length xs → test (get_or xs i d) ≡ true
list_all_at test [] i d all inside = absurd (omega arith)
list_all_at test (x ∷ xs) zero d all inside = (and_parts (test x) (list_all test xs) all).0
list_all_at test (x ∷ xs) (suc i) d all inside = list_all_at test xs i d (and_parts (test x) (list_all test xs) all).1 (omega arith)

-- one item that fails makes the whole fail
pub list_all-fails : {X : Type 0} (test : X → Bool) (xs : List X) (i : ℕ) (d : X) → i < length xs → test (get_or xs i d) ≡ false → list_all test xs ≡ false
list_all-fails test [] i d inside fails = absurd (omega arith)
list_all-fails test (x ∷ xs) zero d inside fails = ap (λ b. b && list_all test xs) fails
list_all-fails test (x ∷ xs) (suc i) d inside fails =
    let later : list_all test xs ≡ false = list_all-fails test xs i d (omega arith) fails in
    elim (test x) as (λ b. (b && list_all test xs) ≡ false) [
      | true ↦ later
      | false ↦ refl
    ]

-- ---- pieces

-- the words that slices are, but for the first ones
pub texts-drop : (n : ℕ) (words : List (Bor (List ℕ))) → map (λ w. w.now) (drop n words) ≡ drop n (map (λ w. w.now) words)
texts-drop n words = sym (drop-map (λ w. w.now) n words)

-- a word that a slice is
pub word_seen : (words : List (Bor (List ℕ))) (i : ℕ) (word : Bor (List ℕ)) → i < length words → word ≡ get_or words i word → get_or (map (λ w. w.now) words) i [] ≡ word.now
word_seen words i word inside is = get_or-map (λ w. w.now) words i word [] inside ∙ ap (λ (w : Bor (List ℕ)). w.now) (sym is)

-- where there is no separator, there is one piece
pub one_piece : {X : Type 0} (p : X → Bool) (xs : List X) → position p xs ≡ None → slice_split p xs ≡ xs ∷ []
one_piece p xs none =
    let past : length xs ≤ position_or_len p xs = at (position_or_len p xs) (length xs) none in
    slice_split_none p xs (λ k d inside. fails_before_first p xs k d (omega arith))
  where
    at : (n m : ℕ) → cond (ltb n m) (Some n) None ≡ None → m ≤ n
    at n m e = elim (cases_lt n m) [ inl below ↦ absurd (some_is_none (sym (cond-true (ltb n m) (Some n) None (lt-ltb n m below)) ∙ e)) | inr past ↦ past ]
      where
        some_is_none : Some n ≡ None → ⊥
        some_is_none h = cc

-- the first separator parts the first piece from the others
pub first_piece : {X : Type 0} (p : X → Bool) (xs : List X) (i : ℕ) (d : X) → position p xs ≡ Some i
    → (slice_split p xs ≡ take i xs ∷ slice_split p (drop (i + 1) xs)) × (i < length xs)
first_piece p xs i d found =
    let both = at (position_or_len p xs) (length xs) i found in
    let inside : position_or_len p xs < length xs = omega (arith, both.0, both.1) in
    (rw (← both.0) (slice_split_first p xs d inside), both.1)
  where
    at : (n m i : ℕ) → cond (ltb n m) (Some n) None ≡ Some i → (n ≡ i) × (i < m)
    at n m i e =
        elim (cases_lt n m) [
          | inl below ↦
              let here : Some n ≡ Some i = sym (cond-true (ltb n m) (Some n) None (lt-ltb n m below)) ∙ e in
              let same : n ≡ i = cc in
              (same, omega arith)
          | inr past ↦
              let here : None ≡ Some i = sym (cond-false (ltb n m) (Some n) None (le-ltb n m past)) ∙ e in
              absurd (cc)
        ]

pub length-pieces : {X : Type 0} (p : X → Bool) (xs : List X) → 0 < length (slice_split p xs)
length-pieces p xs = omega (arith, length-slice_split p xs)
