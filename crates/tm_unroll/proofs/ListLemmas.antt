-- Lists: items that are all different, how many of them fit into a list, and ascending lists.
use Rattle.std.proofs.Common.{◌≡◌, ◌≢◌, ℕ, zero, suc, ◌<◌, ◌≤◌, ◌⊎◌, inl, inr, List, [], ◌∷◌, ◌++◌, length, get_or, Some, refl, sym, ◌∙◌, ap, subst, arith}
use Rattle.std.specs.Prelude.{Contains, AllPairs, slice_get, slice_index_or}
use Rattle.std.proofs.lemmas.Bool.{cases_lt, cases_eq}
use Rattle.std.proofs.lemmas.List.Kept.{AllPairs-cons}
use Rattle.std.proofs.lemmas.List.Quantifiers.{all_pairs_push}
use Rattle.tm_circuit.proofs.ListLemmas.{contains-first, contains-rest, contains-cases, contains-none}
use Rattle.tm_unroll.specs.declared.node.Node.{Node}
use Rattle.tm_unroll.specs.Nodes.{IsBefore}

-- No item stands twice in a list.
abbrev pub AreApart : {A : Type 0} → List A → Type 0
AreApart [] = Unit {0}
AreApart (x ∷ xs) = ¬ Contains xs x × AreApart xs

-- A list without one place of an item.
pub record IsWithout {A : Type 0} (all : List A) (x : A) (rest : List A) : Type 0 where
  pub one_less : length all ≡ suc (length rest)
  pub kept : (y : A) → Contains all y → (y ≢ x) → Contains rest y

pub without : {A : Type 0} (all : List A) (x : A) → Contains all x → (rest : List A) × IsWithout all x rest
without [] x h = absurd (contains-none x h)
without {A} (y ∷ all) x h =
    elim (contains-cases y all x h) [
      | inl first ↦ (all, record { one_less = refl; kept = λ z stands differs. elim (contains-cases y all z stands) [ inl e ↦ absurd (differs (sym e ∙ first)) | inr later ↦ later ] })
      | inr later ↦
          let w = without all x later in
          (y ∷ w.0, record { one_less = ap suc w.1.one_less; kept = λ z stands differs. elim (contains-cases y all z stands) [ inl e ↦ subst (λ (v : A). Contains (y ∷ w.0) v) e (contains-first y w.0) | inr q ↦ contains-rest y w.0 z (w.1.kept z q differs) ] })
    ]

-- Items that are all different and stand in a list are no more than it has.
pub fits : {A : Type 0} (xs ys : List A) → AreApart xs → ((x : A) → Contains xs x → Contains ys x) → length xs ≤ length ys
fits [] ys apart inside = omega arith
fits {A} (x ∷ xs) ys apart inside =
    let w = without ys x (inside x (contains-first x xs)) in
    let ih = fits xs w.0 apart.1 (λ z stands. w.1.kept z (inside z (contains-rest x xs z stands)) (λ e. apart.0 (subst (λ (v : A). Contains xs v) e stands))) in
    omega (arith, ih, w.1.one_less)

-- The pairs of the rest of a list.
pub pairs_rest : {A : Type 0} (R : A → A → Type 0) (x : A) (xs : List A) → AllPairs R (x ∷ xs) → AllPairs R xs
pairs_rest R x xs pairs i j d before inside = pairs (suc i) (suc j) d (omega arith) (omega arith)

-- The first of a list with each later item.
pub pairs_first : {A : Type 0} (R : A → A → Type 0) (x : A) (xs : List A) → AllPairs R (x ∷ xs) → (y : A) → Contains xs y → R x y
pairs_first {A} R x xs pairs y (k, inside, is) = subst (λ (z : A). R x z) is (pairs zero (suc k) y (omega arith) (omega arith))

-- Where a relation holds of no item with itself, the items of a list whose pairs have it are all different.
pub apart_from_pairs : {A : Type 0} (R : A → A → Type 0) (xs : List A) → ((x : A) → ¬ R x x) → AllPairs R xs → AreApart xs
apart_from_pairs R [] never pairs = tt
apart_from_pairs R (x ∷ xs) never pairs =
    (λ stands. never x (pairs_first R x xs pairs x stands), apart_from_pairs R xs never (pairs_rest R x xs pairs))

-- Different numbers below one are no more than it.
pub few_below : (xs : List ℕ) (n : ℕ) → AreApart xs → ((x : ℕ) → Contains xs x → x < n) → length xs ≤ n
few_below xs n apart below =
    let among = numbers n in
    let some = fits xs among.0 apart (λ x stands. among.2 x (below x stands)) in
    omega (arith, some, among.1)
  where
    numbers : (m : ℕ) → (all : List ℕ) × (length all ≡ m) × ((x : ℕ) → x < m → Contains all x)
    numbers zero = ([], refl, λ x low. absurd (omega arith))
    numbers (suc m) =
        let before = numbers m in
        (m ∷ before.0, ap suc before.1, λ x low. elim (cases_lt x m) [ inl lower ↦ contains-rest m before.0 x (before.2 x lower) | inr high ↦ let e : m ≡ x = omega arith in subst (λ v. Contains (m ∷ before.0) v) e (contains-first m before.0) ])

-- Whether a number stands in a list.
pub stands_or_not : (xs : List ℕ) (x : ℕ) → Contains xs x ⊎ (¬ Contains xs x)
stands_or_not [] x = inr (contains-none x)
stands_or_not (y ∷ xs) x =
    elim (cases_eq y x) [
      | inl e ↦ inl (subst (λ v. Contains (y ∷ xs) v) e (contains-first y xs))
      | inr differs ↦
          elim (stands_or_not xs x) [
            | inl later ↦ inl (contains-rest y xs x later)
            | inr never ↦ inr (λ stands. elim (contains-cases y xs x stands) [ inl e ↦ absurd (differs e) | inr later ↦ absurd (never later) ])
          ]
    ]

-- What stands at a place stands in the list.
pub contains-at : {A : Type 0} (xs : List A) (k : ℕ) (x : A) → slice_get xs k ≡ Some x → Contains xs x
contains-at [] k x at = cc
contains-at {A} (y ∷ xs) zero x at = let e : y ≡ x = cc in subst (λ (v : A). Contains (y ∷ xs) v) e (contains-first y xs)
contains-at (y ∷ xs) (suc k) x at = contains-rest y xs x (contains-at xs k x at)

-- What stands at a place stands below the length.
pub at-within : {A : Type 0} (xs : List A) (k : ℕ) (x : A) → slice_get xs k ≡ Some x → k < length xs
at-within [] k x at = cc
at-within (y ∷ xs) zero x at = omega arith
at-within (y ∷ xs) (suc k) x at = let ih = at-within xs k x at in omega arith

-- What is read at a place below the length stands at it.
pub at-read : {A : Type 0} (xs : List A) (k : ℕ) (x : A) → k < length xs → slice_index_or xs k x ≡ x → slice_get xs k ≡ Some x
at-read [] k x inside read = absurd (omega arith)
at-read (y ∷ xs) zero x inside read = ap Some read
at-read (y ∷ xs) (suc k) x inside read = at-read xs k x (omega arith) read

-- What a list contains stands at some place of it.
pub place-of : {A : Type 0} (xs : List A) (x : A) → Contains xs x → (k : ℕ) × (slice_get xs k ≡ Some x)
place-of xs x (k, inside, is) = (k, at-read xs k x inside is)

-- At a place below the length something stands.
pub some-at : {A : Type 0} (xs : List A) (k : ℕ) → k < length xs → (x : A) × (slice_get xs k ≡ Some x)
some-at [] k inside = absurd (omega arith)
some-at (x ∷ xs) zero inside = (x, refl)
some-at (x ∷ xs) (suc k) inside = some-at xs k (omega arith)

-- At a place one item stands.
pub one-at : {A : Type 0} (xs : List A) (k : ℕ) (x y : A) → slice_get xs k ≡ Some x → slice_get xs k ≡ Some y → x ≡ y
one-at [] k x y at other = cc
one-at (z ∷ xs) zero x y at other = cc
one-at (z ∷ xs) (suc k) x y at other = one-at xs k x y at other

-- Pairs by places.
pub pairs-at : {A : Type 0} (R : A → A → Type 0) (xs : List A) → AllPairs R xs → (i j : ℕ) (x y : A) → i < j → slice_get xs i ≡ Some x → slice_get xs j ≡ Some y → R x y
pairs-at R [] pairs i j x y before at other = cc
pairs-at R (z ∷ xs) pairs i zero x y before at other = absurd (omega arith)
pairs-at {A} R (z ∷ xs) pairs zero (suc j) x y before at other =
    let e : z ≡ x = cc in
    subst (λ (v : A). R v y) e (pairs_first R z xs pairs y (contains-at xs j y other))
pairs-at R (z ∷ xs) pairs (suc i) (suc j) x y before at other = pairs-at R xs (pairs_rest R z xs pairs) i j x y (omega arith) at other

-- A list is ordered where each item is in the relation to the next one, and the relation is passed on.
pub pairs-from_next : {A : Type 0} (R : A → A → Type 0) → ((x y z : A) → R x y → R y z → R x z) → (xs : List A)
    → ((k : ℕ) (x y : A) → slice_get xs k ≡ Some x → slice_get xs (suc k) ≡ Some y → R x y) → AllPairs R xs
pairs-from_next R through [] next = λ i j d before inside. absurd (omega arith)
pairs-from_next {A} R through (x ∷ xs) next =
    AllPairs-cons R x xs (later xs (λ y at. next zero x y refl at) (λ k y z at after. next (suc k) y z at after)) (pairs-from_next R through xs (λ k y z at after. next (suc k) y z at after))
  where
    later : (ys : List A) → ((y : A) → slice_get ys zero ≡ Some y → R x y) → ((k : ℕ) (y z : A) → slice_get ys k ≡ Some y → slice_get ys (suc k) ≡ Some z → R y z)
        → (k : ℕ) (d : A) → k < length ys → R x (slice_index_or ys k d)
    later [] first each k d inside = absurd (omega arith)
    later (y ∷ ys) first each zero d inside = first y refl
    later (y ∷ ys) first each (suc k) d inside =
        later ys (λ z at. through x y z (first y refl) (each zero y z refl at)) (λ i u v at after. each (suc i) u v at after) k d (omega arith)

-- One item more at the end, in the relation to each.
pub pairs-push : {A : Type 0} (R : A → A → Type 0) (xs : List A) (y : A) → AllPairs R xs → ((x : A) → Contains xs x → R x y) → AllPairs R (xs ++ y ∷ [])
pairs-push R xs y pairs each = all_pairs_push R xs y pairs (λ k d inside. each (get_or xs k d) (read-stands xs k d inside))
  where
    read-stands : {B : Type 0} (zs : List B) (k : ℕ) (d : B) → k < length zs → Contains zs (slice_index_or zs k d)
    read-stands [] k d inside = absurd (omega arith)
    read-stands (z ∷ zs) zero d inside = contains-first z zs
    read-stands (z ∷ zs) (suc k) d inside = contains-rest z zs (slice_index_or zs k d) (read-stands zs k d (omega arith))

-- The order of nodes holds of no node with itself.
pub before-never : (x : Node) → ¬ IsBefore x x
before-never x before = elim before [ inl lower ↦ absurd (omega arith) | inr same ↦ omega (arith, same.1) ]

-- The order of nodes is passed on.
pub before-through : (x y z : Node) → IsBefore x y → IsBefore y z → IsBefore x z
before-through x y z h k = by_parts x.signal y.signal z.signal x.advance y.advance z.advance h k
  where
    by_parts : (s t u a b c : ℕ) → (s < t) ⊎ ((s ≡ t) × (a < b)) → (t < u) ⊎ ((t ≡ u) × (b < c)) → (s < u) ⊎ ((s ≡ u) × (a < c))
    by_parts s t u a b c (inl l) (inl m) = inl (omega arith)
    by_parts s t u a b c (inl l) (inr m) = let e = m.0 in inl (omega arith)
    by_parts s t u a b c (inr l) (inl m) = let e = l.0 in inl (omega arith)
    by_parts s t u a b c (inr l) (inr m) = inr (l.0 ∙ m.0, let p = l.1 in let q = m.1 in omega arith)
