-- Lists: membership by the first element, the greatest number, and marks after a write.
use Rattle.std.proofs.Common.{◌≡◌, ℕ, zero, suc, ◌<◌, ◌≤◌, max, ◌⊎◌, inl, inr, List, [], ◌∷◌, ◌++◌, map, length, refl, sym, ◌∙◌, subst, arith}
use Rattle.std.specs.Prelude.{Contains, slice_index_or}
use Rattle.std.proofs.lemmas.Bool.{cases_lt}
use Rattle.tm_circuit.specs.Plain.{greatest}

-- the first of a list stands in it
pub contains-first : {X : Type 0} (y : X) (xs : List X) → Contains (y ∷ xs) y
contains-first y xs = (0, omega arith, refl)

-- what stands in the rest stands in the list
pub contains-rest : {X : Type 0} (y : X) (xs : List X) (x : X) → Contains xs x → Contains (y ∷ xs) x
contains-rest y xs x h = (suc h.0, omega (arith, h.1), h.2)

-- what stands in a list is its first or stands in the rest
pub contains-cases : {X : Type 0} (y : X) (xs : List X) (x : X) → Contains (y ∷ xs) x → (y ≡ x) ⊎ Contains xs x
contains-cases {X} y xs x h = at h.0 h.1 h.2
  where
    at : (k : ℕ) → k < suc (length xs) → slice_index_or (y ∷ xs) k x ≡ x → (y ≡ x) ⊎ Contains xs x
    at zero w e = inl e
    at (suc k) w e = inr (k, omega arith, e)

-- nothing stands in the empty list
pub contains-none : {X : Type 0} (x : X) → Contains [] x → ⊥
contains-none x h = omega (arith, h.1)

-- each number is at most the greatest
pub greatest-above : (xs : List ℕ) (x : ℕ) → Contains xs x → x ≤ greatest xs
greatest-above [] x h = absurd (contains-none x h)
greatest-above (y ∷ xs) x h = elim (contains-cases y xs x h) [ inl e ↦ omega arith | inr r ↦ let ih = greatest-above xs x r in omega arith ]

-- the greatest is at most what each is at most
pub greatest-below : (xs : List ℕ) (b : ℕ) → ((x : ℕ) → Contains xs x → x ≤ b) → greatest xs ≤ b
greatest-below [] b h = omega arith
greatest-below (y ∷ xs) b h =
    let first = h y (contains-first y xs) in
    let rest = greatest-below xs b (λ x r. h x (contains-rest y xs x r)) in
    omega arith

-- the greatest is 0 or one of the numbers
pub greatest-reached : (xs : List ℕ) → (greatest xs ≡ 0) ⊎ Contains xs (greatest xs)
greatest-reached [] = inl refl
greatest-reached (y ∷ xs) =
    elim (cases_lt y (greatest xs)) [
      | inl below ↦
          let is : max y (greatest xs) ≡ greatest xs = omega arith in
          elim (greatest-reached xs) [ inl none ↦ inl (is ∙ none) | inr r ↦ inr (subst (λ g. Contains (y ∷ xs) g) (sym is) (contains-rest y xs _ r)) ]
      | inr above ↦ let is : max y (greatest xs) ≡ y = omega arith in inr (subst (λ g. Contains (y ∷ xs) g) (sym is) (contains-first y xs))
    ]

-- the greatest with one number more at the end
pub greatest-push : (xs : List ℕ) (y : ℕ) → greatest (xs ++ y ∷ []) ≡ max (greatest xs) y
greatest-push [] y = omega arith
greatest-push (x ∷ xs) y = let ih = greatest-push xs y in omega arith

-- what stands in a list stands mapped in the mapped list
pub contains-map : {X Y : Type 0} (f : X → Y) (xs : List X) (x : X) → Contains xs x → Contains (map f xs) (f x)
contains-map f [] x h = absurd (contains-none x h)
contains-map f (y ∷ xs) x h =
    elim (contains-cases y xs x h) [
      | inl e ↦ subst (λ z. Contains (map f (y ∷ xs)) (f z)) e (contains-first (f y) (map f xs))
      | inr r ↦ contains-rest (f y) (map f xs) (f x) (contains-map f xs x r)
    ]

-- what stands in a mapped list is mapped from what stands in the list
pub contains-unmap : {X Y : Type 0} (f : X → Y) (xs : List X) (y : Y) → Contains (map f xs) y → (x : X) × Contains xs x × (f x ≡ y)
contains-unmap f [] y h = absurd (contains-none y h)
contains-unmap f (x ∷ xs) y h =
    elim (contains-cases (f x) (map f xs) y h) [
      | inl e ↦ (x, contains-first x xs, e)
      | inr r ↦ let u = contains-unmap f xs y r in (u.0, contains-rest x xs u.0 u.1, u.2)
    ]

-- functions that agree on a list map it alike
pub map-agree : {X Y : Type 0} (f g : X → Y) (xs : List X) → ((x : X) → Contains xs x → f x ≡ g x) → map f xs ≡ map g xs
map-agree f g [] h = refl
map-agree f g (x ∷ xs) h =
    let first = h x (contains-first x xs) in
    let rest = map-agree f g xs (λ y r. h y (contains-rest x xs y r)) in
    cc
