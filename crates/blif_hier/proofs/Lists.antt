-- Lists: elements by their places, and facts of two lists side by side.
use Rattle.std.proofs.Common.{◌≡◌, inl, inr, ℕ, zero, suc, ◌+◌, Bool, false, List, [], ◌∷◌, ◌++◌, Option, None, Some, length, map, flat_map, slice_get, refl, sym, ◌∙◌, ap, subst, arith}
use Rattle.std.specs.Prelude.{Contains, filter_map}
use Rattle.std.specs.List.{AllByRecursion, list_any, cons_option}
use Rattle.tm_circuit.proofs.ListLemmas.{contains-first, contains-rest, contains-cases, contains-none}
use Rattle.blif_circuit.proofs.SignalUses.{all-left, all-right}
use Rattle.blif_models.proofs.OrderlyLemmas.{or_left_false, or_right_false}

-- ---- elements by place

pub slice_get-append : {X : Type 0} (xs ys : List X) (k : ℕ) → slice_get (xs ++ ys) (length xs + k) ≡ slice_get ys k
slice_get-append [] ys k = ap (slice_get ys) (let e : 0 + k ≡ k = omega arith in e)
slice_get-append (x ∷ xs) ys k =
    ap (slice_get (x ∷ (xs ++ ys))) (let e : suc (length xs) + k ≡ suc (length xs + k) = omega arith in e) ∙ slice_get-append xs ys k

pub slice_get-front : {X : Type 0} (xs ys : List X) (k : ℕ) (x : X) → slice_get xs k ≡ Some x → slice_get (xs ++ ys) k ≡ Some x
slice_get-front {X} [] ys k x at = let e : ◌≡◌ {A = Option X} None (Some x) = at in cc
slice_get-front (y ∷ xs) ys zero x at = at
slice_get-front (y ∷ xs) ys (suc k) x at = slice_get-front xs ys k x at

pub slice_get-unmap : {X Y : Type 0} (f : X → Y) (xs : List X) (k : ℕ) (y : Y) → slice_get (map f xs) k ≡ Some y → (x : X) × (slice_get xs k ≡ Some x) × (f x ≡ y)
slice_get-unmap {X} {Y} f [] k y at = let e : ◌≡◌ {A = Option Y} None (Some y) = at in cc
slice_get-unmap f (x ∷ xs) zero y at = (x, refl, let e : f x ≡ y = cc in e)
slice_get-unmap f (x ∷ xs) (suc k) y at = slice_get-unmap f xs k y at

pub at_contains : {X : Type 0} (xs : List X) (k : ℕ) (x : X) → slice_get xs k ≡ Some x → Contains xs x
at_contains {X} [] k x at = let e : ◌≡◌ {A = Option X} None (Some x) = at in cc
at_contains {X} (y ∷ xs) zero x at = let e : y ≡ x = cc in subst (λ (z : X). Contains (y ∷ xs) z) e (contains-first y xs)
at_contains (y ∷ xs) (suc k) x at = contains-rest y xs x (at_contains xs k x at)

-- ---- facts of each element

pub all_contains : {X : Type 0} (P : X → Type 0) (xs : List X) (x : X) → AllByRecursion P xs → Contains xs x → P x
all_contains P [] x all there = absurd (contains-none x there)
all_contains P (y ∷ xs) x all there = elim (contains-cases y xs x there) [ inl same ↦ subst P same all.0 | inr rest ↦ all_contains P xs x all.1 rest ]

pub all_by_each : {X : Type 0} (P : X → Type 0) (xs : List X) → ((x : X) → Contains xs x → P x) → AllByRecursion P xs
all_by_each P [] each = tt
all_by_each P (x ∷ xs) each = (each x (contains-first x xs), all_by_each P xs (λ y there. each y (contains-rest x xs y there)))

pub map_same : {X Y : Type 0} (f g : X → Y) (xs : List X) → ((x : X) → Contains xs x → f x ≡ g x) → map f xs ≡ map g xs
map_same f g [] each = refl
map_same {X} {Y} f g (x ∷ xs) each =
    let first : f x ≡ g x = each x (contains-first x xs) in
    let rest : map f xs ≡ map g xs = map_same f g xs (λ y there. each y (contains-rest x xs y there)) in
    ap (λ (y : Y). y ∷ map f xs) first ∙ ap (λ (ys : List Y). g x ∷ ys) rest

pub any_false_at : {X : Type 0} (f : X → Bool) (xs : List X) (x : X) → list_any f xs ≡ false → Contains xs x → f x ≡ false
any_false_at f [] x none there = absurd (contains-none x there)
any_false_at {X} f (y ∷ xs) x none there =
    elim (contains-cases y xs x there) [
      | inl same ↦ subst (λ (z : X). f z ≡ false) same (or_left_false (f y) (list_any f xs) none)
      | inr rest ↦ any_false_at f xs x (or_right_false (f y) (list_any f xs) none) rest
    ]

none_first : {X Y : Type 0} (f : X → Option Y) (x : X) (xs : List X) → filter_map f (x ∷ xs) ≡ [] → (f x ≡ None) × (filter_map f xs ≡ [])
none_first {X} {Y} f x xs none = by_first (f x) refl none
  where
    by_first : (o : Option Y) → f x ≡ o → cons_option o (filter_map f xs) ≡ [] → (f x ≡ None) × (filter_map f xs ≡ [])
    by_first None is h = (is, h)
    by_first (Some y) is h = cc

pub filter_none_at : {X Y : Type 0} (f : X → Option Y) (xs : List X) (x : X) → filter_map f xs ≡ [] → Contains xs x → f x ≡ None
filter_none_at f [] x none there = absurd (contains-none x there)
filter_none_at {X} f (y ∷ xs) x none there =
    let both = none_first f y xs none in
    elim (contains-cases y xs x there) [ inl same ↦ subst (λ (z : X). f z ≡ None) same both.0 | inr rest ↦ filter_none_at f xs x both.1 rest ]

pub flat_all_at : {X Y : Type 0} (P : Y → Type 0) (f : X → List Y) (xs : List X) (x : X) → AllByRecursion P (flat_map f xs) → Contains xs x → AllByRecursion P (f x)
flat_all_at P f [] x all there = absurd (contains-none x there)
flat_all_at {X} P f (y ∷ xs) x all there =
    elim (contains-cases y xs x there) [
      | inl same ↦ subst (λ (z : X). AllByRecursion P (f z)) same (all-left P (f y) (flat_map f xs) all)
      | inr rest ↦ flat_all_at P f xs x (all-right P (f y) (flat_map f xs) all) rest
    ]

-- ---- two lists side by side

-- A fact of each two elements side by side, and of their place, from a place on.
abbrev pub AllFrom : {X Y : Type 0} → (ℕ → X → Y → Type 0) → ℕ → List X → List Y → Type 0
AllFrom P k [] [] = Unit {0}
AllFrom P k [] (y ∷ ys) = ⊥
AllFrom P k (x ∷ xs) [] = ⊥
AllFrom P k (x ∷ xs) (y ∷ ys) = P k x y × AllFrom P (suc k) xs ys

pub all_from-append : {X Y : Type 0} (P : ℕ → X → Y → Type 0) (k m : ℕ) (xs us : List X) (ys vs : List Y) → k + length xs ≡ m → AllFrom P k xs ys → AllFrom P m us vs
    → AllFrom P k (xs ++ us) (ys ++ vs)
all_from-append P k m [] us [] vs same a b = let e : k ≡ m = omega arith in subst (λ j. AllFrom P j us vs) (sym e) b
all_from-append P k m [] us (y ∷ ys) vs same a b = absurd a
all_from-append P k m (x ∷ xs) us [] vs same a b = absurd a
all_from-append P k m (x ∷ xs) us (y ∷ ys) vs same a b = (a.0, all_from-append P (suc k) m xs us ys vs (omega arith) a.1 b)

pub all_from_at : {X Y : Type 0} (P : ℕ → X → Y → Type 0) (k i j : ℕ) (xs : List X) (ys : List Y) (x : X) → k + i ≡ j → AllFrom P k xs ys → slice_get xs i ≡ Some x
    → (y : Y) × (slice_get ys i ≡ Some y) × P j x y
all_from_at {X} P k i j [] ys x same all at = let e : ◌≡◌ {A = Option X} None (Some x) = at in cc
all_from_at P k i j (z ∷ xs) [] x same all at = absurd all
all_from_at {X} {Y} P k zero j (z ∷ xs) (y ∷ ys) x same all at =
    let first : z ≡ x = cc in
    let here : k ≡ j = omega (arith, same) in
    (y, refl, subst (λ (u : X). P j u y) first (subst (λ n. P n z y) here all.0))
all_from_at P k (suc i) j (z ∷ xs) (y ∷ ys) x same all at = all_from_at P (suc k) i j xs ys x (omega (arith, same)) all.1 at
