-- Lists by places: what stands in lists side by side, in mapped lists and in lists made from numbers.
use Rattle.std.proofs.Common.{◌≡◌, ℕ, zero, suc, ◌+◌, ◌<◌, inl, inr, false, List, [], ◌∷◌, ◌++◌, map, length, Some, slice_get, refl, sym, ◌∙◌, ap, subst, arith}
use Rattle.std.specs.Prelude.{Contains}
use Rattle.std.specs.List.{range_with_len}
use Rattle.std.proofs.lemmas.Bool.{cases_lt}
use Rattle.std.proofs.lemmas.List.{get_or_default}
use Rattle.std.proofs.lemmas.List.FromFn.{length-map-range_with_len}
use Rattle.std.proofs.lemmas.Option.{slice_get_past}
use Rattle.tm_circuit.specs.Plain.{Drive, latch, drive_in}
use Rattle.tm_circuit.proofs.ListLemmas.{contains-map, contains-unmap}

-- What stands in the first of two lists side by side stands in both.
pub at-left : {A : Type 0} (xs ys : List A) (i : ℕ) (x : A) → slice_get xs i ≡ Some x → slice_get (xs ++ ys) i ≡ Some x
at-left [] ys i x at = cc
at-left (y ∷ xs) ys zero x at = at
at-left (y ∷ xs) ys (suc i) x at = at-left xs ys i x at

-- What stands in the second stands behind the first.
pub at-right : {A : Type 0} (xs ys : List A) (i : ℕ) (x : A) → slice_get ys i ≡ Some x → slice_get (xs ++ ys) (length xs + i) ≡ Some x
at-right {A} [] ys i x at = let e : i ≡ 0 + i = omega arith in subst (λ n. slice_get ys n ≡ Some x) e at
at-right {A} (y ∷ xs) ys i x at =
    let e : suc (length xs + i) ≡ suc (length xs) + i = omega arith in
    subst (λ n. slice_get (y ∷ (xs ++ ys)) n ≡ Some x) e (at-right xs ys i x at)

-- What stands in a mapped list is mapped from what stands at the same place.
pub at-map : {A B : Type 0} (f : A → B) (xs : List A) (i : ℕ) (x : A) → slice_get xs i ≡ Some x → slice_get (map f xs) i ≡ Some (f x)
at-map f [] i x at = cc
at-map f (y ∷ xs) zero x at = let e : y ≡ x = cc in ap (λ z. Some (f z)) e
at-map f (y ∷ xs) (suc i) x at = at-map f xs i x at

pub at-unmap : {A B : Type 0} (f : A → B) (xs : List A) (i : ℕ) (y : B) → slice_get (map f xs) i ≡ Some y → (x : A) × (slice_get xs i ≡ Some x) × (f x ≡ y)
at-unmap f [] i y at = cc
at-unmap f (x ∷ xs) zero y at = (x, refl, cc)
at-unmap f (x ∷ xs) (suc i) y at = at-unmap f xs i y at

-- The drives after the first.
pub drive-rest : (d : Drive) (ds : List Drive) (i : ℕ) → i < length ds → drive_in (d ∷ ds) (suc i) ≡ drive_in ds i
drive-rest d ds i within = get_or_default ds i (latch (suc i) false) (latch i false) within

-- A list made from numbers.
pub at-count : {A : Type 0} (f : ℕ → A) (from n i : ℕ) → i < n → slice_get (map f (range_with_len from n)) i ≡ Some (f (from + i))
at-count f from zero i low = absurd (omega arith)
at-count f from (suc n) zero low = let e : from ≡ from + 0 = omega arith in ap (λ m. Some (f m)) e
at-count f from (suc n) (suc i) low =
    let e : from + 1 + i ≡ from + suc i = omega arith in
    at-count f (from + 1) n i (omega arith) ∙ ap (λ m. Some (f m)) e

pub of-count : {A : Type 0} (f : ℕ → A) (from n i : ℕ) (x : A) → slice_get (map f (range_with_len from n)) i ≡ Some x → (i < n) × (f (from + i) ≡ x)
of-count f from n i x at =
    elim (cases_lt i n) [
      | inl low ↦ (low, let e = at-count f from n i low in cc)
      | inr high ↦
          let none = slice_get_past (map f (range_with_len from n)) i (let e = length-map-range_with_len f from n in omega (arith, e, high)) in
          cc
    ]

-- Where the items at some places are the items of a list, each place has an item of the list.
pub item-at : {A : Type 0} (all : List A) (places : List ℕ) (items : List A) → map (λ p. slice_get all p) places ≡ map (λ x. Some x) items
    → (p : ℕ) → Contains places p → (x : A) × (slice_get all p ≡ Some x) × Contains items x
item-at all places items same p stands =
    let at = contains-map (λ q. slice_get all q) places p stands in
    let from = contains-unmap (λ x. Some x) items (slice_get all p) (subst (λ os. Contains os (slice_get all p)) same at) in
    (from.0, sym from.2, from.1)

-- And each item of the list stands at one of the places.
pub place-at : {A : Type 0} (all : List A) (places : List ℕ) (items : List A) → map (λ p. slice_get all p) places ≡ map (λ x. Some x) items
    → (x : A) → Contains items x → (p : ℕ) × Contains places p × (slice_get all p ≡ Some x)
place-at all places items same x stands =
    let at = contains-map (λ y. Some y) items x stands in
    let from = contains-unmap (λ q. slice_get all q) places (Some x) (subst (λ os. Contains os (Some x)) (sym same) at) in
    (from.0, from.1, from.2)
