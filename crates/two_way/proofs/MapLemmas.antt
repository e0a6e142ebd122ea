-- Lists mapped by a function: what stands in them, their pairs, and the list from which one is mapped.
use Rattle.std.proofs.Common.{◌≡◌, ℕ, ◌+◌, ◌<◌, List, [], ◌∷◌, ◌++◌, map, length, take, get_or, refl, sym, ◌∙◌, ap, subst, arith}
use Rattle.std.proofs.lemmas.List.{map_push, take_more}
use Rattle.std.specs.Prelude.{Contains, AllPairs, slice_index_or}
use Rattle.std.proofs.lemmas.List.Elements.{Contains-get_or}
use Rattle.std.proofs.lemmas.List.Kept.{AllPairs-cons}
use Rattle.tm_circuit.proofs.ListLemmas.{contains-first, contains-rest, contains-map, contains-unmap}
use Rattle.tm_unroll.proofs.ListLemmas.{pairs_rest, pairs_first}

pub map_map : {X Y Z : Type 0} (g : Y → Z) (f : X → Y) (xs : List X) → map g (map f xs) ≡ map (λ x. g (f x)) xs
map_map g f [] = refl
map_map {X} {Y} {Z} g f (x ∷ xs) = ap (λ (zs : List Z). g (f x) ∷ zs) (map_map g f xs)

-- What stands mapped stood, where no value is given twice.
pub contains_up : {X Y : Type 0} (f : X → Y) → ((x y : X) → f x ≡ f y → x ≡ y) → (xs : List X) (x : X) → Contains (map f xs) (f x) → Contains xs x
contains_up {X} f one xs x stands = let from = contains-unmap f xs (f x) stands in subst (λ (z : X). Contains xs z) (one from.0 x from.2) from.1

pub pairs_map : {X Y : Type 0} (R : X → X → Type 0) (S : Y → Y → Type 0) (f : X → Y) → ((x y : X) → R x y → S (f x) (f y)) → (xs : List X) → AllPairs R xs
    → AllPairs S (map f xs)
pairs_map R S f step [] pairs = λ i j e before inside. absurd (omega arith)
pairs_map {X} {Y} R S f step (x ∷ xs) pairs =
    AllPairs-cons S (f x) (map f xs)
    (λ i e inside.
    let from = contains-unmap f xs (slice_index_or (map f xs) i e) (Contains-get_or (map f xs) i e inside) in
    subst (λ (z : Y). S (f x) z) from.2 (step x from.0 (pairs_first R x xs pairs from.0 from.1)))
    (pairs_map R S f step xs (pairs_rest R x xs pairs))

pub pairs_up : {X Y : Type 0} (R : X → X → Type 0) (S : Y → Y → Type 0) (f : X → Y) → ((x y : X) → S (f x) (f y) → R x y) → (xs : List X)
    → AllPairs S (map f xs) → AllPairs R xs
pairs_up R S f step [] pairs = λ i j e before inside. absurd (omega arith)
pairs_up R S f step (x ∷ xs) pairs =
    AllPairs-cons R x xs
    (λ i e inside.
    step x (slice_index_or xs i e)
    (pairs_first S (f x) (map f xs) pairs (f (slice_index_or xs i e)) (contains-map f xs (slice_index_or xs i e) (Contains-get_or xs i e inside))))
    (pairs_up R S f step xs (pairs_rest S (f x) (map f xs) pairs))

-- A list of values of a function is a mapped list.
pub unmap_all : {X Y : Type 0} (f : X → Y) (ys : List Y) → ((y : Y) → Contains ys y → (x : X) × (f x ≡ y)) → (xs : List X) × (ys ≡ map f xs)
unmap_all f [] each = ([], refl)
unmap_all f (y ∷ ys) each =
    let (x, first) = each y (contains-first y ys) in
    let (xs, rest) = unmap_all f ys (λ z stands. each z (contains-rest y ys z stands)) in
    (x ∷ xs, cc)

-- A list that is mapped from the first items of another is so with one item more on each side.
pub mapped_more : {X Y : Type 0} (f : X → Y) (xs : List X) (old new : List Y) (i : ℕ) (x : X) (y : Y) → i < length xs → x ≡ get_or xs i x → old ≡ map f (take i xs)
    → y ≡ f x → new ≡ old ++ y ∷ [] → new ≡ map f (take (i + 1) xs)
mapped_more {X} {Y} f xs old new i x y within at before same pushed =
    pushed ∙ ap (λ (ys : List Y). ys ++ y ∷ []) before ∙ ap (λ (z : Y). map f (take i xs) ++ z ∷ []) same ∙ sym (map_push f (take i xs) x)
    ∙ ap (map f) (ap (λ (z : X). take i xs ++ z ∷ []) at ∙ sym (take_more xs i x within))

-- Two lists that are mapped alike, of which one is the first items of another, are so with one item more on each side.
pub alike_more : {X Y Z : Type 0} (g : Y → Z) (f : X → Z) (xs : List X) (old new : List Y) (i : ℕ) (x : X) (y : Y) → i < length xs → x ≡ get_or xs i x
    → map g old ≡ map f (take i xs) → g y ≡ f x → new ≡ old ++ y ∷ [] → map g new ≡ map f (take (i + 1) xs)
alike_more g f xs old new i x y within at before same pushed =
    mapped_more f xs (map g old) (map g new) i x (g y) within at before same (ap (map g) pushed ∙ map_push g old y)
