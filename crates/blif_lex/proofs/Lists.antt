-- Lemmas on lists: tests of some element, filters, and cuts at separators.
use Rattle.std.proofs.Common.{◌≡◌, ◌<◌, Bool, true, false, ◌||◌, cond, List, [], ◌∷◌, ◌++◌, map, length, refl, ap, ◌∙◌, arith}
use Rattle.std.specs.List.{list_any, flat_map, slice_split, onto_first}
use Rattle.std.proofs.lemmas.List.Folds.{list_any-append}

pub list_any-map : {X Y : Type 0} (p : Y → Bool) (f : X → Y) (xs : List X) → list_any p (map f xs) ≡ list_any (λ x. p (f x)) xs
list_any-map p f [] = refl
list_any-map p f (x ∷ xs) = ap (λ b. p (f x) || b) (list_any-map p f xs)

pub list_any-flat_map : {X Y : Type 0} (p : Y → Bool) (f : X → List Y) (xs : List X) → list_any p (flat_map f xs) ≡ list_any (λ x. list_any p (f x)) xs
list_any-flat_map p f [] = refl
list_any-flat_map p f (x ∷ xs) = list_any-append p (f x) (flat_map f xs) ∙ ap (λ b. list_any p (f x) || b) (list_any-flat_map p f xs)

-- a list with a first part, put before more parts
pub onto_first-append : {X : Type 0} (x : X) (parts others : List (List X)) → 0 < length parts → onto_first x (parts ++ others) ≡ onto_first x parts ++ others
onto_first-append x [] others h = absurd (omega arith)
onto_first-append x (part ∷ parts) others h = refl

pub length-onto_first : {X : Type 0} (x : X) (parts : List (List X)) → 0 < length (onto_first x parts)
length-onto_first x [] = omega arith
length-onto_first x (part ∷ parts) = omega arith

pub length-slice_split_some : {X : Type 0} (p : X → Bool) (xs : List X) → 0 < length (slice_split p xs)
length-slice_split_some p [] = omega arith
length-slice_split_some p (x ∷ xs) =
    elim (p x) as (λ b. 0 < length (cond b ([] ∷ slice_split p xs) (onto_first x (slice_split p xs)))) [
      | true ↦ omega arith
      | false ↦ length-onto_first x (slice_split p xs)
    ]

-- A separator parts what stands before it from what stands after it.
pub slice_split-append : {X : Type 0} (p : X → Bool) (xs : List X) (y : X) (ys : List X) → p y ≡ true → slice_split p (xs ++ y ∷ ys) ≡ slice_split p xs ++ slice_split p ys
slice_split-append p [] y ys e = rw e refl
slice_split-append p (x ∷ xs) y ys e =
    elim (p x) as (λ b. cond b ([] ∷ slice_split p (xs ++ y ∷ ys)) (onto_first x (slice_split p (xs ++ y ∷ ys)))
    ≡ cond b ([] ∷ slice_split p xs) (onto_first x (slice_split p xs)) ++ slice_split p ys) [
      | true ↦ ap (λ parts. [] ∷ parts) (slice_split-append p xs y ys e)
      | false ↦ ap (λ parts. onto_first x parts) (slice_split-append p xs y ys e)
          ∙ onto_first-append x (slice_split p xs) (slice_split p ys) (length-slice_split_some p xs)
    ]
