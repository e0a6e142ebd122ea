-- Models by number, each with the numbers of those that it places: circles, and orders in which placed ones come first.
use Rattle.std.specs.Prelude.{◌≡◌, ℕ, ◌<◌, List, [], ◌∷◌, ◌++◌, length, take, Some, slice_get, slice_index_or, Contains}

-- the models that a model places; past the end none
abbrev pub placed_in : List (List ℕ) → ℕ → List ℕ
placed_in graph m = slice_index_or graph m []

-- The model `a` is placed by the model `b`.
abbrev pub IsPlaced : List (List ℕ) → ℕ → ℕ → Type 0
IsPlaced graph a b = Contains (placed_in graph b) a

-- The model is placed by the first of a list, where there is one.
abbrev pub IsPlacedByFirst : List (List ℕ) → ℕ → List ℕ → Type 0
IsPlacedByFirst graph a [] = Unit {0}
IsPlacedByFirst graph a (b ∷ rest) = IsPlaced graph a b

-- A list of models in which each is placed by the next.
abbrev pub IsChain : List (List ℕ) → List ℕ → Type 0
IsChain graph [] = Unit {0}
IsChain graph (a ∷ rest) = (a < length graph) × IsPlacedByFirst graph a rest × IsChain graph rest

-- Models place one another in a circle: a chain leads from a model back to itself.
abbrev pub HasCircle : List (List ℕ) → Type 0
HasCircle graph = (m : ℕ) × ((through : List ℕ) × IsChain graph (m ∷ (through ++ m ∷ [])))

-- Models place models that there are.
abbrev pub IsGraph : List (List ℕ) → Type 0
IsGraph graph = (m p : ℕ) → IsPlaced graph p m → p < length graph

-- An order of the models: each stands in it after those that it places.
pub record IsOrder (graph : List (List ℕ)) (order : List ℕ) : Type 0 where
  pub all : (m : ℕ) → m < length graph → Contains order m
  pub models : (m : ℕ) → Contains order m → m < length graph
  pub after : (k m p : ℕ) → slice_get order k ≡ Some m → IsPlaced graph p m → Contains (take k order) p
