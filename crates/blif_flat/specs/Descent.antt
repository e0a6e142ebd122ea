-- What a descent from models to those that they place keeps true, and what it finds.
use Rattle.std.specs.Prelude.{◌≡◌, ◌≢◌, ℕ, ◌+◌, ◌*◌, ◌<◌, ◌≤◌, Bool, true, false, List, [], ◌∷◌, ◌++◌, map, length, set, reverse, take, Some, slice_get, slice_index, slice_index_or, count_by, Contains}
use Rattle.blif_flat.specs.declared.order.Descent.{Descent}
use Rattle.blif_flat.specs.declared.order.Frame.{Frame}
use Rattle.blif_flat.specs.declared.order.Mark.{Mark}
use Rattle.blif_flat.specs.declared.order.Mark.TheVariants.{Fresh, Open, Done}
use Rattle.blif_flat.specs.Graph.{placed_in, IsPlaced, IsChain}

-- The mark of a model; past the end it is done.
abbrev pub mark_at : List Mark → ℕ → Mark
mark_at marks m = slice_index_or marks m Done

abbrev pub is_fresh : Mark → Bool
is_fresh Fresh = true
is_fresh Open = false
is_fresh Done = false

-- The placed models from one place up to another are done.
abbrev pub AreDone : List Mark → List ℕ → ℕ → ℕ → Type 0
AreDone marks placed from upto = (k : ℕ) → from ≤ k → k < upto → mark_at marks (slice_index placed k) ≡ Done

-- The first place from one on whose model is not done.
abbrev pub IsFirstWaiting : List Mark → List ℕ → ℕ → ℕ → Type 0
IsFirstWaiting marks placed from place =
    (place < length placed) × AreDone marks placed from place × (mark_at marks (slice_index placed place) ≢ Done)

-- The models of a trail, the newest first.
abbrev pub models_of : List Frame → List ℕ
models_of trail = map (λ f. f.model) trail

-- No model stands twice in a list.
abbrev pub IsApart : List ℕ → Type 0
IsApart [] = Unit {0}
IsApart (x ∷ xs) = ¬ Contains xs x × IsApart xs

-- In each frame the models before its place are done.
abbrev pub HavePassed : List (List ℕ) → List Mark → List Frame → Type 0
HavePassed graph marks [] = Unit {0}
HavePassed graph marks (f ∷ trail) = AreDone marks (placed_in graph f.model) 0 f.place × HavePassed graph marks trail

-- The state of a descent: the trail is a chain of the open models, and what is done is listed.
pub record IsDescending (graph : List (List ℕ)) (marks : List Mark) (order : List ℕ) (trail : List Frame) : Type 0 where
  pub sized : length marks ≡ length graph
  pub chain : IsChain graph (models_of trail)
  pub opened : (m : ℕ) → mark_at marks m ≡ Open → Contains (models_of trail) m
  pub all_open : (m : ℕ) → Contains (models_of trail) m → mark_at marks m ≡ Open
  pub apart : IsApart (models_of trail)
  pub passed : HavePassed graph marks trail
  pub listed : (m : ℕ) → Contains order m → (m < length graph) × (mark_at marks m ≡ Done)
  pub all_listed : (m : ℕ) → m < length graph → mark_at marks m ≡ Done → Contains order m
  pub after : (k m p : ℕ) → slice_get order k ≡ Some m → IsPlaced graph p m → Contains (take k order) p

-- A descent with this trail, the newest frame first.
abbrev pub Descends : List (List ℕ) → Descent → List Frame → Type 0
Descends graph d trail = IsDescending graph d.marks.items d.order.items trail

-- A descent between two roots.
pub record IsAtRest (graph : List (List ℕ)) (d : Descent) : Type 0 where
  pub empty : d.trail.items ≡ []
  pub descends : Descends graph d []

-- A model was not met yet.
abbrev pub IsFresh : Descent → ℕ → Type 0
IsFresh d m = mark_at d.marks.items m ≡ Fresh

-- The work left: two turns for each fresh model and one for each frame.
abbrev pub work : Descent → ℕ
work d = 2 * count_by is_fresh d.marks.items + length d.trail.items

-- A model was opened.
pub record Opens (old new : Descent) (m : ℕ) : Type 0 where
  pub marks : new.marks.items ≡ set old.marks.items m Open
  pub order : new.order.items ≡ old.order.items
  pub trail : new.trail.items ≡ old.trail.items ++ record { model = m; place = 0 } ∷ []

-- A model was finished.
pub record Finishes (old new : Descent) (m : ℕ) : Type 0 where
  pub marks : new.marks.items ≡ set old.marks.items m Done
  pub order : new.order.items ≡ old.order.items ++ m ∷ []
  pub trail : new.trail.items ≡ old.trail.items

-- One turn of a descent: it goes on, with less work left, and nothing becomes fresh.
pub record Turns (graph : List (List ℕ)) (old new : Descent) : Type 0 where
  pub descends : Descends graph new (reverse new.trail.items)
  pub less : work new ≤ work old
  pub fresh : (m : ℕ) → IsFresh new m → IsFresh old m

-- A visit of a root: the descent is at rest again, nothing became fresh, and the root is not.
pub record Visits (graph : List (List ℕ)) (old new : Descent) (root : ℕ) : Type 0 where
  pub rest : IsAtRest graph new
  pub fresh : (m : ℕ) → IsFresh new m → IsFresh old m
  pub met : ¬ IsFresh new root
