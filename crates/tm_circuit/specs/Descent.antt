-- What a descent from gates to their pins keeps true, and what it finds.
use Rattle.std.specs.Prelude.{◌≡◌, ◌≢◌, ℕ, ◌+◌, ◌*◌, ◌<◌, ◌≤◌, Bool, true, false, List, [], ◌∷◌, ◌++◌, map, length, set, reverse, take, Some, slice_get, slice_index, slice_index_or, count_by, Contains, AllPairs}
use Rattle.tm_circuit.specs.declared.depths.Descent.{Descent}
use Rattle.tm_circuit.specs.declared.depths.Frame.{Frame}
use Rattle.tm_circuit.specs.declared.depths.Ranking.{Ranking}
use Rattle.tm_circuit.specs.declared.depths.Mark.{Mark}
use Rattle.tm_circuit.specs.declared.depths.Mark.TheVariants.{Fresh, Open, Done}
use Rattle.tm_circuit.specs.Plain.{Drive, input, latch, gate, drive_in, pins_of, gate_count}
use Rattle.tm_circuit.specs.Chain.{IsGate, IsPin, IsChain, IsOrder, IsRanked, depth, depth_by}

-- The mark that a signal has before the descent: gates are fresh, all else is done.
abbrev pub first_mark_of : Drive → Mark
first_mark_of input = Done
first_mark_of (latch next init) = Done
first_mark_of (gate pins cover) = Fresh

-- The mark of a signal; past the end it is done, as a latch is.
abbrev pub mark_at : List Mark → ℕ → Mark
mark_at marks s = slice_index_or marks s Done

abbrev pub is_fresh : Mark → Bool
is_fresh Fresh = true
is_fresh Open = false
is_fresh Done = false

abbrev pub is_waiting : Mark → Bool
is_waiting Fresh = true
is_waiting Open = true
is_waiting Done = false

-- The pins from one place up to another are done.
abbrev pub AreDone : List Mark → List ℕ → ℕ → ℕ → Type 0
AreDone marks pins from upto = (k : ℕ) → from ≤ k → k < upto → mark_at marks (slice_index pins k) ≡ Done

-- The place of the first pin from a place on that is not done.
abbrev pub IsFirstWaiting : List Mark → List ℕ → ℕ → ℕ → Type 0
IsFirstWaiting marks pins from place = (place < length pins) × AreDone marks pins from place × (mark_at marks (slice_index pins place) ≢ Done)

-- The gates of a trail, the newest first.
abbrev pub gates_of : List Frame → List ℕ
gates_of trail = map (λ f. f.gate) trail

-- No gate stands twice in a list.
abbrev pub IsApart : List ℕ → Type 0
IsApart [] = Unit {0}
IsApart (x ∷ xs) = ¬ Contains xs x × IsApart xs

-- In each frame the pins before its place are done.
abbrev pub HavePassed : List Drive → List Mark → List Frame → Type 0
HavePassed drives marks [] = Unit {0}
HavePassed drives marks (f ∷ trail) = AreDone marks (pins_of (drive_in drives f.gate)) 0 f.pin × HavePassed drives marks trail

-- A signal that is done: its pins are done, and its rank is its depth by their ranks.
pub record IsRankedAt (drives : List Drive) (marks : List Mark) (ranks : List ℕ) (s : ℕ) : Type 0 where
  pub pins : (p : ℕ) → IsPin drives p s → mark_at marks p ≡ Done
  pub rank : slice_index ranks s ≡ depth_by (slice_index ranks) (drive_in drives s)

-- The state of a descent: the trail is a chain of the open gates, and what is done is ranked and listed.
pub record IsDescending (drives : List Drive) (marks : List Mark) (ranks order : List ℕ) (trail : List Frame) : Type 0 where
  pub marks_sized : length marks ≡ length drives
  pub ranks_sized : length ranks ≡ length drives
  pub gates : (s : ℕ) → mark_at marks s ≢ Done → IsGate drives s
  pub chain : IsChain drives (gates_of trail)
  pub opened : (s : ℕ) → mark_at marks s ≡ Open → Contains (gates_of trail) s
  pub all_open : (s : ℕ) → Contains (gates_of trail) s → mark_at marks s ≡ Open
  pub apart : IsApart (gates_of trail)
  pub passed : HavePassed drives marks trail
  pub ranked : (s : ℕ) → mark_at marks s ≡ Done → IsRankedAt drives marks ranks s
  pub listed : (s : ℕ) → Contains order s → IsGate drives s × (mark_at marks s ≡ Done)
  pub all_listed : (s : ℕ) → IsGate drives s → mark_at marks s ≡ Done → Contains order s
  pub once : AllPairs (λ a b. a ≢ b) order
  pub after : (k s p : ℕ) → slice_get order k ≡ Some s → IsPin drives p s → IsGate drives p → Contains (take k order) p
  pub bounded : (s : ℕ) → slice_index ranks s ≤ length order
  pub counted : length order + count_by is_waiting marks ≡ gate_count drives

-- A descent with this trail, the newest frame first.
abbrev pub Descends : List Drive → Descent → List Frame → Type 0
Descends drives d trail = IsDescending drives d.marks.items d.ranks.items d.order.items trail

-- A descent between two roots.
pub record IsAtRest (drives : List Drive) (d : Descent) : Type 0 where
  pub empty : d.trail.items ≡ []
  pub descends : Descends drives d []

-- A signal was not met yet.
abbrev pub IsFresh : Descent → ℕ → Type 0
IsFresh d s = mark_at d.marks.items s ≡ Fresh

-- The work left: two turns for each fresh gate and one for each frame.
abbrev pub work : Descent → ℕ
work d = 2 * count_by is_fresh d.marks.items + length d.trail.items

-- A gate was opened.
pub record Opens (old new : Descent) (g : ℕ) : Type 0 where
  pub marks : new.marks.items ≡ set old.marks.items g Open
  pub ranks : new.ranks.items ≡ old.ranks.items
  pub order : new.order.items ≡ old.order.items
  pub trail : new.trail.items ≡ old.trail.items ++ record { gate = g; pin = 0 } ∷ []

-- A gate was finished with a rank.
pub record Finishes (old new : Descent) (g rank : ℕ) : Type 0 where
  pub marks : new.marks.items ≡ set old.marks.items g Done
  pub ranks : new.ranks.items ≡ set old.ranks.items g rank
  pub order : new.order.items ≡ old.order.items ++ g ∷ []
  pub trail : new.trail.items ≡ old.trail.items

-- One turn of a descent: it goes on, with less work left, and nothing becomes fresh.
pub record Turns (drives : List Drive) (old new : Descent) : Type 0 where
  pub descends : Descends drives new (reverse new.trail.items)
  pub less : work new ≤ work old
  pub fresh : (s : ℕ) → IsFresh new s → IsFresh old s

-- A visit of a root: the descent is at rest again, nothing became fresh, and the root is not.
pub record Visits (drives : List Drive) (old new : Descent) (root : ℕ) : Type 0 where
  pub rest : IsAtRest drives new
  pub fresh : (s : ℕ) → IsFresh new s → IsFresh old s
  pub met : ¬ IsFresh new root

-- The ranks of all signals, and an order of the gates.
pub record IsRanking (drives : List Drive) (r : Ranking) : Type 0 where
  pub order : IsOrder drives r.order.items
  pub sized : length r.ranks.items ≡ length drives
  pub ranks : (s : ℕ) → slice_index r.ranks.items s ≡ depth drives s
  pub deepens : (s : ℕ) → depth drives s ≡ depth_by (depth drives) (drive_in drives s)
  pub rises : IsRanked drives (depth drives)
  pub bounded : (s : ℕ) → depth drives s ≤ gate_count drives
