-- The search for the wanted gates: it meets the source gates of the outputs, and goes through the leaves of each gate that it has
-- met.
use Rattle.std.specs.Prelude.{◌≡◌, ◌⊎◌, ◌↔◌, ℕ, ◌+◌, ◌<◌, Bool, true, false, not, List, length, Contains, count_by, slice_index_or, Some}
use Rattle.tm_circuit.specs.Plain.{Plain, Drive}
use Rattle.tm_circuit.specs.Source.{IsSource}
use Rattle.tm_circuit.specs.declared.sources.Source.TheVariants.{Gate}
use Rattle.tm_unroll.specs.declared.node.Node.{Node}
use Rattle.tm_replay.specs.declared.label.Label.{Label}
use Rattle.tm_replay.specs.Labels.{label_in}
use Rattle.tm_merge.specs.Cuts.{cut_in}
use Rattle.tm_labels.specs.Settled.{Settling}
use Rattle.tm_cover.specs.declared.wanted.Search.{Search}
use Rattle.tm_cover.specs.Chosen.{IsWanted}

-- A search has met a gate.
abbrev pub IsMet : Search → ℕ → Type 0
IsMet s g = slice_index_or s.met.items g false ≡ true

-- The gates that a search has met and has still to go through.
abbrev pub left_by : Search → List ℕ
left_by s = s.left.items

-- How many signals a search has not met.
abbrev pub unmet_by : Search → ℕ
unmet_by s = count_by not s.met.items

-- A search at its start: nothing is met, and nothing is left.
pub record IsStart (signals : ℕ) (s : Search) : Type 0 where
  pub sized : length s.met.items ≡ signals
  pub none : (g : ℕ) → ¬ IsMet s g
  pub empty : (g : ℕ) → ¬ Contains (left_by s) g

-- A search meets some gates more, and those that it had not met before are left.
pub record Meets (added : ℕ → Type 0) (old new : Search) : Type 0 where
  pub sized : length new.met.items ≡ length old.met.items
  pub kept : (g : ℕ) → IsMet old g → IsMet new g
  pub met : (g : ℕ) → added g → IsMet new g
  pub only : (g : ℕ) → IsMet new g → IsMet old g ⊎ added g
  pub fresh : (g : ℕ) → IsMet new g → IsMet old g ⊎ Contains (left_by new) g
  pub stays : (g : ℕ) → Contains (left_by old) g → Contains (left_by new) g
  pub left : (g : ℕ) → Contains (left_by new) g → Contains (left_by old) g ⊎ added g
  pub balanced : unmet_by new + length (left_by new) ≡ unmet_by old + length (left_by old)

-- The gate is the source of some of these signals.
abbrev pub IsSourceAmong : List Drive → List ℕ → ℕ → Type 0
IsSourceAmong drives signals g = (s : ℕ) × Contains signals s × IsSource drives s (Gate g)

-- The gate is the source of some of these nodes' signals.
abbrev pub IsSourceUnder : List Drive → List Node → ℕ → Type 0
IsSourceUnder drives nodes g = (x : Node) × Contains nodes x × IsSource drives x.signal (Gate g)

-- Each wanted gate is a signal, and so are the signals of its cut's leaves.
pub record AreSignals (c : Plain) (cuts : List (List Node)) : Type 0 where
  pub gates : (g : ℕ) → IsWanted c cuts g → g < length c.drives
  pub leaves : (g : ℕ) (x : Node) → IsWanted c cuts g → Contains (cut_in cuts g) x → x.signal < length c.drives

-- Marks by the signals, of just the wanted gates.
pub record AreWanted (c : Plain) (cuts : List (List Node)) (marks : List Bool) : Type 0 where
  pub sized : length marks ≡ length c.drives
  pub each : (g : ℕ) → (slice_index_or marks g false ≡ true) ↔ IsWanted c cuts g

-- Each wanted gate has a label.
abbrev pub AreLabelled : Plain → Settling → Type 0
AreLabelled c s = (g : ℕ) → IsWanted c s.cuts g → (x : Label) × (label_in s.labels g ≡ Some x)
