-- What following latches to their nexts keeps true.
use Rattle.std.specs.Prelude.{◌≡◌, ℕ, ◌⊎◌, Bool, true, false, List, [], ◌∷◌, length, Contains, slice_index_or, IsTrue, Some, slice_get}
use Rattle.tm_circuit.specs.declared.sources.Source.{Source}
use Rattle.tm_circuit.specs.declared.sources.Source.TheVariants.{Input, Gate, Ring}
use Rattle.tm_circuit.specs.declared.sources.Followed.{Followed}
use Rattle.tm_circuit.specs.Plain.{Drive, input, latch, gate, drive_in, is_latch}
use Rattle.tm_circuit.specs.Source.{step_back, IsSource}

-- What is no latch is met from the start.
abbrev pub first_met : Drive → Bool
first_met input = true
first_met (latch next init) = false
first_met (gate pins cover) = true

-- The source that a signal has before any latch was followed: a latch has none.
abbrev pub first_source_of : ℕ → Drive → Source
first_source_of s input = Input s
first_source_of s (latch next init) = Ring
first_source_of s (gate pins cover) = Gate s

-- A signal was met.
abbrev pub met_at : List Bool → ℕ → Bool
met_at met s = slice_index_or met s false

-- The source that is kept for a signal.
abbrev pub source_at : List Source → ℕ → Source
source_at sources s = slice_index_or sources s Ring

-- A list of signals, the newest first, each the one step back of the one after it; the newest leads to a signal.
abbrev pub IsPath : List Drive → ℕ → List ℕ → Type 0
IsPath drives to [] = Unit {0}
IsPath drives to (s ∷ path) = (step_back s (drive_in drives s) ≡ to) × IsPath drives s path

-- The state while latches are followed: those on the path are met but not known, all else that is met has its source.
pub record IsFollowing (drives : List Drive) (met : List Bool) (sources : List Source) (path : List ℕ) (to : ℕ) : Type 0 where
  pub met_sized : length met ≡ length drives
  pub sources_sized : length sources ≡ length drives
  pub leads : IsPath drives to path
  pub on_path : (s : ℕ) → Contains path s → (met_at met s ≡ true) × (source_at sources s ≡ Ring) × IsTrue (is_latch (drive_in drives s))
  pub known : (s : ℕ) → met_at met s ≡ true → Contains path s ⊎ IsSource drives s (source_at sources s)
  pub unmet : (s : ℕ) → met_at met s ≡ false → IsTrue (is_latch (drive_in drives s)) × (source_at sources s ≡ Ring)

-- The state between two paths.
pub record IsSettled (drives : List Drive) (f : Followed) : Type 0 where
  pub met_sized : length f.met.items ≡ length drives
  pub sources_sized : length f.sources.items ≡ length drives
  pub known : (s : ℕ) → met_at f.met.items s ≡ true → IsSource drives s (source_at f.sources.items s)
  pub unmet : (s : ℕ) → met_at f.met.items s ≡ false → IsTrue (is_latch (drive_in drives s)) × (source_at f.sources.items s ≡ Ring)

-- What is met stays met, and a signal is met.
pub record Meets (old new : Followed) (s : ℕ) : Type 0 where
  pub stay : (t : ℕ) → met_at old.met.items t ≡ true → met_at new.met.items t ≡ true
  pub here : met_at new.met.items s ≡ true

-- The sources of some signals were set to one, all others stay.
pub record SetsAll (old new : List Source) (signals : List ℕ) (source : Source) : Type 0 where
  pub sized : length new ≡ length old
  pub all : (s : ℕ) → Contains signals s → source_at new s ≡ source
  pub others : (s : ℕ) → (source_at new s ≡ source_at old s) ⊎ Contains signals s

-- The sources of all signals.
pub record AreSources (drives : List Drive) (sources : List Source) : Type 0 where
  pub all : length sources ≡ length drives
  pub each : (s : ℕ) (e : Source) → slice_get sources s ≡ Some e → IsSource drives s e
