-- Lists of marks by the signals, as which gates count and which wait.
use Rattle.std.specs.Prelude.{◌≡◌, ◌⊎◌, ℕ, Bool, true, false, List, length, Contains, slice_index_or}
use Rattle.tm_circuit.specs.Plain.{Drive}
use Rattle.tm_circuit.specs.Chain.{IsGate}

-- Whether a signal is marked; none past the end is.
abbrev pub is_marked : List Bool → ℕ → Bool
is_marked marks s = slice_index_or marks s false

-- No signal is marked.
abbrev pub IsUnmarked : List Bool → Type 0
IsUnmarked marks = (s : ℕ) → is_marked marks s ≡ false

-- Of the signals that are marked already just the gates are marked.
pub record MarksGates (drives : List Drive) (marks gates : List Bool) : Type 0 where
  pub sized : length gates ≡ length marks
  pub all : (s : ℕ) → is_marked marks s ≡ true → IsGate drives s → is_marked gates s ≡ true
  pub only : (s : ℕ) → is_marked gates s ≡ true → is_marked marks s ≡ true × IsGate drives s

-- Some more signals are marked.
pub record JoinsMarks (more : List ℕ) (old new : List Bool) : Type 0 where
  pub sized : length new ≡ length old
  pub stays : (s : ℕ) → is_marked old s ≡ true → is_marked new s ≡ true
  pub joins : (s : ℕ) → Contains more s → is_marked new s ≡ true
  pub only : (s : ℕ) → is_marked new s ≡ true → is_marked old s ≡ true ⊎ Contains more s
