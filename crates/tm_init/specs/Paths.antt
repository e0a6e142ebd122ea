-- Paths back from a signal to an input, the latches on them, and which bits do not depend on the inputs.
use Rattle.std.specs.Prelude.{◌≡◌, ℕ, ◌<◌, Bool, false, List, [], ◌∷◌, length, count_by, Contains, IsTrue}
use Rattle.tm_circuit.specs.Plain.{Plain, Drive, input, latch, gate, drive_in, is_input, is_latch}
use Rattle.tm_circuit.specs.Trace.{IsTrace, ObeysAlways}

-- The signals that a drive asks for, in this step or in the one before: the pins of a gate, and the `next` of a latch.
abbrev pub made_of : Drive → List ℕ
made_of input = []
made_of (latch next init) = next ∷ []
made_of (gate pins cover) = pins

-- A path back from a signal to an input, as the list of its signals after the first.
abbrev pub IsPathBack : List Drive → ℕ → List ℕ → Type 0
IsPathBack drives s [] = IsTrue (is_input (drive_in drives s))
IsPathBack drives s (p ∷ path) = Contains (made_of (drive_in drives s)) p × IsPathBack drives p path

-- The number of latches among some signals.
abbrev pub latches_on : List Drive → List ℕ → ℕ
latches_on drives path = count_by (λ p. is_latch (drive_in drives p)) path

-- Every path back from the signal to an input has more latches than `step`, where the signal itself counts if it is a
-- latch. A signal with no path back to an input is free at every step.
pub record IsFreeOfInputs (drives : List Drive) (s step : ℕ) : Type 0 where
  pub paths : (path : List ℕ) → IsPathBack drives s path → step < latches_on drives (s ∷ path)

-- Inputs that are 0 at every step.
abbrev pub zeros : ℕ → ℕ → Bool
zeros s step = false

-- The signal has one bit at the step in all tables that obey the drives for ever, whatever bits the inputs are given.
pub record HasOneBit (c : Plain) (s step : ℕ) : Type 0 where
  pub runs : (given given' t u : ℕ → ℕ → Bool) → ObeysAlways c given t → ObeysAlways c given' u → t s step ≡ u s step
  -- In each trace that has a row at the step it is the bit that the signal has where the inputs are 0.
  pub traces : (rows : List (List Bool)) (t u : ℕ → ℕ → Bool) → step < length rows → IsTrace c rows t
      → ObeysAlways c zeros u → t s step ≡ u s step
