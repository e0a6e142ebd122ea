-- The bits of all signals at the first steps of a circuit whose inputs are 0.
use Rattle.std.specs.Prelude.{◌≡◌, ℕ, ◌<◌, ◌==◌, Bool, List, length, slice_index}
use Rattle.std.specs.Int.{bit_at}
use Rattle.tm_circuit.specs.Plain.{Plain}
use Rattle.tm_circuit.specs.Trace.{IsTrace, ObeysAlways}
use Rattle.tm_init.specs.Paths.{IsFreeOfInputs, zeros}

-- The first steps as they are kept: how many they are, and a number for each signal, whose bit at place `step` is the bit
-- of the signal at that step.
pub record Bits : Type 0 where
  pub steps : ℕ
  pub bytes : List ℕ

-- The bit that is kept for a signal at a step.
abbrev pub bit_in : List ℕ → ℕ → ℕ → Bool
bit_in bytes s step = bit_at (slice_index bytes s) step == 1

-- At the steps below `steps` the bits of all signals are those that they have where the inputs are 0: those of the table
-- that obeys the drives for ever, of which a sound circuit has exactly one.
pub record HasFirst (c : Plain) (steps : ℕ) (bytes : List ℕ) : Type 0 where
  pub each : (t : ℕ → ℕ → Bool) → ObeysAlways c zeros t → (s step : ℕ) → s < length c.drives → step < steps
      → bit_in bytes s step ≡ t s step

-- The first `d` steps of a circuit are kept.
pub record AreFirstSteps (c : Plain) (d : ℕ) (starts : Bits) : Type 0 where
  pub steps : starts.steps ≡ d
  pub signals : length starts.bytes ≡ length c.drives
  pub first : HasFirst c d starts.bytes

-- Where the bit of a signal at one of the first `d` steps does not depend on the inputs, since every path back to one has
-- more latches than the step, the bit kept is that of every trace with a row at that step.
pub record ServesAllInputs (c : Plain) (d : ℕ) (starts : Bits) : Type 0 where
  pub each : (rows : List (List Bool)) (t : ℕ → ℕ → Bool) → IsTrace c rows t → (s step : ℕ) → s < length c.drives
      → step < d → step < length rows → IsFreeOfInputs c.drives s step → bit_in starts.bytes s step ≡ t s step
