-- How the bits of a step are worked out, one signal after another.
use Rattle.std.specs.Prelude.{◌≡◌, ◌≢◌, ℕ, ◌+◌, ◌<◌, ◌≤◌, Bool, false, List, length}
use Rattle.tm_circuit.specs.Plain.{Plain, drive, input_count, latch_count, widest}
use Rattle.tm_circuit.specs.Sound.{IsSound}
use Rattle.tm_circuit.specs.Trace.{driven, ObeysAlways}
use Rattle.tm_init.specs.Limits.{most_steps}
use Rattle.tm_init.specs.Paths.{zeros}
use Rattle.tm_init.specs.Starts.{bit_in}

-- A byte for each signal of a sound circuit, room for the pins of any gate, and a step that a byte has a bit for.
pub record HasRoom (c : Plain) (step bytes read : ℕ) : Type 0 where
  pub sound : IsSound c
  pub near : step < most_steps
  pub signals : bytes ≡ length c.drives
  pub pins : widest c.drives ≤ read

-- The signal takes the bit that its drive asks for at a step where the inputs are 0, and all other bits stay.
pub record Takes (c : Plain) (s step : ℕ) (before after : List ℕ) : Type 0 where
  pub here : bit_in after s step ≡ driven (drive c s) false (bit_in before) step
  pub signals : (x n : ℕ) → x ≢ s → bit_in after x n ≡ bit_in before x n
  pub steps : (x n : ℕ) → n < most_steps → n ≢ step → bit_in after x n ≡ bit_in before x n

-- The inputs and the latches have their bits at a step, where the inputs are 0.
pub record IsHeld (c : Plain) (step : ℕ) (bytes : List ℕ) : Type 0 where
  pub each : (t : ℕ → ℕ → Bool) → ObeysAlways c zeros t → (s : ℕ) → s < input_count c.drives + latch_count c.drives
      → bit_in bytes s step ≡ t s step
