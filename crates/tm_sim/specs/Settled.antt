-- The bits of all signals at one step, and how a machine comes by them.
use Rattle.std.specs.Prelude.{◌≡◌, ℕ, ◌≤◌, Bool, false, List, map, length, slice_index_or}
use Rattle.tm_bits.specs.Rows.{holds}
use Rattle.tm_circuit.specs.Plain.{Plain, Drive, input, latch, gate, drive, latch_count, widest}
use Rattle.tm_circuit.specs.Sound.{IsSound}
use Rattle.tm_sim.specs.Machine.{latch_signals}

-- The bit of a signal, where these are the bits of all signals.
abbrev pub bit_of : List Bool → ℕ → Bool
bit_of bits s = slice_index_or bits s false

-- The bit that a drive asks for at a step where its pins have these bits: a gate has the value of its cover, and all else
-- has the bit that it had before.
abbrev pub settled : Drive → Bool → (ℕ → Bool) → Bool
settled input before bits = before
settled (latch next init) before bits = before
settled (gate pins cover) before bits = holds cover (map bits pins)

-- Each gate has the value of its cover on the bits of its pins, and all else has its bit of before.
pub record Settles (c : Plain) (before after : List Bool) : Type 0 where
  pub each : (s : ℕ) → bit_of after s ≡ settled (drive c s) (bit_of before s) (bit_of after)

-- The bit that a latch starts with; no other signal holds one.
abbrev pub first_bit : Drive → Bool
first_bit input = false
first_bit (latch next init) = init
first_bit (gate pins cover) = false

-- The bit that a latch has after a step in which the signals have these bits.
abbrev pub next_bit : Drive → (ℕ → Bool) → Bool
next_bit input bits = false
next_bit (latch next init) bits = bits next
next_bit (gate pins cover) bits = false

-- The bits that the latches start with.
abbrev pub first_bits : Plain → List Bool
first_bits c = map (λ s. first_bit (drive c s)) (latch_signals c)

-- The bits that the latches have after such a step.
abbrev pub next_bits : Plain → (ℕ → Bool) → List Bool
next_bits c bits = map (λ s. next_bit (drive c s) bits) (latch_signals c)

-- A machine has a bit for each latch and for each signal, and room for the bits of the pins of any gate.
pub record HasRoom (c : Plain) (latches values read : List Bool) : Type 0 where
  pub sound : IsSound c
  pub each_latch : length latches ≡ latch_count c.drives
  pub each_signal : length values ≡ length c.drives
  pub widest_gate : widest c.drives ≤ length read
