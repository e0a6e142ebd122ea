-- Circuits that are the same but for the spelling of covers.
use Rattle.std.specs.Prelude.{◌≡◌, ℕ, Bool, List, length}
use Rattle.std.specs.List.{AllZip}
use Rattle.tm_bits.specs.Rows.{Rows, holds}
use Rattle.tm_circuit.specs.Plain.{Plain, Drive, input, latch, gate}

-- Two covers of so many pins have the same value on every row of bits.
abbrev pub HaveSameValues : ℕ → Rows → Rows → Type 0
HaveSameValues pins cover other = (bits : List Bool) → length bits ≡ pins → holds cover bits ≡ holds other bits

-- Two drives agree: both are inputs, latches with the same next and the same initial value, or gates with the same pins in order
-- and covers of the same value on every row.
abbrev pub DrivesAgree : Drive → Drive → Type 0
DrivesAgree input input = Unit {0}
DrivesAgree (latch next init) (latch next' init') = (next ≡ next') × (init ≡ init')
DrivesAgree (gate pins cover) (gate pins' cover') = (pins ≡ pins') × HaveSameValues (length pins) cover cover'
DrivesAgree _ _ = ⊥

-- Two circuits have the same model, clock and outputs.
pub record HaveSameFrame (a b : Plain) : Type 0 where
  pub model : a.model ≡ b.model
  pub clock : a.clock ≡ b.clock
  pub outputs : a.outputs ≡ b.outputs

-- Two circuits agree: they have the same model, clock, names and outputs, and their drives agree one by one.
pub record Agree (a b : Plain) : Type 0 where
  pub frame : HaveSameFrame a b
  pub names : a.names ≡ b.names
  pub drives : AllZip DrivesAgree a.drives b.drives
