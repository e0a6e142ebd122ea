-- What the fields of a `Circuit` keep.
use Rattle.std.specs.Prelude.{◌≡◌, ℕ, List, map, length, slice_index}
use Rattle.tm_circuit.specs.Plain.{Plain, drive_of, input_count, latch_count, widest}
use Rattle.tm_circuit.specs.Chain.{rank, IsOrder, IsPeriod}
use Rattle.tm_circuit.specs.Follow.{AreSources}
use Rattle.tm_circuit.specs.Sound.{IsSound}
use Rattle.tm_circuit.specs.declared.circuit.Circuit.TheInside.{Inside}

-- The circuit that the fields spell.
abbrev pub plain_of : Inside → Plain
plain_of a = record { model = a.model; clock = a.clock; names = a.names.items; drives = map drive_of a.drivers.items; outputs = a.outputs.items }

-- The ranks of all signals.
pub record AreRanks (c : Plain) (ranks : List ℕ) : Type 0 where
  pub all : length ranks ≡ length c.drives
  pub each : (s : ℕ) → slice_index ranks s ≡ rank c s

-- The circuit is sound, and what was worked out is right.
pub record IsKept (a : Inside) : Type 0 where
  pub sound : IsSound (plain_of a)
  pub inputs : a.inputs ≡ input_count (plain_of a).drives
  pub latches : a.latches ≡ latch_count (plain_of a).drives
  pub widest : a.widest ≡ widest (plain_of a).drives
  pub order : IsOrder (plain_of a).drives a.order.items
  pub ranks : AreRanks (plain_of a) a.ranks.items
  pub sources : AreSources (plain_of a).drives a.sources.items
  pub period : IsPeriod (plain_of a) a.period
