-- The circuit that a draft spells, how its signals lie, and the tests on it.
use Rattle.std.specs.Prelude.{◌≡◌, ℕ, ◌<◌, List, map, length, Option, Some, slice_get, All, IfSome}
use Rattle.tm_circuit.specs.declared.draft.Draft.{Draft}
use Rattle.tm_circuit.specs.declared.parts.Clock.{Clock}
use Rattle.tm_circuit.specs.declared.parts.Driver.{Driver}
use Rattle.tm_circuit.specs.Plain.{Drive, Plain, drive_of, input_count, latch_count}
use Rattle.tm_circuit.specs.Sound.{IsPlaced, IsFew, IsInRange, IsWellNamed, IsDistinctlyNamed, HasDistinctOutputs, ReadsBelow, FitsPins, IsClockOf}

-- The circuit that a draft spells.
abbrev pub plain_of_draft : Draft → Plain
plain_of_draft d = record { model = d.model; clock = d.clock; names = d.names.items; drives = map drive_of d.drivers.items; outputs = d.outputs.items }

-- Each signal has a name and a drive, and its kind goes by its number.
pub record IsLaidOut (d : Draft) : Type 0 where
  pub named : length d.names.items ≡ length (plain_of_draft d).drives
  pub inputs : d.inputs ≡ input_count (plain_of_draft d).drives
  pub latches : d.latches ≡ latch_count (plain_of_draft d).drives
  pub placed : (s : ℕ) (e : Drive) → slice_get (plain_of_draft d).drives s ≡ Some e → IsPlaced d.inputs d.latches s e

-- Drivers, outputs and a clock are in range, among so many inputs and latches.
pub record AreInRange (clock : Option Clock) (inputs latches : ℕ) (drivers : List Driver) (outputs : List ℕ) : Type 0 where
  pub reads : All (λ d. ReadsBelow (length drivers) (drive_of d)) drivers
  pub pins : All (λ d. FitsPins (drive_of d)) drivers
  pub below : All (λ s. s < length drivers) outputs
  pub fits : IfSome clock (IsClockOf inputs latches)

-- The circuit has none of the faults that are no circle of gates.
pub record IsLawful (c : Plain) : Type 0 where
  pub few : IsFew c
  pub range : IsInRange c
  pub names : IsWellNamed c
  pub distinct : IsDistinctlyNamed c
  pub outputs : HasDistinctOutputs c
