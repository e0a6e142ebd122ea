-- What is seen of a unit's statements as they are tested one after another.
use Rattle.std.specs.Prelude.{◌++◌, Option, option_map, option_copied, slice_get}
use Rattle.std.specs.Option.{option_or}
use Rattle.blif_unit.specs.declared.unit.Control.{Control}
use Rattle.blif_unit.specs.Unit.{Told, drivers_told, clocks_told}
use Rattle.blif_read.specs.declared.whole.Seen.{Seen}
use Rattle.blif_read.specs.Whole.{Before, controls_told}

-- the control of the first latch
abbrev pub control_seen : Seen → Option (Option Control)
control_seen seen = option_map (λ control. option_copied control) seen.control

abbrev pub before_of : Seen → Before
before_of seen = record { drivers = seen.drivers; clock = option_copied seen.clock; control = control_seen seen }

-- what the rules ask after one more statement
abbrev pub after : Before → Told → Before
after seen told = record {
  drivers = seen.drivers ++ drivers_told told;
  clock = option_or seen.clock (slice_get (clocks_told told) 0);
  control = option_or seen.control (slice_get (controls_told told) 0);
}
