-- the longest run so far
use Rattle.std.proofs.Common.{◌≡◌, ◌<◌, ◌^◌, take, map}
use Rattle.blif_unit.specs.Unit.{model_of}
use Rattle.blif_flat.specs.Flat.{names_in}
use Rattle.blif_flat.specs.Run.{run_in}
use Rattle.blif_flat.proofs.joiner.in_units.Given as goal

abbrev pub invariant-loop-unit : goal.invariant-loop-unit
invariant-loop-unit l = (l.longest ≡ run_in (names_in (map model_of (take l.unit-index l.units)))) × (l.longest < 2 ^ 63)
