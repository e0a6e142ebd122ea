-- the first is still to come
use Rattle.std.proofs.Common.{◌≡◌, map, drop, slice_get}
use Rattle.blif_unit.specs.Unit.{telling_of, clocks_told, over}
use Rattle.blif_circuit.proofs.clock.clock_name.Given as goal

abbrev pub invariant-loop-stated : goal.invariant-loop-stated
invariant-loop-stated l = slice_get (over clocks_told (map telling_of (drop l.stated-index l.body))) 0 ≡ slice_get (over clocks_told (map telling_of l.body)) 0
