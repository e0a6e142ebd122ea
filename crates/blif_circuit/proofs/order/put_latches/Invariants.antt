-- what was put so far
use Rattle.std.proofs.Common.{◌≡◌, map, take}
use Rattle.blif_unit.specs.Unit.{telling_of, latch_told, over}
use Rattle.blif_circuit.specs.Signals.{put_all}
use Rattle.blif_circuit.proofs.order.put_latches.Given as goal

abbrev pub invariant-loop-stated : goal.invariant-loop-stated
invariant-loop-stated l = l.names ≡ put_all l.initial.names (over latch_told (map telling_of (take l.stated-index l.body)))
