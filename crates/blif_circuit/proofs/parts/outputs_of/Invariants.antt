-- the outputs so far
use Rattle.std.proofs.Common.{◌≡◌, map, take, Some, slice_get}
use Rattle.blif_unit.specs.Unit.{telling_of, outputs_told, over}
use Rattle.blif_circuit.proofs.parts.outputs_of.Given as goal

abbrev pub invariant-loop-stated : goal.invariant-loop-stated
invariant-loop-stated l = map (slice_get l.signals) l.outputs.items ≡ map Some (over outputs_told (map telling_of (take l.stated-index l.body)))
