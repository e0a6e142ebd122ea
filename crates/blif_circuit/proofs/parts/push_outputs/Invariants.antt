-- the outputs so far
use Rattle.std.proofs.Common.{◌≡◌, ◌++◌, map, take, Some, slice_get}
use Rattle.blif_circuit.proofs.parts.push_outputs.Given as goal

abbrev pub invariant-loop-name : goal.invariant-loop-name
invariant-loop-name l = map (slice_get l.signals) l.outputs.items ≡ map (slice_get l.signals) l.initial.outputs.items ++ map Some (take l.name-index l.names)
