-- the pins so far
use Rattle.std.proofs.Common.{◌≡◌, map, take, Some, slice_get}
use Rattle.blif_circuit.proofs.parts.pins_named.Given as goal

abbrev pub invariant-loop-name : goal.invariant-loop-name
invariant-loop-name l = map (slice_get l.signals) l.pins.items ≡ map Some (take l.name-index l.names)
