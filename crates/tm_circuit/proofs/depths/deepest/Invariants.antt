-- the greatest rank so far
use Rattle.std.proofs.Common.{◌≡◌, map, take}
use Rattle.std.specs.Prelude.{slice_index}
use Rattle.tm_circuit.specs.Plain.{greatest}
use Rattle.tm_circuit.proofs.depths.deepest.Given as goal

abbrev pub invariant-loop-pin : goal.invariant-loop-pin
invariant-loop-pin l = l.deepest ≡ greatest (map (slice_index l.ranks) (take l.pin-index l.pins))
