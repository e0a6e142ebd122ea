-- what stands in the places of the first signals
use Rattle.std.proofs.Common.{map}
use Rattle.std.specs.Prelude.{slice_index}
use Rattle.tm_parts.specs.Parts.{HasFrame}
use Rattle.tm_split.proofs.Growing.{HasFirstPlaces}
use Rattle.tm_split.proofs.parts.split_parts.Given as goal

abbrev pub invariant-loop-s : goal.invariant-loop-s
invariant-loop-s l = record { frame : HasFrame l.circuit (map (slice_index l.plan.numbers.items) l.circuit.outputs) l.parts; signals : HasFirstPlaces l.plan.most l.circuit l.parts l.s }
