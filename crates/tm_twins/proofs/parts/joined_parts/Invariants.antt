-- the first signals so far
use Rattle.tm_parts.specs.Parts.{HasFrame}
use Rattle.tm_twins.specs.Twins.{twin_in}
use Rattle.tm_twins.proofs.Growing.{HasFirstJoined}
use Rattle.tm_twins.proofs.parts.joined_parts.Given as goal

abbrev pub invariant-loop-s : goal.invariant-loop-s
invariant-loop-s l = record { frame : HasFrame l.circuit l.circuit.outputs l.parts; signals : HasFirstJoined l.circuit (twin_in l.twins) l.parts l.s }
