-- the first signals so far
use Rattle.tm_parts.specs.Parts.{HasFrame}
use Rattle.tm_prime.proofs.Growing.{HasFirstPrimed}
use Rattle.tm_prime.proofs.covers.primed_parts.Given as goal

abbrev pub invariant-loop-s : goal.invariant-loop-s
invariant-loop-s l = record { frame : HasFrame l.circuit l.circuit.outputs l.parts; signals : HasFirstPrimed l.circuit l.parts l.s }
