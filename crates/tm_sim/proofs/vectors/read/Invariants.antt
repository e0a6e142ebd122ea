use Rattle.std.proofs.Common.{length}
use Rattle.tm_sim.proofs.ReadLemmas.{IsReading}
use Rattle.tm_sim.proofs.vectors.read.Given as goal

-- the lines up to here are read
abbrev pub invariant-loop-rest : goal.invariant-loop-rest
invariant-loop-rest l = IsReading l.width l.text l.bits.items l.steps l.rest

abbrev pub decreases-loop-rest : goal.decreases-loop-rest
decreases-loop-rest l = length l.rest
