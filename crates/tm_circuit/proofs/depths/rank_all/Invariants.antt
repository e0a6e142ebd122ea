-- the descent is at rest, and no signal below is fresh
use Rattle.std.proofs.Common.{map}
use Rattle.tm_circuit.specs.Plain.{drive_of}
use Rattle.tm_circuit.proofs.DescentLemmas.{HasVisited}
use Rattle.tm_circuit.proofs.depths.rank_all.Given as goal

abbrev pub invariant-loop-s : goal.invariant-loop-s
invariant-loop-s l = HasVisited (map drive_of l.drivers) l.descent l.s
