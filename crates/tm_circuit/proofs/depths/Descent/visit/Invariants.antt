-- the descent goes on from its trail, and nothing that was met is fresh again
use Rattle.std.proofs.Common.{map}
use Rattle.tm_circuit.specs.Plain.{drive_of}
use Rattle.tm_circuit.specs.Descent.{work}
use Rattle.tm_circuit.proofs.DescentLemmas.{IsVisiting}
use Rattle.tm_circuit.proofs.depths.Descent.visit.Given as goal

abbrev pub invariant-loop-gate : goal.invariant-loop-gate
invariant-loop-gate l = IsVisiting (map drive_of l.drivers) l.fn.self l.self l.fn.root

abbrev pub decreases-loop-gate : goal.decreases-loop-gate
decreases-loop-gate l = work l.self
