-- the pins looked at so far are done
use Rattle.tm_circuit.specs.Descent.{AreDone}
use Rattle.tm_circuit.proofs.depths.waiting_pin.Given as goal

abbrev pub invariant-loop-place : goal.invariant-loop-place
invariant-loop-place l = AreDone l.marks l.pins l.fn.from l.place
