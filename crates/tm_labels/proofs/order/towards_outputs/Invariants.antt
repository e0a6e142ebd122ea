-- steps so far
use Rattle.tm_labels.specs.Ways.{AreStepsOn}
use Rattle.tm_labels.proofs.order.towards_outputs.Given as goal

abbrev pub invariant-loop-place : goal.invariant-loop-place
invariant-loop-place l = AreStepsOn l.circuit l.towards.items
