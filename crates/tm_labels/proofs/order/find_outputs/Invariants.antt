-- steps so far
use Rattle.tm_labels.specs.Ways.{AreStepsOn}
use Rattle.tm_labels.proofs.order.find_outputs.Given as goal

abbrev pub invariant-loop-output : goal.invariant-loop-output
invariant-loop-output l = AreStepsOn l.circuit l.towards
