-- the nodes so far have their words
use Rattle.std.proofs.Common.{take}
use Rattle.tm_cone.specs.Values.{AreValues}
use Rattle.tm_cone.proofs.OrderLemmas.{nodes_in}
use Rattle.tm_cone.proofs.values.cone_values.Given as goal

abbrev pub invariant-loop-step : goal.invariant-loop-step
invariant-loop-step l = AreValues l.circuit.drives l.leaves (take l.step-index (nodes_in l.steps)) l.values
