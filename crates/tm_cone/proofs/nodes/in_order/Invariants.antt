-- the nodes so far have steps
use Rattle.std.proofs.Common.{take}
use Rattle.tm_cone.proofs.OrderLemmas.{AreSteps}
use Rattle.tm_cone.proofs.nodes.in_order.Given as goal

abbrev pub invariant-loop-node : goal.invariant-loop-node
invariant-loop-node l = AreSteps l.circuit (take l.node-index l.nodes) l.steps.items
