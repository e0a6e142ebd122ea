-- the nodes so far
use Rattle.std.proofs.Common.{◌≡◌, map, take}
use Rattle.two_way.specs.Amounts.{two_node}
use Rattle.two_way.proofs.amounts.two_nodes.Given as goal

abbrev pub invariant-loop-node : goal.invariant-loop-node
invariant-loop-node l = l.two.items ≡ map (two_node l.fn.b) (take l.node-index l.nodes)
