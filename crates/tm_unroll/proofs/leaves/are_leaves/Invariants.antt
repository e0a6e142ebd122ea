-- the nodes so far are leaves
use Rattle.std.proofs.Common.{take}
use Rattle.std.specs.Prelude.{Contains}
use Rattle.tm_unroll.specs.declared.node.Node.{Node}
use Rattle.tm_unroll.specs.Mappings.{IsLeaf}
use Rattle.tm_unroll.proofs.leaves.are_leaves.Given as goal

abbrev pub invariant-loop-node : goal.invariant-loop-node
invariant-loop-node l = (x : Node) → Contains (take l.node-index l.nodes) x → IsLeaf 0 l.circuit.drives l.lag x
