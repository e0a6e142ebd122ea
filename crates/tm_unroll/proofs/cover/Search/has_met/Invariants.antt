-- the nodes so far were met
use Rattle.std.proofs.Common.{take}
use Rattle.std.specs.Prelude.{Contains}
use Rattle.tm_unroll.specs.declared.node.Node.{Node}
use Rattle.tm_unroll.specs.Searches.{met_by}
use Rattle.tm_unroll.proofs.cover.Search.has_met.Given as goal

abbrev pub invariant-loop-node : goal.invariant-loop-node
invariant-loop-node l = (x : Node) → Contains (take l.node-index l.nodes) x → Contains (met_by l.self) x
