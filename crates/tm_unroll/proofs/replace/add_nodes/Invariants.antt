-- the nodes so far are added, and where there was room for all the capacity is the same
use Rattle.std.proofs.Common.{take}
use Rattle.tm_unroll.specs.Replaced.{IsTaken}
use Rattle.tm_unroll.proofs.AddLemmas.{HasAdded}
use Rattle.tm_unroll.proofs.replace.add_nodes.Given as goal

abbrev pub invariant-loop-node : goal.invariant-loop-node
invariant-loop-node l = HasAdded (IsTaken l.but (take l.node-index l.nodes)) l.k l.fn.ascending.capacity l.ascending.capacity l.fn.ascending.items l.ascending.items
