-- the search is under way
use Rattle.std.proofs.Common.{◌*◌, ◌-◌, suc, length}
use Rattle.tm_cone.proofs.SearchLemmas.{IsGoing}
use Rattle.tm_cone.proofs.nodes.cone_nodes.Given as goal

abbrev pub invariant-loop-node : goal.invariant-loop-node
invariant-loop-node l = IsGoing l.circuit l.leaves l.fn.root l.gone l.met.keys

abbrev pub decreases-loop-node : goal.decreases-loop-node
decreases-loop-node l = length l.circuit.drives * suc l.fn.root.advance - l.gone
