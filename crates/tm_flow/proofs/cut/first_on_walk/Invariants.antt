use Rattle.std.proofs.Common.{◌≡◌, drop}
use Rattle.tm_flow.specs.Searches.{is_far_met, first_unmet}
use Rattle.tm_flow.proofs.cut.first_on_walk.Given as goal

abbrev pub invariant-loop-edge : goal.invariant-loop-edge
invariant-loop-edge g l =
    first_unmet (is_far_met g.N.Node.PartialEq.eq l.met.nodes.keys l.met.marks.items) (drop l.edge-index l.walk)
    ≡ first_unmet (is_far_met g.N.Node.PartialEq.eq l.met.nodes.keys l.met.marks.items) l.walk
