use Rattle.std.proofs.Common.{◌≡◌, map, take}
use Rattle.tm_flow.specs.Searches.{is_far_met, all_first_unmet}
use Rattle.tm_flow.proofs.cut.cut_of.Given as goal

abbrev pub invariant-loop-walk : goal.invariant-loop-walk
invariant-loop-walk g l =
    l.nodes.items ≡ all_first_unmet (is_far_met g.N.Node.PartialEq.eq l.met.nodes.keys l.met.marks.items) (map (λ w. w.items) (take l.walk-index l.walks))
