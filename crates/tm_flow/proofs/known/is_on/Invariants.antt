use Rattle.std.proofs.Common.{◌≡◌, [], map, take}
use Rattle.tm_flow.specs.Flows.{all_edges_to}
use Rattle.tm_flow.proofs.known.is_on.Given as goal

abbrev pub invariant-loop-walk : goal.invariant-loop-walk
invariant-loop-walk g l = all_edges_to g.N.Node.PartialEq.eq l.node (map (λ w. w.items) (take l.walk-index l.walks)) ≡ []
