use Rattle.std.proofs.Common.{◌≡◌, true, [], map, take}
use Rattle.tm_flow.specs.Lists.{Has}
use Rattle.tm_flow.specs.Flows.{all_edges_to}
use Rattle.tm_flow.specs.declared.flow.Edge.{Edge}
use Rattle.tm_flow.proofs.known.goes_with.Given as goal

abbrev pub invariant-loop-edge : goal.invariant-loop-edge
invariant-loop-edge g l =
    (e : Edge g.row.N-Node.Denot) → Has (take l.edge-index l.walk) e → (g.N.LazyNet.shape l.net).may_cut e.to ≡ true
    → all_edges_to g.N.Node.PartialEq.eq e.to (map (λ w. w.items) l.walks) ≡ []
