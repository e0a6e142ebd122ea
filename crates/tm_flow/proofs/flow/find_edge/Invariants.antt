use Rattle.std.proofs.Common.{map, take}
use Rattle.tm_flow.specs.Flows.{InFlow}
use Rattle.tm_flow.proofs.flow.find_edge.Given as goal

abbrev pub invariant-loop-which : goal.invariant-loop-which
invariant-loop-which g l = InFlow (map (λ w. w.items) (take l.which l.walks)) l.edge → ⊥
