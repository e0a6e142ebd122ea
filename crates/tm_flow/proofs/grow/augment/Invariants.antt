use Rattle.std.proofs.Common.{map, reverse, length, ◌≡◌, ◌⊎◌, ◌∷◌}
use Rattle.tm_flow.specs.Lists.{Has}
use Rattle.tm_flow.specs.Flows.{InFlow}
use Rattle.tm_flow.specs.declared.flow.Edge.{Edge}
use Rattle.tm_flow.specs.Searches.{CanGrow}
use Rattle.tm_flow.proofs.Augment.{Unwinds}
use Rattle.tm_flow.proofs.grow.augment.Given as goal

abbrev pub invariant-loop-at : goal.invariant-loop-at
invariant-loop-at g l = record {
  unwinds : (root : g.row.N-Node.Denot) → CanGrow (g.N.LazyNet.shape l.net) g.N.Node.PartialEq.eq root (map (λ w. w.items) l.fn.walks.items) l.way
      → Unwinds (g.N.LazyNet.shape l.net) g.N.Node.PartialEq.eq g.met.N.LazyNet.same_if_equal root l.way l.at (map (λ w. w.items) l.walks.items) (reverse l.rest.items);
  comes : (e : Edge g.row.N-Node.Denot) → InFlow (reverse l.rest.items ∷ map (λ w. w.items) l.walks.items) e
      → InFlow (map (λ w. w.items) l.fn.walks.items) e ⊎ Has (map (λ t. t.side.node) l.way) e.to;
  len : length l.walks.items ≡ length l.fn.walks.items;
}

abbrev pub decreases-loop-at : goal.decreases-loop-at
decreases-loop-at g l = l.at
