use Rattle.std.proofs.Common.{◌≡◌, length, map}
use Rattle.tm_flow.specs.Flows.{IsFlow}
use Rattle.tm_flow.specs.Searches.{IsKnown}
use Rattle.tm_flow.proofs.cut.grow_on.Given as goal

abbrev pub invariant-loop-round : goal.invariant-loop-round
invariant-loop-round g l = record {
  flow : IsFlow (g.N.LazyNet.shape l.net) g.N.Node.PartialEq.eq l.root (map (λ w. w.items) l.walks.items);
  known : IsKnown (g.N.LazyNet.shape l.net) l.root (map (λ w. w.items) l.walks.items) l.memory.search.met.nodes.keys l.memory.search.met.marks.items;
  len : length l.walks.items ≡ l._round;
}
