use Rattle.std.proofs.Common.{◌≡◌, ◌++◌, drop}
use Rattle.tm_flow.specs.Nets.{IsIndexWalk}
use Rattle.tm_flow.specs.Flows.{edges_along}
use Rattle.tm_flow.proofs.known.edges_of.Given as goal

abbrev pub invariant-loop-index : goal.invariant-loop-index
invariant-loop-index g l = record {
  rest : IsIndexWalk (g.N.LazyNet.shape l.net) l.node (drop l.index-index l.indices);
  made : l.edges.items ++ edges_along (g.N.LazyNet.shape l.net) l.node (drop l.index-index l.indices) ≡ edges_along (g.N.LazyNet.shape l.net) l.fn.root l.indices;
}
