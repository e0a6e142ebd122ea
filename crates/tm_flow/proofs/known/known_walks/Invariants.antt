use Rattle.std.proofs.Common.{map}
use Rattle.tm_flow.specs.Starts.{IsBegun}
use Rattle.tm_flow.proofs.known.known_walks.Given as goal

abbrev pub invariant-loop-list : goal.invariant-loop-list
invariant-loop-list g l =
    IsBegun (g.N.LazyNet.shape l.net) g.N.Node.PartialEq.eq l.root l.k l.met.nodes.keys l.met.marks.items (map (λ w. w.items) l.walks.items)
