use Rattle.std.proofs.Common.{◌+◌, ◌-◌, ◌*◌, ◌++◌, length, map, option_to_list}
use Rattle.tm_flow.specs.Flows.{InFlow, all_edges_to}
use Rattle.tm_flow.specs.Searches.{count_of, IsUsed}
use Rattle.tm_flow.specs.declared.flow.Edge.{Edge}
use Rattle.tm_flow.proofs.Finite.{most_marks}
use Rattle.tm_flow.proofs.SearchLemmas.{IsSearching}
use Rattle.tm_flow.proofs.search.find_walk.Given as goal

abbrev pub invariant-loop-next : goal.invariant-loop-next
invariant-loop-next g l = record {
  searching : IsSearching (g.N.LazyNet.shape l.net) (λ v. all_edges_to g.N.Node.PartialEq.eq v (map (λ w. w.items) l.walks)) l.fn.root
      l.memory.search.met.nodes.keys l.memory.search.met.marks.items (l.memory.search.pending.items ++ option_to_list l.hand) l.memory.way.items;
  used : (e : Edge g.row.N-Node.Denot) → InFlow (map (λ w. w.items) l.walks) e → IsUsed l.memory.search.met.nodes.keys l.memory.search.met.marks.items e.to;
}

-- each turn takes up one side that waits or is in hand, and each side that is met sets one of finitely many marks
abbrev pub decreases-loop-next : goal.decreases-loop-next
decreases-loop-next g l =
    2 * (most_marks (g.N.LazyNet.shape l.net) l.fn.root - count_of l.memory.search.met.marks.items)
    + length (l.memory.search.pending.items ++ option_to_list l.hand)
