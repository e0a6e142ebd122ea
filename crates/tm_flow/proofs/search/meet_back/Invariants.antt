use Rattle.tm_flow.proofs.SearchLemmas.{IsGoingBack}
use Rattle.tm_flow.proofs.search.meet_back.Given as goal

abbrev pub invariant-loop-edge : goal.invariant-loop-edge
invariant-loop-edge g l =
    IsGoingBack l.edges l.depth l.fn.search.met.nodes.keys l.fn.search.met.marks.items l.fn.search.pending.items
    l.search.met.nodes.keys l.search.met.marks.items l.search.pending.items l.edge-index
