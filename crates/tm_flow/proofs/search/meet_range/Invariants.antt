use Rattle.tm_flow.proofs.SearchLemmas.{IsReading}
use Rattle.tm_flow.proofs.search.meet_range.Given as goal

abbrev pub invariant-loop-index : goal.invariant-loop-index
invariant-loop-index g l =
    IsReading l.reads l.depth l.fn.search.met.nodes.keys l.fn.search.met.marks.items l.fn.search.pending.items
    l.search.met.nodes.keys l.search.met.marks.items l.search.pending.items l.from l.index
