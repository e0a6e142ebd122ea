use Rattle.tm_flow.specs.Searches.{AreFirstReads}
use Rattle.tm_flow.proofs.search.take_reads.Given as goal

abbrev pub invariant-loop-index : goal.invariant-loop-index
invariant-loop-index g l = AreFirstReads (g.N.LazyNet.shape l.net) l.node l.index l.reads.items
