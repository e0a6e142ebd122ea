-- the ends of the first signals
use Rattle.tm_net.proofs.EndLemmas.{AreFirstEnds}
use Rattle.tm_net.proofs.needed.ends_without_tables.Given as goal

abbrev pub invariant-loop-s : goal.invariant-loop-s
invariant-loop-s l = AreFirstEnds l.circuit l.s l.ends.items
