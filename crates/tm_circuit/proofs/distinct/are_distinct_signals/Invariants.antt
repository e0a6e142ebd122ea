-- the signals seen so far are all that came, and no two are the same
use Rattle.tm_circuit.proofs.DistinctLemmas.{HaveMarked}
use Rattle.tm_circuit.proofs.distinct.are_distinct_signals.Given as goal

abbrev pub invariant-loop-signal : goal.invariant-loop-signal
invariant-loop-signal l = HaveMarked l.n l.seen.items l.signals l.signal-index
