-- the names seen so far are all that came, and no two are the same
use Rattle.tm_circuit.proofs.DistinctLemmas.{HaveSeen}
use Rattle.tm_circuit.proofs.distinct.are_distinct_names.Given as goal

abbrev pub invariant-loop-name : goal.invariant-loop-name
invariant-loop-name l = HaveSeen l.seen.keys l.names l.name-index
