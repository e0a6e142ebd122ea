use Rattle.tm_split.specs.Subject.{first_number}
use Rattle.tm_split.specs.Counts.{IsCountOf}
use Rattle.tm_split.proofs.count.count.Given as goal

abbrev pub invariant-loop-s : goal.invariant-loop-s
invariant-loop-s l = IsCountOf l.total (first_number l.k l.circuit.drives l.s)
