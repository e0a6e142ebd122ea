use Rattle.tm_split.proofs.Numbers.{IsNumbering}
use Rattle.tm_split.proofs.count.numbers.Given as goal

abbrev pub invariant-loop-s : goal.invariant-loop-s
invariant-loop-s l = IsNumbering l.k l.circuit.drives l.s l.next l.numbers.items
