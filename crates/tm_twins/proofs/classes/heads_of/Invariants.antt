-- the signals below are known
use Rattle.tm_twins.proofs.ClassLemmas.{HaveLearned}
use Rattle.tm_twins.proofs.classes.heads_of.Given as goal

abbrev pub invariant-loop-s : goal.invariant-loop-s
invariant-loop-s l = HaveLearned l.circuit.drives l.classes l.s
