-- the first signals so far
use Rattle.tm_twins.proofs.ClassLemmas.{HaveBegun}
use Rattle.tm_twins.proofs.classes.Classes.new.Given as goal

abbrev pub invariant-loop-s : goal.invariant-loop-s
invariant-loop-s l = HaveBegun l.circuit.drives l.known.items l.heads.items l.firsts.items l.s
