-- the way so far; each step leaves fewer latches before the source
use Rattle.tm_twins.proofs.Steps.{steps}
use Rattle.tm_twins.proofs.ClassLemmas.{IsOnWay}
use Rattle.tm_twins.proofs.classes.Classes.unknown_from.Given as goal

abbrev pub invariant-loop-at : goal.invariant-loop-at
invariant-loop-at l = IsOnWay l.circuit.drives l.path.items l.at l.fn.from

abbrev pub decreases-loop-at : goal.decreases-loop-at
decreases-loop-at l = steps l.circuit.drives l.at
