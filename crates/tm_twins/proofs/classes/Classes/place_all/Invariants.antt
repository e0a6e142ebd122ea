-- the classes so far, and the path that is left
use Rattle.tm_twins.proofs.ClassLemmas.{IsPlacingAll}
use Rattle.tm_twins.proofs.classes.Classes.place_all.Given as goal

abbrev pub invariant-loop-latch : goal.invariant-loop-latch
invariant-loop-latch l = IsPlacingAll l.circuit.drives l.fn.self l.self l.fn.path.items l.left.items

abbrev pub decreases-loop-latch : goal.decreases-loop-latch
decreases-loop-latch l = goal.left-loop-latch l
