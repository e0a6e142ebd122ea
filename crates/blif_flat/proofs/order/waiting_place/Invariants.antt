-- the models looked at so far are done
use Rattle.blif_flat.specs.Descent.{AreDone}
use Rattle.blif_flat.proofs.order.waiting_place.Given as goal

abbrev pub invariant-loop-place : goal.invariant-loop-place
invariant-loop-place l = AreDone l.marks l.placed l.fn.from l.place
