-- the descent goes on from its trail, and nothing that was met is fresh again
use Rattle.std.proofs.Common.{map}
use Rattle.blif_flat.specs.Descent.{work}
use Rattle.blif_flat.proofs.DescentLemmas.{IsVisiting}
use Rattle.blif_flat.proofs.order.Descent.visit.Given as goal

abbrev pub invariant-loop-model : goal.invariant-loop-model
invariant-loop-model l = IsVisiting (map (λ placed. placed.items) l.graph) l.fn.self l.self l.fn.root

abbrev pub decreases-loop-model : goal.decreases-loop-model
decreases-loop-model l = work l.self
