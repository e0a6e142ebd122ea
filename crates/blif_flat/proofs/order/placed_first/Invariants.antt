-- the descent is at rest, and no model below is fresh
use Rattle.std.proofs.Common.{map}
use Rattle.blif_flat.proofs.DescentLemmas.{HasVisited}
use Rattle.blif_flat.proofs.order.placed_first.Given as goal

abbrev pub invariant-loop-model : goal.invariant-loop-model
invariant-loop-model l = HasVisited (map (λ placed. placed.items) l.graph) l.descent l.model
