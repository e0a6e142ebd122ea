-- the place of the pin, and a 0 for each latch so far
use Rattle.std.proofs.Common.{◌≡◌, ◌∷◌}
use Rattle.std.specs.Prelude.{replicate}
use Rattle.tm_inherit.proofs.inherited.walk_over.Given as goal

abbrev pub invariant-loop-latch : goal.invariant-loop-latch
invariant-loop-latch l = l.list.items ≡ l.read.index ∷ replicate l._latch 0
