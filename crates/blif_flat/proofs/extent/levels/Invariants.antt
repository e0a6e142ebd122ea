-- the deepest so far
use Rattle.std.proofs.Common.{◌≡◌, take}
use Rattle.blif_flat.specs.Extent.{levels_by}
use Rattle.blif_flat.proofs.extent.levels.Given as goal

abbrev pub invariant-loop-model : goal.invariant-loop-model
invariant-loop-model l = l.levels ≡ levels_by l.below (take l.model-index l.placed)
