-- the number so far
use Rattle.std.proofs.Common.{◌≡◌, take}
use Rattle.blif_flat.specs.Extent.{instances_by}
use Rattle.blif_flat.proofs.extent.instances.Given as goal

abbrev pub invariant-loop-model : goal.invariant-loop-model
invariant-loop-model l = l.instances ≡ instances_by l.below (take l.model-index l.placed)
