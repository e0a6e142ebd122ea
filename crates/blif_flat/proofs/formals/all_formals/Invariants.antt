-- the formals so far
use Rattle.std.proofs.Common.{map, take}
use Rattle.blif_unit.specs.Unit.{model_of}
use Rattle.blif_flat.specs.Sites.{AreAllFormals}
use Rattle.blif_flat.proofs.formals.all_formals.Given as goal

abbrev pub invariant-loop-unit : goal.invariant-loop-unit
invariant-loop-unit l = AreAllFormals (map model_of (take l.unit-index l.units)) l.all.items
