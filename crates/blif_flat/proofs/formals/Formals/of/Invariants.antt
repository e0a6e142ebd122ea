-- the formals so far
use Rattle.std.proofs.Common.{map, take}
use Rattle.blif_unit.specs.Unit.{telling_of}
use Rattle.blif_flat.specs.Sites.{AreFormalsOf}
use Rattle.blif_flat.proofs.formals.Formals.of.Given as goal

abbrev pub invariant-loop-stated : goal.invariant-loop-stated
invariant-loop-stated l = AreFormalsOf (map telling_of (take l.stated-index l.unit.body.items)) l.formals
