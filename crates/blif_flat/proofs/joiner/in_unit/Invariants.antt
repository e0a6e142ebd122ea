-- the longest run so far
use Rattle.std.proofs.Common.{◌≡◌, ◌<◌, ◌^◌, ◌∷◌, take, map}
use Rattle.blif_unit.specs.Fit.{names_told}
use Rattle.blif_unit.specs.Unit.{over, telling_of}
use Rattle.blif_flat.specs.Run.{run_in}
use Rattle.blif_flat.proofs.joiner.in_unit.Given as goal

abbrev pub invariant-loop-stated : goal.invariant-loop-stated
invariant-loop-stated l = (l.longest ≡ run_in (l.unit.name ∷ over names_told (map telling_of (take l.stated-index l.unit.body.items)))) × (l.longest < 2 ^ 63)
