-- the sites so far, without a fault
use Rattle.std.proofs.Common.{◌≡◌, [], map, take, filter_map}
use Rattle.blif_unit.specs.Unit.{model_of, telling_of}
use Rattle.blif_flat.specs.Places.{fault_in_telling}
use Rattle.blif_flat.specs.Sites.{sites_in}
use Rattle.blif_flat.proofs.sites.Models.sites.Given as goal

abbrev pub invariant-loop-stated : goal.invariant-loop-stated
invariant-loop-stated l =
    (l.sites.items ≡ sites_in (map model_of l.self.units.now) (map telling_of (take l.stated-index l.unit.body.items)))
    × (filter_map (fault_in_telling (map model_of l.self.units.now)) (map telling_of (take l.stated-index l.unit.body.items)) ≡ [])
