-- the sites so far, without a fault
use Rattle.std.proofs.Common.{◌≡◌, [], map, take, filter_map, flat_map}
use Rattle.blif_unit.specs.Unit.{model_of}
use Rattle.blif_flat.specs.Places.{fault_in_telling}
use Rattle.blif_flat.specs.Sites.{sites_in}
use Rattle.blif_flat.proofs.sites.all_sites.Given as goal

abbrev pub invariant-loop-unit : goal.invariant-loop-unit
invariant-loop-unit l =
    (map (λ sites. sites.items) l.all.items ≡ map (λ m. sites_in (map model_of l.units) m.body) (map model_of (take l.unit-index l.units)))
    × (filter_map (fault_in_telling (map model_of l.units)) (flat_map (λ m. m.body) (map model_of (take l.unit-index l.units))) ≡ [])
