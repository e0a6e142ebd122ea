-- What is known of models before their sites are looked at.
use Rattle.std.specs.Prelude.{◌≡◌, map}
use Rattle.blif_unit.specs.Unit.{model_of}
use Rattle.blif_flat.specs.declared.sites.Models.{Models}
use Rattle.blif_flat.specs.Sites.{AreAllFormals}

-- The names and the formals of the models.
pub record IsKnown (known : Models) : Type 0 where
  pub names : known.names ≡ map (λ u. u.name) known.units.now
  pub formals : AreAllFormals (map model_of known.units.now) known.formals.items
