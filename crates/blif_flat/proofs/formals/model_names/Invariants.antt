-- the names so far
use Rattle.std.proofs.Common.{◌≡◌, take, map}
use Rattle.blif_flat.proofs.formals.model_names.Given as goal

abbrev pub invariant-loop-unit : goal.invariant-loop-unit
invariant-loop-unit l = l.names ≡ map (λ u. u.name) (take l.unit-index l.units)
