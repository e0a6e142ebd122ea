-- the names so far, all apart
use Rattle.std.proofs.Common.{◌≡◌, map, take}
use Rattle.blif_unit.specs.Unit.{AreDistinct}
use Rattle.blif_flat.proofs.tests.are_distinct.Given as goal

abbrev pub invariant-loop-unit : goal.invariant-loop-unit
invariant-loop-unit l = (l.names ≡ map (λ u. u.name) (take l.unit-index l.units)) × AreDistinct (map (λ u. u.name) (take l.unit-index l.units))
