use Rattle.std.proofs.Common.{map, subst, List}
use Rattle.std.proofs.lemmas.List.{take_all}
use Rattle.blif_unit.specs.declared.unit.Unit.{Unit as ModelUnit}
use Rattle.blif_unit.specs.Unit.{AreDistinct}
use Rattle.blif_flat.proofs.ApartLemmas.{still_distinct}
use Rattle.blif_flat.proofs.tests.are_distinct.Goals as goal

pub loop-unit-preserved : goal.loop-unit-preserved
loop-unit-preserved c =
    still_distinct c.args.units.now c.loop-unit.unit-index c.unit-item.result c.loop-unit.names c.insert.new.self c.bytes.result.now c.in_ok-insert.field-0
    c.loop-unit-test.true c.unit-item.is c.bytes.ensures c.loop-unit.invariant c.if-not-branch.false c.in_ok-insert.ensures.added c.in_ok-insert.ensures.names

pub returns : goal.returns
returns c = λ _. subst (λ (us : List ModelUnit). AreDistinct (map (λ (u : ModelUnit). u.name) us)) (take_all c.loop-unit.unit-index c.args.units.now c.loop-unit-test.false) c.loop-unit.invariant.1
