use Rattle.std.proofs.Common.{map, subst}
use Rattle.std.proofs.lemmas.List.{take_all}
use Rattle.blif_unit.specs.Unit.{model_of}
use Rattle.blif_flat.specs.Sites.{AreAllFormals}
use Rattle.blif_flat.proofs.FormalLemmas.{all_more}
use Rattle.blif_flat.proofs.formals.all_formals.Goals as goal

pub loop-unit-preserved : goal.loop-unit-preserved
loop-unit-preserved c =
    all_more c.args.units.now c.loop-unit.unit-index c.unit-item.result c.loop-unit.all.items c.push.new.self.items c.in_ok-of.field-0 c.loop-unit-test.true c.unit-item.is c.loop-unit.invariant
    c.in_ok-of.ensures c.in_ok-push.ensures.items

pub returns : goal.returns
returns c = subst (λ us. AreAllFormals (map model_of us) c.loop-unit.all.items) (take_all c.loop-unit.unit-index c.args.units.now c.loop-unit-test.false) c.loop-unit.invariant
