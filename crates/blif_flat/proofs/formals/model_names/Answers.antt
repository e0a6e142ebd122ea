use Rattle.std.proofs.Common.{◌≡◌, ◌∙◌, ◌++◌, ◌∷◌, [], List, ℕ, map, subst, ap, bytes_eq, if◌then◌else◌}
use Rattle.std.specs.List.{list_any}
use Rattle.std.proofs.lemmas.List.{take_all}
use Rattle.blif_unit.specs.declared.unit.Unit.{Unit as ModelUnit}
use Rattle.blif_flat.proofs.NameLists.{named_more}
use Rattle.blif_flat.proofs.formals.model_names.Goals as goal

pub loop-unit-preserved : goal.loop-unit-preserved
loop-unit-preserved c =
    let step = subst (λ (n : List ℕ). c.insert.new.self ≡ (if list_any (bytes_eq n) c.loop-unit.names then c.loop-unit.names else c.loop-unit.names ++ n ∷ [])) c.bytes.ensures c.in_ok-insert.ensures.names in
    named_more (λ (u : ModelUnit). u.name) c.args.units.now c.loop-unit.unit-index c.unit-item.result c.loop-unit.names c.insert.new.self c.requires c.loop-unit-test.true c.unit-item.is c.loop-unit.invariant step

pub returns : goal.returns
returns c = c.loop-unit.invariant ∙ ap (λ us. map (λ (u : ModelUnit). u.name) us) (take_all c.loop-unit.unit-index c.args.units.now c.loop-unit-test.false)
