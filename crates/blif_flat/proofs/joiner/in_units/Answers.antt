use Rattle.std.proofs.Common.{◌∙◌, ◌∷◌, map, take, ap, arith}
use Rattle.std.proofs.lemmas.List.{take_all}
use Rattle.blif_unit.specs.Fit.{names_told}
use Rattle.blif_unit.specs.Unit.{Model, model_of, over}
use Rattle.blif_flat.specs.Flat.{names_in}
use Rattle.blif_flat.specs.Run.{run_in}
use Rattle.blif_flat.proofs.RunLemmas.{run-append}
use Rattle.blif_flat.proofs.SiteLemmas.{flat_more}
use Rattle.blif_flat.proofs.joiner.in_units.Goals as goal

pub loop-unit-preserved : goal.loop-unit-preserved
loop-unit-preserved c =
    let u = c.unit-item.result in
    let more = ap run_in (flat_more model_of (λ (m : Model). m.name ∷ over names_told m.body) c.args.units.now c.loop-unit.unit-index u c.loop-unit-test.true c.unit-item.is)
    ∙ run-append (names_in (map model_of (take c.loop-unit.unit-index c.args.units.now))) ((model_of u).name ∷ over names_told (model_of u).body) in
    (omega (arith, more, c.in_unit.ensures.run, c.loop-unit.invariant.0, c.max-longest.ensures), omega (arith, c.loop-unit.invariant.1, c.in_unit.ensures.small, c.max-longest.ensures))

pub returns : goal.returns
returns c = record {
  run = c.loop-unit.invariant.0 ∙ ap (λ us. run_in (names_in (map model_of us))) (take_all c.loop-unit.unit-index c.args.units.now c.loop-unit-test.false);
  small = c.loop-unit.invariant.1;
}
