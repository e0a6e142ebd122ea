use Rattle.std.proofs.Common.{◌≡◌, ◌∙◌, ◌+◌, min, take, get_or, refl, sym, ap, arith}
use Rattle.std.specs.Prelude.{slice_index}
use Rattle.std.proofs.lemmas.List.{take_all}
use Rattle.blif_flat.specs.Extent.{instances_by}
use Rattle.blif_flat.proofs.ExtentLemmas.{instances_more}
use Rattle.blif_flat.proofs.extent.instances.Goals as goal

pub loop-model-preserved : goal.loop-model-preserved
loop-model-preserved c =
    let more = instances_more c.args.below.now c.args.placed.now c.loop-model.model-index (get_or c.args.placed.now c.loop-model.model-index 0) c.loop-model-test.true refl in
    let so_far : c.loop-model.instances ≡ instances_by c.args.below.now (take c.loop-model.model-index c.args.placed.now) = c.loop-model.invariant in
    let step : c.min-instances.result ≡ min (instances_by c.args.below.now (take c.loop-model.model-index c.args.placed.now) + (slice_index c.args.below.now (get_or c.args.placed.now c.loop-model.model-index 0) + 1)) 67108865 =
    omega (arith, so_far, c.saturating_add.ensures, c.saturating_add-in-loop-model.ensures, c.min-instances.ensures) in
    step ∙ sym more

pub returns : goal.returns
returns c = c.loop-model.invariant ∙ ap (instances_by c.args.below.now) (take_all c.loop-model.model-index c.args.placed.now c.loop-model-test.false)
