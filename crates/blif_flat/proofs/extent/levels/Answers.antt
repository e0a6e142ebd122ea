use Rattle.std.proofs.Common.{◌≡◌, ◌∙◌, ◌+◌, min, max, take, get_or, refl, sym, ap, arith}
use Rattle.std.specs.Prelude.{slice_index}
use Rattle.std.proofs.lemmas.List.{take_all}
use Rattle.blif_flat.specs.Extent.{levels_by}
use Rattle.blif_flat.proofs.ExtentLemmas.{levels_more}
use Rattle.blif_flat.proofs.extent.levels.Goals as goal

pub loop-model-preserved : goal.loop-model-preserved
loop-model-preserved c =
    let more = levels_more c.args.below.now c.args.placed.now c.loop-model.model-index (get_or c.args.placed.now c.loop-model.model-index 0) c.loop-model-test.true refl in
    let so_far : c.loop-model.levels ≡ levels_by c.args.below.now (take c.loop-model.model-index c.args.placed.now) = c.loop-model.invariant in
    let step : c.max-levels.result ≡ max (levels_by c.args.below.now (take c.loop-model.model-index c.args.placed.now)) (min (slice_index c.args.below.now (get_or c.args.placed.now c.loop-model.model-index 0) + 1) 65) =
    omega (arith, so_far, c.saturating_add.ensures, c.min.ensures, c.max-levels.ensures) in
    step ∙ sym more

pub returns : goal.returns
returns c = c.loop-model.invariant ∙ ap (levels_by c.args.below.now) (take_all c.loop-model.model-index c.args.placed.now c.loop-model-test.false)
