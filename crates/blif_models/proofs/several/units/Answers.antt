use Rattle.std.proofs.Common.{map}
use Rattle.std.proofs.lemmas.Result.{IfOk-weaker}
use Rattle.blif_unit.specs.Fit.{AreFit}
use Rattle.blif_unit.specs.Unit.{model_of}
use Rattle.blif_models.specs.Several.{AreModelsOfLines}
use Rattle.blif_models.proofs.FitLemmas.{models_fit}
use Rattle.blif_models.proofs.several.units.Goals as goal

pub returns-clause-fit : goal.returns-clause-fit
returns-clause-fit c =
    IfOk-weaker c.models_of.result (λ units. AreModelsOfLines c.in_ok-lines.lines (map model_of units.items)) (λ units. AreFit c.args.limits.now.name (map model_of units.items))
    (λ units are. models_fit c.args.limits.now c.args.text.now (map model_of units.items) (rw c.in_ok-lines.ensures.words are)) c.models_of.ensures.models
