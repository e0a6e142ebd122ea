use Rattle.std.proofs.Common.{length, map, ◌-◌}
use Rattle.blif_unit.specs.Unit.{model_of}
use Rattle.blif_models.specs.Sections.{HasModels}
use Rattle.blif_models.proofs.several.models_of.Given as goal

abbrev pub invariant-loop-line : goal.invariant-loop-line
invariant-loop-line l = HasModels l.lines l.line l.names (map model_of l.units.items)

abbrev pub decreases-loop-line : goal.decreases-loop-line
decreases-loop-line l = length l.lines - l.line
