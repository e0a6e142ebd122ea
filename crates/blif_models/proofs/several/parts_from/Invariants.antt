use Rattle.std.proofs.Common.{length, map, ◌-◌}
use Rattle.blif_unit.specs.Unit.{telling_of}
use Rattle.blif_models.specs.Words.{earlier_of}
use Rattle.blif_models.proofs.SectionLemmas.{HasParts}
use Rattle.blif_models.proofs.several.parts_from.Given as goal

abbrev pub invariant-loop-line : goal.invariant-loop-line
invariant-loop-line l = HasParts l.lines l.start l.line (earlier_of l.seen) (map telling_of l.body.items)

abbrev pub decreases-loop-line : goal.decreases-loop-line
decreases-loop-line l = length l.lines - l.line
