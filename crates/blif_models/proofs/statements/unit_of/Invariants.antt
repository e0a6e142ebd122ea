use Rattle.std.proofs.Common.{length, map, ◌-◌}
use Rattle.blif_unit.specs.Unit.{telling_of}
use Rattle.blif_models.specs.Words.{earlier_of}
use Rattle.blif_models.proofs.UnitLemmas.{HasRead}
use Rattle.blif_models.proofs.statements.unit_of.Given as goal

abbrev pub invariant-loop-line : goal.invariant-loop-line
invariant-loop-line l = HasRead l.lines l.line (earlier_of l.seen) l.unit.name l.unit.line (map telling_of l.unit.body.items)

abbrev pub decreases-loop-line : goal.decreases-loop-line
decreases-loop-line l = length l.lines - l.line
