use Rattle.std.proofs.Common.{length, ◌-◌}
use Rattle.blif_models.proofs.BlockLemmas.{IsPassing}
use Rattle.blif_models.proofs.statements.rows_end.Given as goal

abbrev pub invariant-loop-end : goal.invariant-loop-end
invariant-loop-end l = IsPassing l.lines l.start l.end

abbrev pub decreases-loop-end : goal.decreases-loop-end
decreases-loop-end l = length l.lines - l.end
