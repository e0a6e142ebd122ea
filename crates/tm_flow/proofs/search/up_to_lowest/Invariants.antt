use Rattle.std.proofs.Common.{◌≤◌}
use Rattle.tm_flow.proofs.search.up_to_lowest.Given as goal

abbrev pub invariant-loop-index : goal.invariant-loop-index
invariant-loop-index g l = l.up_to ≤ l.index
