use Rattle.std.proofs.Common.{◌≡◌}
use Rattle.tm_trial_mapper.proofs.primes.table_of.Given as goal

abbrev pub invariant-loop-row : goal.invariant-loop-row
invariant-loop-row l = l.table.inputs ≡ l.inputs
