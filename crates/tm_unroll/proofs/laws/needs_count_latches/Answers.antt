use Rattle.tm_unroll.proofs.BehindLemmas.{needs_count, needs_low, needs_none}
use Rattle.tm_unroll.proofs.laws.needs_count_latches.Goals as goal

pub returns-clause-counts : goal.returns-clause-counts
returns-clause-counts c = needs_count

pub returns-clause-low : goal.returns-clause-low
returns-clause-low c = needs_low

pub returns-clause-none : goal.returns-clause-none
returns-clause-none c = needs_none
