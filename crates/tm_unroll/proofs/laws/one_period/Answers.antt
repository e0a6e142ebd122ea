use Rattle.tm_unroll.proofs.PeriodLemmas.{some_period, same_period}
use Rattle.tm_unroll.proofs.laws.one_period.Goals as goal

pub returns-clause-some : goal.returns-clause-some
returns-clause-some c = some_period

pub returns-clause-one : goal.returns-clause-one
returns-clause-one c = same_period
