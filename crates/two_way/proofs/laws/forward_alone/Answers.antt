use Rattle.two_way.proofs.PeriodLemmas.{forward_least, forward_least_two}
use Rattle.two_way.proofs.laws.forward_alone.Goals as goal

pub returns : goal.returns
returns c = λ circuit k d period. (forward_least circuit k d period, forward_least_two circuit k d period)
