use Rattle.tm_unroll.proofs.LagLemmas.{lags_paid}
use Rattle.tm_unroll.proofs.laws.lags_are_paid.Goals as goal

pub returns : goal.returns
returns c = lags_paid
