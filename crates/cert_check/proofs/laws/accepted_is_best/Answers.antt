use Rattle.cert_check.proofs.ClaimLemmas.{best}
use Rattle.cert_check.proofs.laws.accepted_is_best.Goals as goal

pub returns : goal.returns
returns g = best
