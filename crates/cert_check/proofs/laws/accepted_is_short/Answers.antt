use Rattle.cert_check.proofs.ClaimLemmas.{short}
use Rattle.cert_check.proofs.laws.accepted_is_short.Goals as goal

pub returns : goal.returns
returns g = short
