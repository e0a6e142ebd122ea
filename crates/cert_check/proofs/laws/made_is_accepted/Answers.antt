use Rattle.cert_check.proofs.ClaimLemmas.{made}
use Rattle.cert_check.proofs.laws.made_is_accepted.Goals as goal

pub returns : goal.returns
returns g = made
