use Rattle.cert_check.proofs.SpellLemmas.{spelled}
use Rattle.cert_check.proofs.laws.accepted_is_spelled.Goals as goal

pub returns : goal.returns
returns g = spelled
