use Rattle.cert_check.proofs.MappedLemmas.{mapped_circuits}
use Rattle.cert_check.proofs.laws.mapped_circuits_agree.Goals as goal

pub returns : goal.returns
returns g = mapped_circuits
