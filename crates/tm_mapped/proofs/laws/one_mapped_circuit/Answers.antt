use Rattle.tm_mapped.proofs.AloneLemmas.{one_mapped}
use Rattle.tm_mapped.proofs.laws.one_mapped_circuit.Goals as goal

pub returns : goal.returns
returns g = one_mapped
