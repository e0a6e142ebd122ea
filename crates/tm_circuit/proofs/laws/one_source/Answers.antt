use Rattle.tm_circuit.proofs.OneSource.{one_source}
use Rattle.tm_circuit.proofs.laws.one_source.Goals as goal

pub returns : goal.returns
returns c = one_source
