use Rattle.tm_circuit.proofs.Traces.{has_one_run}
use Rattle.tm_circuit.proofs.laws.one_run.Goals as goal

pub returns : goal.returns
returns c = has_one_run
