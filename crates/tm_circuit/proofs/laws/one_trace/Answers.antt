use Rattle.tm_circuit.proofs.Traces.{has_one_trace}
use Rattle.tm_circuit.proofs.laws.one_trace.Goals as goal

pub returns : goal.returns
returns c = has_one_trace
