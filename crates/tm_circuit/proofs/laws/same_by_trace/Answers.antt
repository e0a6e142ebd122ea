use Rattle.tm_circuit.proofs.Sameness.{sound_same_by_trace}
use Rattle.tm_circuit.proofs.laws.same_by_trace.Goals as goal

pub returns : goal.returns
returns c = sound_same_by_trace
