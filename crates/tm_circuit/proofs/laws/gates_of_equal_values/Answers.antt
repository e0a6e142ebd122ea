use Rattle.tm_circuit.proofs.Sameness.{sound_rewritten_same}
use Rattle.tm_circuit.proofs.laws.gates_of_equal_values.Goals as goal

pub returns : goal.returns
returns c = sound_rewritten_same
