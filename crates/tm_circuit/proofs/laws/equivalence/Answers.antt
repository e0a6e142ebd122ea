use Rattle.tm_circuit.proofs.Sameness.{sound_same_itself, sound_same_through}
use Rattle.tm_circuit.proofs.laws.equivalence.Goals as goal

pub returns-clause-reflexive : goal.returns-clause-reflexive
returns-clause-reflexive c = sound_same_itself

pub returns-clause-transitive : goal.returns-clause-transitive
returns-clause-transitive c = sound_same_through
