use Rattle.tm_unroll.proofs.JudgeLemmas.{gate_within}
use Rattle.tm_unroll.proofs.node_laws.gate_is_signal.Goals as goal

pub returns : goal.returns
returns c = gate_within
