use Rattle.tm_unroll.proofs.LeafLemmas.{one_of_gate}
use Rattle.tm_unroll.proofs.node_laws.one_table.Goals as goal

pub returns : goal.returns
returns c = one_of_gate
