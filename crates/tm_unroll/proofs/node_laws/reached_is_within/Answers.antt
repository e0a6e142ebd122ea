use Rattle.tm_unroll.proofs.LeafLemmas.{reached_inside}
use Rattle.tm_unroll.proofs.node_laws.reached_is_within.Goals as goal

pub returns : goal.returns
returns c = reached_inside
