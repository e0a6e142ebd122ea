use Rattle.tm_unroll.proofs.LeafLemmas.{reached_leaf, more_lag}
use Rattle.tm_unroll.proofs.node_laws.reached_leaf.Goals as goal

pub returns-clause-reached : goal.returns-clause-reached
returns-clause-reached c = reached_leaf

pub returns-clause-more_lag : goal.returns-clause-more_lag
returns-clause-more_lag c = more_lag
