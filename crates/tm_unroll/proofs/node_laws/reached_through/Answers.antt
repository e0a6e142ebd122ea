use Rattle.tm_unroll.proofs.ReplaceLemmas.{reached_through}
use Rattle.tm_unroll.proofs.node_laws.reached_through.Goals as goal

pub returns : goal.returns
returns c = reached_through
