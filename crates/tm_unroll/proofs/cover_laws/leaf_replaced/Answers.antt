use Rattle.tm_unroll.proofs.ReplaceLemmas.{one_replaced}
use Rattle.tm_unroll.proofs.cover_laws.leaf_replaced.Goals as goal

pub returns : goal.returns
returns c = one_replaced
