use Rattle.tm_unroll.proofs.ReplaceLemmas.{each_replaced}
use Rattle.tm_unroll.proofs.cover_laws.leaves_replaced.Goals as goal

pub returns : goal.returns
returns c = each_replaced
