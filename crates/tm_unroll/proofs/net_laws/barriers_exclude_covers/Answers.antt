use Rattle.tm_unroll.proofs.NetLemmas.{excludes_covers}
use Rattle.tm_unroll.proofs.net_laws.barriers_exclude_covers.Goals as goal

pub returns : goal.returns
returns c = λ most circuit may_cut x k walks sound node barrier. excludes_covers most circuit may_cut sound x k walks node barrier
