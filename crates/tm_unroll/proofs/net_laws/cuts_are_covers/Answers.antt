use Rattle.tm_unroll.proofs.NetLemmas.{cuts_covers}
use Rattle.tm_unroll.proofs.net_laws.cuts_are_covers.Goals as goal

pub returns : goal.returns
returns c = λ most circuit may_cut x k nodes sound node. cuts_covers most circuit may_cut sound x k nodes node
