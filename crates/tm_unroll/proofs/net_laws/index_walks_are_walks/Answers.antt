use Rattle.tm_unroll.proofs.NetLemmas.{walks_of}
use Rattle.tm_unroll.proofs.net_laws.index_walks_are_walks.Goals as goal

pub returns : goal.returns
returns c = λ most circuit may_cut x sound node. walks_of most circuit may_cut sound x node
