use Rattle.tm_unroll.proofs.NetLemmas.{keeps_net_laws}
use Rattle.tm_unroll.proofs.net_laws.net_is_lawful.Goals as goal

pub returns : goal.returns
returns c = keeps_net_laws
