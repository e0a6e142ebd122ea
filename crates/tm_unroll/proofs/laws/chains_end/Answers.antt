use Rattle.tm_unroll.proofs.ChainLemmas.{no_repeats}
use Rattle.tm_unroll.proofs.laws.chains_end.Goals as goal

pub returns : goal.returns
returns c = no_repeats
