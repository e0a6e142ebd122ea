use Rattle.tm_unroll.proofs.ReadLemmas.{walks_fall}
use Rattle.tm_unroll.proofs.laws.walks_end.Goals as goal

pub returns : goal.returns
returns c = walks_fall
