use Rattle.tm_unroll.proofs.OwnLemmas.{own_serve}
use Rattle.tm_unroll.proofs.laws.own_tables_serve.Goals as goal

pub returns : goal.returns
returns c = own_serve
