use Rattle.tm_unroll.proofs.OwnLemmas.{own_serve_from}
use Rattle.tm_unroll.proofs.laws.own_tables_serve_from.Goals as goal

pub returns : goal.returns
returns c = own_serve_from
