use Rattle.tm_unroll.proofs.ReadLemmas.{height_falls}
use Rattle.tm_unroll.proofs.LeafLemmas.{reached_lower}
use Rattle.tm_unroll.proofs.node_laws.heights_fall.Goals as goal

pub returns-clause-read : goal.returns-clause-read
returns-clause-read c = λ circuit x y sound read. height_falls circuit sound x y read

pub returns-clause-reached : goal.returns-clause-reached
returns-clause-reached c = reached_lower
