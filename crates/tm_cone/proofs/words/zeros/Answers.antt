-- compared on all rows
use Rattle.tm_cone.proofs.WordLemmas.{none}
use Rattle.tm_cone.proofs.words.zeros.Goals as goal

pub returns : goal.returns
returns c = none
