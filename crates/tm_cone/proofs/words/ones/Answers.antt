-- compared on all rows
use Rattle.tm_cone.proofs.WordLemmas.{ones}
use Rattle.tm_cone.proofs.words.ones.Goals as goal

pub returns : goal.returns
returns c = ones
