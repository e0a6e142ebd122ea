use Rattle.tm_cover.proofs.SomeLemmas.{some_mapping}
use Rattle.tm_cover.proofs.laws.settled_has_mapping.Goals as goal

pub returns : goal.returns
returns c = λ base need circuit k d s sound settled kept. some_mapping base circuit k d s sound settled need kept
