use Rattle.tm_replay.proofs.SourceLemmas.{source_is}
use Rattle.tm_replay.proofs.laws.sources_are_found.Goals as goal

pub returns : goal.returns
returns c = λ circuit s sound. source_is circuit sound s
