use Rattle.tm_unroll.proofs.ReplaceLemmas.{reads_cover}
use Rattle.tm_unroll.proofs.cover_laws.reads_cover.Goals as goal

pub returns : goal.returns
returns c = reads_cover
