use Rattle.tm_unroll.proofs.ReplaceLemmas.{same_covers}
use Rattle.tm_unroll.proofs.cover_laws.covers_are_sets.Goals as goal

pub returns : goal.returns
returns c = same_covers
