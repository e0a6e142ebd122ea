use Rattle.tm_replay.proofs.RefutationLemmas.{refuted_below}
use Rattle.tm_replay.proofs.laws.refuted_is_below.Goals as goal

pub returns : goal.returns
returns c = refuted_below
