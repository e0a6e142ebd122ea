use Rattle.tm_replay.proofs.LabelLemmas.{next_is_below}
use Rattle.tm_replay.proofs.laws.next_is_below.Goals as goal

pub returns : goal.returns
returns c = next_is_below
