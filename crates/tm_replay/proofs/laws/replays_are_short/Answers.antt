use Rattle.tm_replay.proofs.CountLemmas.{replay_short, none_for_nothing}
use Rattle.tm_replay.proofs.laws.replays_are_short.Goals as goal

pub returns : goal.returns
returns c = record { bound = replay_short; none = none_for_nothing }
