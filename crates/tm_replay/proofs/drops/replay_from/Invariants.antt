-- the drops so far replay, and lead to the labels
use Rattle.std.proofs.Common.{map}
use Rattle.tm_replay.specs.Replays.{drop_of}
use Rattle.tm_replay.specs.Moments.{IsMoment}
use Rattle.tm_replay.proofs.drops.replay_from.Given as goal

abbrev pub invariant-loop-place : goal.invariant-loop-place
invariant-loop-place l = IsMoment l.base l.circuit l.k l.d l.target (map drop_of l.drops) l.place l.labels.items
