-- the drops so far
use Rattle.std.proofs.Common.{◌≡◌, map}
use Rattle.tm_replay.specs.Replays.{drop_of}
use Rattle.two_way.specs.Replays.{drop_of as two_drop_of}
use Rattle.two_way.specs.Amounts.{two_drop}
use Rattle.two_way.proofs.amounts.two_drops.Given as goal

abbrev pub invariant-loop-drop : goal.invariant-loop-drop
invariant-loop-drop l = map two_drop_of l.two.items ≡ map (two_drop l.fn.b) (map drop_of l.yielded)
