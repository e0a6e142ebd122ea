-- what is left of the base behind the latches so far
use Rattle.std.proofs.Common.{◌≡◌, ◌<◌, length}
use Rattle.tm_unroll.specs.Latches.{behind_latches, need_of}
use Rattle.tm_labels.proofs.lost.need_of.Given as goal

abbrev pub invariant-loop-need : goal.invariant-loop-need
invariant-loop-need l = (l.at < length l.circuit.drives) × ((behind_latches l.circuit.drives l.need l.at).advance ≡ need_of l.base l.circuit l.fn.s)

abbrev pub decreases-loop-need : goal.decreases-loop-need
decreases-loop-need l = l.need
