-- each table that can go waits
use Rattle.std.proofs.Common.{length}
use Rattle.tm_absorb.specs.Slots.{IsState, KeepsTables, AreAwaited}
use Rattle.tm_absorb.proofs.under_way.UnderWay.next.Given as goal

abbrev pub invariant-loop-gate : goal.invariant-loop-gate
invariant-loop-gate l = IsState l.circuit l.k l.d l.self × KeepsTables l.fn.self l.self × AreAwaited l.circuit l.k l.self.slots.items l.self.queue.keys

abbrev pub decreases-loop-gate : goal.decreases-loop-gate
decreases-loop-gate l = length l.self.queue.keys
