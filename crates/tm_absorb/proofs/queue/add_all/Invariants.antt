-- the gates so far are in the queue, and what was there before
use Rattle.std.proofs.Common.{ℕ, take}
use Rattle.std.specs.Prelude.{Contains}
use Rattle.tm_absorb.specs.Slots.{KeepsQueue}
use Rattle.tm_absorb.proofs.queue.add_all.Given as goal

abbrev pub invariant-loop-gate : goal.invariant-loop-gate
invariant-loop-gate l = KeepsQueue l.fn.queue.keys l.queue.keys × ((g : ℕ) → Contains (take l.gate-index l.gates) g → Contains l.queue.keys g)
