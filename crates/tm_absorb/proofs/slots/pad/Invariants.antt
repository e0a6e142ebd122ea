-- no more slots than are wanted, and those that were added are empty
use Rattle.std.proofs.Common.{◌≡◌, ◌-◌, ◌≤◌, vec_len}
use Rattle.tm_absorb.specs.Slots.{present, AreOwn}
use Rattle.tm_absorb.proofs.slots.pad.Given as goal

abbrev pub invariant-loop-slots : goal.invariant-loop-slots
invariant-loop-slots l = (vec_len l.slots ≤ l.count) × AreOwn l.slots.items × (present l.slots.items ≡ present l.fn.slots.items)

abbrev pub decreases-loop-slots : goal.decreases-loop-slots
decreases-loop-slots l = l.count - vec_len l.slots
