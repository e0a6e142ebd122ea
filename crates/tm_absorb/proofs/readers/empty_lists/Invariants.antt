-- no more lists than are wanted
use Rattle.std.proofs.Common.{◌-◌, ◌≤◌, vec_len}
use Rattle.tm_absorb.proofs.readers.empty_lists.Given as goal

abbrev pub invariant-loop-alloc : goal.invariant-loop-alloc
invariant-loop-alloc l = vec_len l.lists ≤ l.count

abbrev pub decreases-loop-alloc : goal.decreases-loop-alloc
decreases-loop-alloc l = l.count - vec_len l.lists
