-- no signal so far is marked
use Rattle.std.proofs.Common.{◌≡◌, ℕ, ◌<◌, false}
use Rattle.tm_labels.specs.Marks.{is_marked}
use Rattle.tm_labels.proofs.queue.first_marked.Given as goal

abbrev pub invariant-loop-s : goal.invariant-loop-s
invariant-loop-s l = (i : ℕ) → i < l.s → is_marked l.marks i ≡ false
