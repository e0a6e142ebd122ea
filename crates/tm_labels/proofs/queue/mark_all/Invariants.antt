-- the first signals are marked
use Rattle.std.proofs.Common.{take}
use Rattle.tm_labels.specs.Marks.{JoinsMarks}
use Rattle.tm_labels.proofs.queue.mark_all.Given as goal

abbrev pub invariant-loop-s : goal.invariant-loop-s
invariant-loop-s l = JoinsMarks (take l.s-index l.signals) l.fn.marks l.marks
