-- what is put together so far, and what the marks still make of the rest
use Rattle.std.proofs.Common.{◌≡◌, ◌++◌, drop}
use Rattle.std.specs.Vec.Iter.{into_iter_items}
use Rattle.tm_shorten.specs.Parts.{joined}
use Rattle.tm_shorten.proofs.parts.join.Given as goal

abbrev pub invariant-loop-mark : goal.invariant-loop-mark
invariant-loop-mark l =
    l.whole.items ++ joined (drop l.mark-index l.marks) (into_iter_items l.kept) (into_iter_items l.left)
    ≡ joined l.fn.marks l.fn.kept.items l.fn.left.items
