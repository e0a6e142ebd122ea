-- the source gates of the leaves so far are met
use Rattle.std.proofs.Common.{take}
use Rattle.tm_cover.specs.Wanted.{Meets, IsSourceUnder}
use Rattle.tm_cover.proofs.wanted.Search.meet_leaves.Given as goal

abbrev pub invariant-loop-leaf : goal.invariant-loop-leaf
invariant-loop-leaf l = Meets (IsSourceUnder l.circuit.drives (take l.leaf-index l.leaves)) l.fn.self l.self
