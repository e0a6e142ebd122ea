-- the leaves so far are taken up, where they were met
use Rattle.std.proofs.Common.{take}
use Rattle.tm_unroll.specs.Searches.{TakesUp}
use Rattle.tm_unroll.proofs.cover.Search.take_up.Given as goal

abbrev pub invariant-loop-leaf : goal.invariant-loop-leaf
invariant-loop-leaf l = TakesUp (take l.leaf-index l.leaves) l.fn.self l.self
