-- the deepest of the leaves so far
use Rattle.std.proofs.Common.{map, take}
use Rattle.tm_unroll.specs.Mappings.{table_of}
use Rattle.tm_unroll.specs.Depths.{IsDeepest}
use Rattle.tm_unroll.proofs.chains.deepest_leaf.Given as goal

abbrev pub invariant-loop-leaf : goal.invariant-loop-leaf
invariant-loop-leaf l = IsDeepest (map table_of l.luts) l.depths (take l.leaf-index l.leaves) l.deepest
