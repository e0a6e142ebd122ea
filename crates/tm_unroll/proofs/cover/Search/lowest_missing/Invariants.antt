-- the lowest missing leaf so far
use Rattle.std.proofs.Common.{take}
use Rattle.std.specs.Prelude.{Contains, MatchOption}
use Rattle.tm_unroll.specs.declared.node.Node.{Node}
use Rattle.tm_unroll.specs.Searches.{met_by, IsLowestMissing}
use Rattle.tm_unroll.proofs.cover.Search.lowest_missing.Given as goal

abbrev pub invariant-loop-leaf : goal.invariant-loop-leaf
invariant-loop-leaf l =
    MatchOption l.lowest ((x : Node) → Contains (take l.leaf-index l.leaves) x → Contains (met_by l.self) x)
    (IsLowestMissing l.circuit (take l.leaf-index l.leaves) l.self)
