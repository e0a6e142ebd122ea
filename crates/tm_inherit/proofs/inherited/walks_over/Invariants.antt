-- the walks so far
use Rattle.std.proofs.Common.{◌≡◌, ◌++◌, take, map}
use Rattle.tm_flow.specs.Lists.{lists_in}
use Rattle.tm_inherit.specs.Reads.{way_to}
use Rattle.tm_inherit.proofs.inherited.walks_over.Given as goal

abbrev pub invariant-loop-walk : goal.invariant-loop-walk
invariant-loop-walk l = lists_in l.lists.items ≡ take l.walk-index (map (λ w. way_to l.lag l.read ++ w) (lists_in l.walks))
