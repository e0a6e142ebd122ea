-- the walks so far
use Rattle.std.proofs.Common.{◌≡◌, take}
use Rattle.tm_flow.specs.Lists.{lists_in}
use Rattle.tm_labels.proofs.known.index_lists.Given as goal

abbrev pub invariant-loop-walk : goal.invariant-loop-walk
invariant-loop-walk l = lists_in l.lists.items ≡ take l.walk-index (lists_in l.walks)
