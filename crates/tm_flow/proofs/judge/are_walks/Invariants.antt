use Rattle.std.proofs.Common.{ℕ, ◌<◌, List}
use Rattle.tm_flow.specs.Lists.{At, lists_in}
use Rattle.tm_flow.specs.Nets.{IsIndexWalk}
use Rattle.tm_flow.proofs.judge.are_walks.Given as goal

abbrev pub invariant-loop-walk : goal.invariant-loop-walk
invariant-loop-walk g l = (i : ℕ) (w : List ℕ) → i < l.walk-index → At (lists_in l.walks) i w → IsIndexWalk (g.N.LazyNet.shape l.net) l.root w
