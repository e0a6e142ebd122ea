-- the way from the first node so far
use Rattle.std.specs.List.{sum_by}
use Rattle.tm_net.proofs.NeedLemmas.{IsWay}
use Rattle.tm_net.proofs.needed.need.Given as goal

abbrev pub invariant-loop-node : goal.invariant-loop-node
invariant-loop-node l = IsWay l.circuit l.initial.node l.initial.lows l.lows l.node

abbrev pub decreases-loop-node : goal.decreases-loop-node
decreases-loop-node l = sum_by (λ n. n) l.lows
