use Rattle.std.proofs.Common.{drop}
use Rattle.tm_flow.proofs.JudgeLemmas.{IsHolding}
use Rattle.tm_flow.proofs.judge.hold_walk.Given as goal

abbrev pub invariant-loop-digit : goal.invariant-loop-digit
invariant-loop-digit g l = IsHolding (g.N.LazyNet.shape l.net) l.fn.root l.walk l.fn.held.keys l.node (drop l.digit-index l.walk) l.held.keys
