use Rattle.tm_flow.specs.Lists.{lists_in}
use Rattle.tm_flow.proofs.JudgeLemmas.{AreHeld}
use Rattle.tm_flow.proofs.judge.has_shared.Given as goal

abbrev pub invariant-loop-walk : goal.invariant-loop-walk
invariant-loop-walk g l = AreHeld (g.N.LazyNet.shape l.net) l.root (lists_in l.walks) l.walk-index l.judge.held.keys
