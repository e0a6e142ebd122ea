use Rattle.std.proofs.Common.{◌↔◌, drop}
use Rattle.tm_flow.specs.Nets.{IsIndexWalk}
use Rattle.tm_flow.proofs.judge.is_walk.Given as goal

-- the rest leads from here to an end where the whole leads there from the root
abbrev pub invariant-loop-digit : goal.invariant-loop-digit
invariant-loop-digit g l = IsIndexWalk (g.N.LazyNet.shape l.net) l.node (drop l.digit-index l.walk) ↔ IsIndexWalk (g.N.LazyNet.shape l.net) l.fn.root l.walk
