use Rattle.std.proofs.Common.{◌≡◌, false, All, subst, arith}
use Rattle.tm_flow.proofs.FlowLemmas.{at_map_get}
use Rattle.tm_flow.proofs.cut.free_walk.Goals as goal

pub returns-then-is_free-clause-free : goal.returns-then-is_free-clause-free
returns-then-is_free-clause-free g c = (
  c.index-walks-which.result.items,
  at_map_get (λ w. w.items) c.args.walks.now c.loop-which.which c.index-walks-which.result (omega arith) c.index-walks-which.is,
  subst (All (λ e. (g.N.LazyNet.shape c.args.net.now).may_cut e.to ≡ false)) c.as_slice.ensures.value (c.is_free.ensures.0 c.if-is_free.true),
)
