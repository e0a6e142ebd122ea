use Rattle.std.proofs.Common.{arith}
use Rattle.tm_flow.proofs.FlowLemmas.{leads_at, on_walk, absent_more}
use Rattle.tm_flow.proofs.flow.find_edge.Goals as goal

pub place_of-requires : goal.place_of-requires
place_of-requires g c =
    leads_at (λ w. w.items) (g.N.LazyNet.shape c.args.net.now) c.args.walks.now c.loop-which.which c.index-walks-which.result c.as_slice.result.now
    c.requires (omega arith) c.index-walks-which.is c.as_slice.ensures.value

pub returns-in-Some-clause-found : goal.returns-in-Some-clause-found
returns-in-Some-clause-found g c =
    on_walk (λ w. w.items) c.args.walks.now c.loop-which.which c.index-walks-which.result c.as_slice.result.now c.in-Some.place c.args.edge
    (omega arith) c.index-walks-which.is c.as_slice.ensures.value c.in-Some.ensures.found

pub loop-which-preserved : goal.loop-which-preserved
loop-which-preserved g c =
    absent_more (λ w. w.items) c.args.walks.now c.loop-which.which c.index-walks-which.result c.as_slice.result.now c.args.edge
    (omega arith) c.index-walks-which.is c.as_slice.ensures.value c.loop-which.invariant c.in_default.ensures.absent
