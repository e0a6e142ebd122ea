use Rattle.std.proofs.Common.{subst, refl}
use Rattle.tm_flow.specs.Searches.{near, far, IsMarked}
use Rattle.tm_flow.proofs.SearchLemmas.{meets_on, meets_as, step_as, read_is_step, follows_far}
use Rattle.tm_flow.proofs.search.meet_from_far.Goals as goal

pub returns-clause-meets : goal.returns-clause-meets
returns-clause-meets g c edges =
    let n = g.N.LazyNet.shape c.args.net.now in
    meets_on (meets_as (step_as n edges (far c.args.node) c.near.result _ (refl, c.near.ensures)) c.in_ok-meet.ensures.meets)
    (meets_as (λ s t h. read_is_step n c.args.node edges s t h) c.in_ok-meet_reads.ensures.meets)

pub returns-clause-follows : goal.returns-clause-follows
returns-clause-follows g c edges =
    follows_far (g.N.LazyNet.shape c.args.net.now) c.args.node (IsMarked c.meet_reads.new.search.met.nodes.keys c.meet_reads.new.search.met.marks.items)
    (c.in_ok-meet_reads.ensures.meets.stays (near c.args.node) (subst (IsMarked c.meet.new.search.met.nodes.keys c.meet.new.search.met.marks.items) c.near.ensures c.in_ok-meet.ensures.met))
    c.in_ok-meet_reads.ensures.met edges
