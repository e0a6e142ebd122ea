use Rattle.std.proofs.Common.{◌++◌, [], subst, refl}
use Rattle.std.proofs.lemmas.List.{append-nil}
use Rattle.tm_flow.specs.Searches.{near, far, IsMarked}
use Rattle.tm_flow.proofs.ListLemmas.{each_as}
use Rattle.tm_flow.proofs.SearchLemmas.{meets_on, meets_as, meets_wait, step_as, back_is_step, follows_near}
use Rattle.tm_flow.proofs.search.meet_from_near.Goals as goal

pub returns-then-can_cross-clause-meets : goal.returns-then-can_cross-clause-meets
returns-then-can_cross-clause-meets g c =
    let n = g.N.LazyNet.shape c.args.net.now in
    meets_on (meets_as (λ s t h. back_is_step n c.args.node c.args.edges.now s t h) c.in_ok-meet_back.ensures.meets)
    (meets_as (step_as n c.args.edges.now (near c.args.node) c.far.result _ (refl, c.far.ensures, c.can_cross.ensures.yes c.if-can_cross.true)) c.meet_in_hand.ensures.meets)

pub returns-then-can_cross-clause-follows : goal.returns-then-can_cross-clause-follows
returns-then-can_cross-clause-follows g c =
    let Met = IsMarked c.meet_in_hand.new.search.met.nodes.keys c.meet_in_hand.new.search.met.marks.items in
    follows_near (g.N.LazyNet.shape c.args.net.now) c.args.node c.args.edges.now Met
    (each_as (λ e. IsMarked c.meet_back.new.search.met.nodes.keys c.meet_back.new.search.met.marks.items (far e.from)) (λ e. Met (far e.from))
    (λ e h. c.meet_in_hand.ensures.meets.stays (far e.from) h) c.args.edges.now c.in_ok-meet_back.ensures.met)
    (λ _. subst Met c.far.ensures c.meet_in_hand.ensures.met)

pub returns-clause-meets : goal.returns-clause-meets
returns-clause-meets g c =
    let pending = c.meet_back.new.search.pending.items in
    meets_wait (pending ++ []) (append-nil pending)
    (meets_as (λ s t h. back_is_step (g.N.LazyNet.shape c.args.net.now) c.args.node c.args.edges.now s t h) c.in_ok-meet_back.ensures.meets)

pub returns-clause-follows : goal.returns-clause-follows
returns-clause-follows g c =
    follows_near (g.N.LazyNet.shape c.args.net.now) c.args.node c.args.edges.now (IsMarked c.meet_back.new.search.met.nodes.keys c.meet_back.new.search.met.marks.items)
    c.in_ok-meet_back.ensures.met (λ open_. absurd (c.can_cross.ensures.no c.if-can_cross.false open_))
