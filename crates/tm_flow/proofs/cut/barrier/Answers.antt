use Rattle.std.proofs.Common.{◌≡◌, ◌∙◌, false, All, subst, map}
use Rattle.std.proofs.lemmas.List.{length-map}
use Rattle.tm_flow.specs.Lists.{At}
use Rattle.tm_flow.proofs.FlowLemmas.{walk_is}
use Rattle.tm_flow.proofs.SearchLemmas.{if_ok_as}
use Rattle.tm_flow.proofs.WalkLemmas.{free_barrier, full_barrier}
use Rattle.tm_flow.proofs.cut.barrier.Goals as goal

pub returns-in-Some : goal.returns-in-Some
returns-in-Some g c =
    let n = g.N.LazyNet.shape c.args.net.now in
    let ws = map (λ w. w.items) c.args.walks.now in
    let free = c.in-Some.ensures.free in
    let is = walk_is (λ w. w.items) c.args.walks.now c.in-Some.free c.index-walks-free.result free.0 c.as_slice.result.now free.1 c.index-walks-free.is c.as_slice.ensures.value in
    if_ok_as c.only.result
    (λ lists one root k flow many.
    free_barrier n g.N.Node.PartialEq.eq g.met.N.LazyNet.same_if_equal g.met.N.Node.Eq.laws.refl root k ws c.as_slice.result.now c.in-Some.free (map (λ w. w.items) lists.items)
    flow (subst (At ws c.in-Some.free) is free.1) (subst (All (λ e. n.may_cut e.to ≡ false)) is free.2) one)
    c.only.ensures

pub returns-in-None : goal.returns-in-None
returns-in-None g c =
    let ws = map (λ w. w.items) c.args.walks.now in
    if_ok_as c.index_lists.result
    (λ lists all root k flow many.
    full_barrier (g.N.LazyNet.shape c.args.net.now) g.N.Node.PartialEq.eq g.met.N.LazyNet.same_if_equal g.met.N.Node.Eq.laws.refl root k ws (map (λ w. w.items) lists.items)
    flow (length-map c.args.walks.now (λ w. w.items) ∙ many) all)
    c.index_lists.ensures
