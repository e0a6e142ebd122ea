-- A turn holds the nodes of the next walk; at the end the nodes that may be cut of all walks are held.
use Rattle.std.proofs.Common.{length, refl, subst, sym, ◌∙◌, eqb-true, arith}
use Rattle.std.proofs.lemmas.Bool.{MatchBool-at_true, MatchBool-at_false}
use Rattle.std.proofs.lemmas.List.{length-map}
use Rattle.tm_flow.specs.Lists.{lists_in}
use Rattle.tm_flow.specs.Nets.{IsIndexWalk, nodes_of}
use Rattle.tm_flow.specs.Judges.{Takes, Clashes}
use Rattle.tm_flow.proofs.PlaceLemmas.{each_at}
use Rattle.tm_flow.proofs.JudgeLemmas.{at_image, held_more, held_clashes, shared_if_held, unshared}
use Rattle.tm_flow.proofs.judge.has_shared.Goals as goal

pub hold_walk-requires : goal.hold_walk-requires
hold_walk-requires g c =
    let leads = IsIndexWalk (g.N.LazyNet.shape c.args.net.now) c.args.root in
    subst leads (sym c.as_slice.ensures.value)
    (each_at leads (lists_in c.args.walks.now) c.loop-walk.walk-index c.walk-item.result.items c.requires
    (at_image (λ v. v.items) c.args.walks.now c.loop-walk.walk-index c.walk-item.result c.loop-walk-test.true c.walk-item.is))

pub returns-then-branch : goal.returns-then-branch
returns-then-branch g c =
    let n = g.N.LazyNet.shape c.args.net.now in
    let shared = held_clashes n c.args.root (lists_in c.args.walks.now) c.loop-walk.walk-index c.loop-walk.judge.held.keys c.loop-walk.invariant c.walk-item.result.items
    (at_image (λ v. v.items) c.args.walks.now c.loop-walk.walk-index c.walk-item.result c.loop-walk-test.true c.walk-item.is)
    (subst (λ w. Clashes n (nodes_of n c.args.root w) c.loop-walk.judge.held.keys) c.as_slice.ensures.value (MatchBool-at_true _ _ c.if-branch.true c.in_ok-hold_walk.ensures)) in
    (λ is. shared, λ h. refl)

pub loop-walk-preserved : goal.loop-walk-preserved
loop-walk-preserved g c =
    let n = g.N.LazyNet.shape c.args.net.now in
    held_more n c.args.root (lists_in c.args.walks.now) c.loop-walk.walk-index c.loop-walk.judge.held.keys c.loop-walk.invariant c.walk-item.result.items
    (at_image (λ v. v.items) c.args.walks.now c.loop-walk.walk-index c.walk-item.result c.loop-walk-test.true c.walk-item.is) c.hold_walk.new.held.keys
    (subst (λ w. Takes n (nodes_of n c.args.root w) c.loop-walk.judge.held.keys c.hold_walk.new.held.keys) c.as_slice.ensures.value
    (MatchBool-at_false _ _ c.if-branch.false c.in_ok-hold_walk.ensures))

pub returns-then-walks-eq1 : goal.returns-then-walks-eq1
returns-then-walks-eq1 g c =
    let many = length-map c.args.walks.now (λ v. v.items) in
    shared_if_held (g.N.LazyNet.shape c.args.net.now) c.args.root (lists_in c.args.walks.now) c.loop-walk.walk-index c.loop-walk.judge.held.keys c.loop-walk.invariant
    (omega arith) (many ∙ c.if-walks-eq1.true) c.is_empty.result c.is_empty.ensures

pub returns-else-walks-eq1 : goal.returns-else-walks-eq1
returns-else-walks-eq1 g c =
    let many = length-map c.args.walks.now (λ v. v.items) in (
      λ one. absurd (c.if-walks-eq1.false (eqb-true (length c.args.walks.now) 1 one)),
      λ shared. absurd (unshared (g.N.LazyNet.shape c.args.net.now) c.args.root (lists_in c.args.walks.now) c.loop-walk.walk-index c.loop-walk.judge.held.keys c.loop-walk.invariant
          (omega arith) (λ one. absurd (c.if-walks-eq1.false (sym many ∙ one))) shared),
    )
