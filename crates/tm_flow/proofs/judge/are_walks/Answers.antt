-- Each walk up to the index leads to an end.
use Rattle.std.proofs.Common.{inl, inr, subst, sym, ◌∙◌, arith}
use Rattle.std.proofs.lemmas.Bool.{cases_lt, false≢true}
use Rattle.std.proofs.lemmas.List.{length-map}
use Rattle.tm_flow.specs.Lists.{lists_in}
use Rattle.tm_flow.specs.Nets.{IsIndexWalk}
use Rattle.tm_flow.proofs.PlaceLemmas.{at_has, at_within}
use Rattle.tm_flow.proofs.JudgeLemmas.{each_place, at_image, at_last}
use Rattle.tm_flow.proofs.judge.are_walks.Goals as goal

pub returns-then-not-is_walk : goal.returns-then-not-is_walk
returns-then-not-is_walk g c = (
  c.walk-item.result.items,
  at_has (lists_in c.args.walks.now) c.loop-walk.walk-index c.walk-item.result.items
      (at_image (λ v. v.items) c.args.walks.now c.loop-walk.walk-index c.walk-item.result c.loop-walk-test.true c.walk-item.is),
  λ leads. false≢true (sym c.if-not-is_walk.true ∙ c.is_walk.ensures.1 (subst (IsIndexWalk (g.N.LazyNet.shape c.args.net.now) c.args.root) (sym c.as_slice.ensures.value) leads)),
)

pub loop-walk-preserved : goal.loop-walk-preserved
loop-walk-preserved g c = λ i w less there.
    elim (cases_lt i c.loop-walk.walk-index) [
      | inl before ↦ c.loop-walk.invariant i w before there
      | inr here ↦
          let same = at_last (lists_in c.args.walks.now) c.loop-walk.walk-index c.walk-item.result.items
          (at_image (λ v. v.items) c.args.walks.now c.loop-walk.walk-index c.walk-item.result c.loop-walk-test.true c.walk-item.is) i w less here there in
          subst (IsIndexWalk (g.N.LazyNet.shape c.args.net.now) c.args.root) (c.as_slice.ensures.value ∙ sym same) (c.is_walk.ensures.0 c.if-not-is_walk.false)
    ]

pub returns : goal.returns
returns g c =
    each_place (IsIndexWalk (g.N.LazyNet.shape c.args.net.now) c.args.root) (lists_in c.args.walks.now)
    (λ i w there. c.loop-walk.invariant i w (omega (arith, at_within (lists_in c.args.walks.now) i w there, length-map c.args.walks.now (λ v. v.items))) there)
