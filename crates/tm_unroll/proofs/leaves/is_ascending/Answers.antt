-- Each node stands before the next, or one does not.
use Rattle.std.proofs.Common.{refl, sym, ◌∙◌, arith}
use Rattle.std.proofs.lemmas.Bool.{false≢true}
use Rattle.tm_unroll.proofs.AscentLemmas.{ascends_first, ascends_more, descends, ascends_all}
use Rattle.tm_unroll.proofs.leaves.is_ascending.Goals as goal

pub loop-place-init : goal.loop-place-init
loop-place-init c = ascends_first c.args.nodes.now 1 (omega arith)

pub returns-then-not-is_before : goal.returns-then-not-is_before
returns-then-not-is_before c = (
  λ e. absurd (false≢true e),
  λ pairs. absurd (false≢true (sym c.if-not-is_before.true ∙ c.is_before.ensures.1
      (descends c.args.nodes.now c.loop-place.place c.index-nodes-place.result c.index-nodes-place-in-loop-place.result c.loop-place.auto.place c.loop-place-test.true
      c.index-nodes-place.is c.index-nodes-place-in-loop-place.is pairs))),
)

pub loop-place-preserved : goal.loop-place-preserved
loop-place-preserved c =
    ascends_more c.args.nodes.now c.loop-place.place c.index-nodes-place.result c.index-nodes-place-in-loop-place.result c.loop-place.auto.place c.loop-place-test.true
    c.index-nodes-place.is c.index-nodes-place-in-loop-place.is c.loop-place.invariant (c.is_before.ensures.0 c.if-not-is_before.false)

pub returns : goal.returns
returns c = (λ _. ascends_all c.args.nodes.now c.loop-place.place c.loop-place.invariant c.loop-place-test.false, λ _. refl)
