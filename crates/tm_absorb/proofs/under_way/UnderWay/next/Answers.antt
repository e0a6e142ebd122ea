-- The first of the queue that can go.
use Rattle.std.proofs.Common.{arith}
use Rattle.std.proofs.lemmas.Bool.{false≢true, MatchBool-at_true, MatchBool-at_false}
use Rattle.tm_absorb.specs.declared.under_way.UnderWay.{UnderWay}
use Rattle.tm_absorb.proofs.NextLemmas.{asked_goes, asked_stays, keeps_more, keeps_popped, keeps_state}
use Rattle.tm_absorb.proofs.under_way.UnderWay.next.Goals as goal

pub returns-then-branch-clause-next : goal.returns-then-branch-clause-next
returns-then-branch-clause-next c =
    asked_goes c.args.circuit.now c.args.k c.args.d c.loop-gate.self c.can_go.new.self c.pop_first.new.self c.in-Some.gate c.loop-gate.invariant.0 c.loop-gate.invariant.2
    c.in-Some.ensures.removal c.in-Some.ensures.all_above c.in_ok-can_go.ensures.keeps c.in_ok-can_go.ensures.queue
    (MatchBool-at_true _ _ c.if-branch.true c.in_ok-can_go.ensures.goes)

pub loop-gate-preserved : goal.loop-gate-preserved
loop-gate-preserved c =
    let w = c.loop-gate.self in
    let popped : UnderWay = record w { queue = c.pop_first.new.self } in
    let asked = c.can_go.new.self in
    let keeps = c.in_ok-can_go.ensures.keeps in
    let first = keeps_popped w c.pop_first.new.self in (
      keeps_state c.args.circuit.now c.args.k c.args.d popped asked keeps (keeps_state c.args.circuit.now c.args.k c.args.d w popped first c.loop-gate.invariant.0),
      keeps_more c.args.self.now popped asked (keeps_more c.args.self.now w popped c.loop-gate.invariant.1 first) keeps,
      asked_stays c.args.circuit.now c.args.k c.args.d w asked c.pop_first.new.self c.in-Some.gate c.loop-gate.invariant.0 c.loop-gate.invariant.2
          c.in-Some.ensures.removal keeps c.in_ok-can_go.ensures.queue (MatchBool-at_false _ _ c.if-branch.false c.in_ok-can_go.ensures.goes),
    )

pub returns-clause-next : goal.returns-clause-next
returns-clause-next c t goes =
    let there = c.loop-gate.invariant.2 t goes in
    let low = there.1 in
    false≢true (c.in_default.ensures.variant.1 (omega (arith, low)))
