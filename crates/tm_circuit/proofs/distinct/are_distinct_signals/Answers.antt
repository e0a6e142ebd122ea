-- A signal that is marked came before, and one that is not is marked.
use Rattle.std.proofs.Common.{◌≡◌, ◌+◌, ◌<◌, length, set, take, refl, sym, ◌∙◌, subst, arith, true}
use Rattle.std.proofs.lemmas.List.{take_all}
use Rattle.tm_circuit.proofs.DistinctLemmas.{HaveMarked, marked_more, repeated, mark_is}
use Rattle.std.proofs.lemmas.Bool.{false≢true}
use Rattle.tm_circuit.proofs.distinct.are_distinct_signals.Goals as goal

pub index-requires : goal.index-requires
index-requires c =
    let within : c.loop-signal.signal-index < length c.args.signals.now = omega arith in
    let low = c.requires c.loop-signal.signal-index c.signal-item.result within in
    grind (arith, low, c.signal-item.is, c.signal.view_is, c.loop-signal.invariant.sized)

pub index_mut-requires : goal.index_mut-requires
index_mut-requires c =
    let within : c.loop-signal.signal-index < length c.args.signals.now = omega arith in
    let low = c.requires c.loop-signal.signal-index c.signal-item.result within in
    grind (arith, low, c.signal-item.is, c.signal.view_is, c.loop-signal.invariant.sized)

pub returns-then-index : goal.returns-then-index
returns-then-index c =
    let within : c.loop-signal.signal-index < length c.args.signals.now = omega arith in
    let low = c.requires c.loop-signal.signal-index c.signal-item.result within in
    let below : c.signal-item.result < c.args.n = omega (arith, low, c.signal-item.is) in
    let marked = mark_is c.args.n c.loop-signal.seen.items _ c.signal-item.result _ c.loop-signal.invariant.sized below c.signal.view_is c.index.ensures in (
      λ e. absurd (false≢true e),
      λ pairs. absurd (repeated c.args.signals.now c.loop-signal.signal-index c.signal-item.result within c.signal-item.is
          (c.loop-signal.invariant.marked c.signal-item.result (marked ∙ c.if-index.true)) pairs),
    )

pub loop-signal-preserved : goal.loop-signal-preserved
loop-signal-preserved c =
    let within : c.loop-signal.signal-index < length c.args.signals.now = omega arith in
    let low = c.requires c.loop-signal.signal-index c.signal-item.result within in
    let below : c.signal-item.result < c.args.n = omega (arith, low, c.signal-item.is) in
    let marked = mark_is c.args.n c.loop-signal.seen.items _ c.signal-item.result _ c.loop-signal.invariant.sized below c.signal.view_is c.index.ensures in
    subst (λ i. HaveMarked c.args.n (set c.loop-signal.seen.items i true) c.args.signals.now (c.loop-signal.signal-index + 1)) (sym c.signal.view_is)
    (marked_more c.args.n c.loop-signal.seen.items c.args.signals.now c.loop-signal.signal-index c.signal-item.result c.loop-signal.invariant within c.signal-item.is below (marked ∙ c.if-index.false))

pub returns : goal.returns
returns c =
    let all : take c.loop-signal.signal-index c.args.signals.now ≡ c.args.signals.now = take_all c.loop-signal.signal-index c.args.signals.now (omega (arith, c.loop-signal-test.false)) in
    (λ _. rw all at c.loop-signal.invariant.apart, λ _. refl)
