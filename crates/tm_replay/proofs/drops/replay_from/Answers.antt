use Rattle.std.proofs.Common.{◌≡◌, List, length, drop, refl, sym, ◌∙◌, ap}
use Rattle.std.specs.Prelude.{Option}
use Rattle.std.proofs.lemmas.List.{take_at, length-set}
use Rattle.tm_replay.specs.declared.label.Label.{Label}
use Rattle.tm_replay.specs.Replays.{drop_of, lowered}
use Rattle.tm_replay.proofs.MomentLemmas.{moment_fails, moment_more, failed, passed}
use Rattle.tm_replay.proofs.drops.replay_from.Goals as goal

pub returns-in-Some : goal.returns-in-Some
returns-in-Some c =
    let fails = failed c.args.base c.args.circuit.now c.args.k c.args.target c.deref.result.now c.loop-place.labels.items (drop_of c.index-drops-place.result) c.in_ok-why.field-0 c.in-Some.why c.in_ok-why.ensures
    c.deref.ensures.value c.in-Some.is in
    moment_fails c.args.base c.args.circuit.now c.args.k c.args.d c.args.target c.args.drops.now c.loop-place.place c.loop-place.labels.items c.index-drops-place.result _ c.loop-place-test.true c.index-drops-place.is
    c.loop-place.invariant fails refl

pub loop-place-preserved : goal.loop-place-preserved
loop-place-preserved c =
    let lawful = passed c.args.base c.args.circuit.now c.args.k c.args.target c.deref.result.now c.loop-place.labels.items (drop_of c.index-drops-place.result) c.in_ok-why.field-0 c.in_ok-why.ensures
    c.deref.ensures.value c.in_default.is in
    let lowers : c.lower.new.labels ≡ lowered c.args.target c.loop-place.labels.items (drop_of c.index-drops-place.result) =
    c.lower.ensures ∙ ap (λ (ls : List (Option Label)). lowered c.args.target ls (drop_of c.index-drops-place.result)) c.deref_mut.ensures.value in
    let sized : length c.lower.new.labels ≡ c.loop-place.labels.len = ap length lowers ∙ length-set c.loop-place.labels.items _ _ ∙ sym c.loop-place.labels.ok.0 in
    moment_more c.args.base c.args.circuit.now c.args.k c.args.d c.args.target c.args.drops.now c.loop-place.place c.loop-place.labels.items _ c.index-drops-place.result c.loop-place-test.true c.index-drops-place.is
    c.loop-place.invariant lawful (take_at c.lower.new.labels (drop (length c.lower.new.labels) c.loop-place.labels.items) c.loop-place.labels.len sized ∙ lowers)
