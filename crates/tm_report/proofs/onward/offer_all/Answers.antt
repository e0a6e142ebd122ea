-- one signal more was offered the step
use Rattle.std.proofs.Common.{◌+◌, ◌<◌, length, set, take, subst, sym, arith}
use Rattle.tm_report.specs.Onward.{IsBetter, OffersAll}
use Rattle.tm_report.proofs.Sweeps.{offers_more}
use Rattle.tm_report.proofs.Readings.{onward_read}
use Rattle.tm_report.proofs.onward.offer_all.Goals as goal

pub loop-signal-preserved : goal.loop-signal-preserved
loop-signal-preserved c =
    let within : c.loop-signal.signal-index < length c.args.signals.now = omega arith in
    let s = c.signal-item.result in
    let now = c.loop-signal.onward in
    let low = c.requires c.loop-signal.signal-index s within in
    let below : s < length now = omega (arith, low, c.signal-item.is, c.loop-signal.invariant.sized) in
    let held = onward_read now c.signal.inside.0 s c.index-onward-signal.result (omega (arith, below, c.signal.view_is)) c.signal.view_is c.index-onward-signal.is in
    subst (λ i. OffersAll c.args.onward.now (set now i c.better.result) (take (c.loop-signal.signal-index + 1) c.args.signals.now) c.args.step.now) (sym c.signal.view_is)
    (offers_more c.args.onward.now now c.args.signals.now c.loop-signal.signal-index s c.args.step.now c.better.result c.loop-signal.invariant within c.signal-item.is below
    (subst (λ o. IsBetter o c.args.step.now c.better.result) held c.better.ensures))
