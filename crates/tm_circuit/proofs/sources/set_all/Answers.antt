-- one signal more is set
use Rattle.std.proofs.Common.{◌+◌, ◌<◌, length, set, take, subst, sym, arith}
use Rattle.tm_circuit.specs.Follow.{SetsAll}
use Rattle.tm_circuit.proofs.SourceLemmas.{sets_more}
use Rattle.tm_circuit.proofs.sources.set_all.Goals as goal

pub loop-signal-preserved : goal.loop-signal-preserved
loop-signal-preserved c =
    let within : c.loop-signal.signal-index < length c.args.signals.now = omega arith in
    let s = c.signal-item.result in
    let low = c.requires c.loop-signal.signal-index s within in
    let below : s < length c.loop-signal.sources = omega (arith, low, c.signal-item.is, c.loop-signal.invariant.sized) in
    subst (λ i. SetsAll c.args.sources.now (set c.loop-signal.sources i c.args.source.now) (take (c.loop-signal.signal-index + 1) c.args.signals.now) c.args.source.now)
    (sym c.signal.view_is)
    (sets_more c.args.sources.now c.loop-signal.sources c.args.signals.now c.loop-signal.signal-index s c.args.source.now c.loop-signal.invariant within c.signal-item.is below)
