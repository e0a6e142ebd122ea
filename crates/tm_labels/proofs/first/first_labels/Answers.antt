use Rattle.std.proofs.Common.{◌<◌, length, ◌∙◌, arith}
use Rattle.tm_replay.proofs.MomentLemmas.{first_more}
use Rattle.tm_labels.proofs.first.first_labels.Goals as goal

pub loop-s-preserved : goal.loop-s-preserved
loop-s-preserved c =
    let within : c.loop-s.s < length c.args.circuit.now.drives = omega (arith, c.loop-s-test.true, c.signals-s-end.ensures.count, c.loop-s.auto.s-end) in
    c.in_ok-push.ensures.items ∙ first_more c.args.circuit.now c.args.d c.args.target c.loop-s.s c.loop-s.labels.items c.first_label.result c.driver.result.now within c.driver.ensures.drive
    c.loop-s.invariant c.first_label.ensures
