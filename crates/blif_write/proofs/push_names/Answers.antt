use Rattle.std.proofs.lemmas.Grind.{common_steps}
use Rattle.std.proofs.Common.{arith}
use Rattle.blif_write.proofs.Steps.{names_more}
use Rattle.blif_write.proofs.push_names.Goals as goal

pub loop-signal-preserved : goal.loop-signal-preserved
loop-signal-preserved c =
    let more = names_more c.args.circuit.now c.args.signals.now c.loop-signal.signal-index c.signal-item.result c.bytes.result.now c.loop-signal-test.true c.signal-item.is (cc) in
    grind (arith, common_steps)
