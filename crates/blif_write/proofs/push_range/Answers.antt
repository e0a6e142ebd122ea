use Rattle.std.proofs.Common.{arith}
use Rattle.std.proofs.lemmas.Grind.{common_steps}
use Rattle.blif_write.proofs.Steps.{range_more}
use Rattle.blif_write.proofs.push_range.Goals as goal

pub loop-signal-preserved : goal.loop-signal-preserved
loop-signal-preserved c =
    let more = range_more c.args.circuit.now.names c.args.start c.loop-signal.signal c.bytes.result.now (omega arith) (cc) in
    grind (arith, common_steps)
