use Rattle.std.proofs.Common.{arith}
use Rattle.std.proofs.lemmas.Grind.{common_steps}
use Rattle.blif_write.specs.Text.{latch_lines}
use Rattle.blif_write.proofs.Steps.{lines_below_none, lines_below_more, lines_below_all}
use Rattle.blif_write.proofs.write_latches.Goals as goal

pub loop-signal-init : goal.loop-signal-init
loop-signal-init c =
    let none = lines_below_none latch_lines c.args.circuit.now in
    grind (arith, common_steps)

pub loop-signal-preserved : goal.loop-signal-preserved
loop-signal-preserved c =
    let more = lines_below_more latch_lines c.args.circuit.now c.loop-signal.signal c.requires.sound.named (omega arith) in
    grind (arith, common_steps)

pub returns : goal.returns
returns c =
    let whole = lines_below_all latch_lines c.args.circuit.now c.loop-signal.signal (omega arith) in
    grind (arith, common_steps)
