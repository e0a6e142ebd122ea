use Rattle.std.proofs.Common.{arith, below_more}
use Rattle.std.proofs.lemmas.Grind.{common_steps}
use Rattle.blif_write.specs.Text.{gate_lines}
use Rattle.blif_write.proofs.Steps.{lines_below_none, lines_below_more, lines_below_all}
use Rattle.blif_write.proofs.write_gates.Goals as goal

pub loop-signal-init : goal.loop-signal-init
loop-signal-init c =
    let none = lines_below_none gate_lines c.args.circuit.now in
    (grind (arith, common_steps), λ s below. absurd (omega arith))

pub loop-signal-preserved : goal.loop-signal-preserved
loop-signal-preserved c =
    let more = lines_below_more gate_lines c.args.circuit.now c.loop-signal.signal c.requires.sound.named (omega arith) in
    (grind (arith, common_steps), below_more _ _ c.loop-signal.invariant.1 c.in_ok-write_gate.ensures.even)

pub returns-clause-written : goal.returns-clause-written
returns-clause-written c =
    let whole = lines_below_all gate_lines c.args.circuit.now c.loop-signal.signal (omega arith) in
    grind (arith, common_steps)

pub returns-clause-even : goal.returns-clause-even
returns-clause-even c = λ s inside. c.loop-signal.invariant.1 s (omega arith)
