use Rattle.std.proofs.Common.{◌∙◌, ap, arith}
use Rattle.std.proofs.lemmas.Grind.{common_steps}
use Rattle.tm_circuit.specs.Plain.{drive_of}
use Rattle.blif_write.proofs.Steps.{latch_written}
use Rattle.blif_write.proofs.write_latch.Goals as goal

pub returns-in_ok-push_last_bit : goal.returns-in_ok-push_last_bit
returns-in_ok-push_last_bit c =
    let line = latch_written c.args.circuit.now c.args.signal c.in-Latch.next c.in-Latch.init c.name.result.now c.name-in-Latch.result.now c.args.out.now.items (c.driver.ensures.drive ∙ ap drive_of c.in-Latch.is) c.name.ensures c.name-in-Latch.ensures in
    grind (arith, common_steps)
