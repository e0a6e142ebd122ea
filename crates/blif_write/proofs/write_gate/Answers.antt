use Rattle.std.proofs.Common.{◌∙◌, ap, arith}
use Rattle.std.proofs.lemmas.Grind.{common_steps}
use Rattle.tm_circuit.specs.Plain.{drive_of}
use Rattle.blif_write.proofs.Steps.{gate_written}
use Rattle.blif_write.proofs.write_gate.Goals as goal

pub returns-in_ok-write_rows-clause-written : goal.returns-in_ok-write_rows-clause-written
returns-in_ok-write_rows-clause-written c =
    let lines = gate_written c.args.circuit.now c.args.signal c.in-Gate.pins.items c.in-Gate.cover c.name.result.now c.args.out.now.items (c.driver.ensures.drive ∙ ap drive_of c.in-Gate.is) c.name.ensures in
    grind (arith, common_steps)
