-- There is room for the pins of any gate.
use Rattle.std.proofs.Common.{length, ap, arith}
use Rattle.tm_circuit.specs.Plain.{pins_of}
use Rattle.tm_init.proofs.PassLemmas.{pins-few}
use Rattle.tm_init.proofs.starts.drive.Goals as goal

pub driven-value-requires-clause-room : goal.driven-value-requires-clause-room
driven-value-requires-clause-room c =
    omega (arith, pins-few c.args.circuit.now c.args.signal c.requires.signal, ap (λ d. length (pins_of d)) c.driver.ensures.drive)
