-- The uses of one statement are known where those of all are.
use Rattle.std.proofs.Common.{length, ◌<◌, arith}
use Rattle.blif_unit.specs.Unit.{uses_told}
use Rattle.blif_circuit.proofs.SignalLoops.{known_told}
use Rattle.blif_circuit.proofs.parts.gates_of.Goals as goal

pub push_gate-requires-clause-known : goal.push_gate-requires-clause-known
push_gate-requires-clause-known c =
    let within : c.loop-stated.stated-index < length c.args.body.now = omega arith in
    known_told c.args.signals.now uses_told c.args.body.now c.loop-stated.stated-index c.stated-item.result c.requires.known within c.stated-item.is
