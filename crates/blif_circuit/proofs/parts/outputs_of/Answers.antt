-- The uses of one statement are known where those of all are.
use Rattle.std.proofs.Common.{length, ◌<◌, arith, subst, sym}
use Rattle.blif_unit.specs.Unit.{outputs_told}
use Rattle.blif_circuit.specs.Signals.{AreKnown}
use Rattle.blif_circuit.proofs.SignalLoops.{known_told}
use Rattle.blif_circuit.proofs.parts.outputs_of.Goals as goal

pub push_outputs-requires-clause-known : goal.push_outputs-requires-clause-known
push_outputs-requires-clause-known c =
    let within : c.loop-stated.stated-index < length c.args.body.now = omega arith in
    subst (AreKnown c.args.signals.now) (sym c.outputs_in.ensures) (known_told c.args.signals.now outputs_told c.args.body.now c.loop-stated.stated-index c.stated-item.result c.requires.known within c.stated-item.is)
