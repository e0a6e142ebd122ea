-- one statement more
use Rattle.std.proofs.Common.{◌∙◌, ap, length, ◌<◌, arith}
use Rattle.std.specs.Prelude.{option_copied}
use Rattle.blif_unit.specs.Unit.{inputs_told}
use Rattle.blif_circuit.specs.Signals.{put_all, unclocked}
use Rattle.blif_circuit.proofs.SignalLoops.{put_told}
use Rattle.blif_circuit.proofs.order.put_inputs.Goals as goal

pub loop-stated-preserved : goal.loop-stated-preserved
loop-stated-preserved c =
    let within : c.loop-stated.stated-index < length c.args.body.now = omega arith in
    let clock = option_copied c.args.clock in
    put_told (λ told. unclocked clock (inputs_told told)) c.args.body.now c.loop-stated.stated-index c.stated-item.result c.args.names.now c.loop-stated.names c.put_inputs_of.new.names within c.stated-item.is
    c.loop-stated.invariant (c.in_ok-put_inputs_of.ensures ∙ ap (λ ns. put_all c.loop-stated.names (unclocked clock ns)) c.inputs_in.ensures)
