-- one name more
use Rattle.std.proofs.Common.{length, ◌<◌, arith}
use Rattle.std.specs.Prelude.{option_copied}
use Rattle.blif_circuit.proofs.SignalLoops.{put_unclocked}
use Rattle.blif_circuit.proofs.order.put_inputs_of.Goals as goal

pub loop-input-preserved : goal.loop-input-preserved
loop-input-preserved c =
    let within : c.loop-input.input-index < length c.args.inputs.now = omega arith in
    put_unclocked (option_copied c.args.clock) c.args.inputs.now c.loop-input.input-index c.input-item.result c.args.names.now c.loop-input.names c.put_input.new.names within c.input-item.is
    c.loop-input.invariant c.in_ok-put_input.ensures
