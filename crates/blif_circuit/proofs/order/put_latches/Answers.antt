-- one statement more
use Rattle.std.proofs.Common.{◌∙◌, ap, length, ◌<◌, arith}
use Rattle.blif_unit.specs.Unit.{latch_told}
use Rattle.blif_circuit.specs.Signals.{put_all}
use Rattle.blif_circuit.proofs.SignalLoops.{put_told}
use Rattle.blif_circuit.proofs.order.put_latches.Goals as goal

pub loop-stated-preserved : goal.loop-stated-preserved
loop-stated-preserved c =
    let within : c.loop-stated.stated-index < length c.args.body.now = omega arith in
    put_told latch_told c.args.body.now c.loop-stated.stated-index c.stated-item.result c.args.names.now c.loop-stated.names c.put.new.names within c.stated-item.is
    c.loop-stated.invariant (c.in_ok-put.ensures ∙ ap (put_all c.loop-stated.names) c.latch_in.ensures)
