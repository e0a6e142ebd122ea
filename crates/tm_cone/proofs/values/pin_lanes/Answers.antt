-- One pin more has words.
use Rattle.std.proofs.Common.{◌<◌, length, arith}
use Rattle.tm_unroll.specs.Nodes.{node_at}
use Rattle.tm_cone.proofs.ValueLemmas.{pin_stands, words_more}
use Rattle.tm_cone.proofs.values.pin_lanes.Goals as goal

pub index-requires : goal.index-requires
index-requires c =
    let within : c.loop-pin.pin-index < length c.args.pins.now = omega arith in
    c.requires (node_at c.args.advance c.pin-item.result) (pin_stands c.args.pins.now c.args.advance c.loop-pin.pin-index c.pin-item.result within c.pin-item.is)

pub loop-pin-preserved : goal.loop-pin-preserved
loop-pin-preserved c =
    let within : c.loop-pin.pin-index < length c.args.pins.now = omega arith in
    words_more c.args.values.now c.args.pins.now c.args.advance c.loop-pin.pin-index c.pin-item.result c.loop-pin.lanes.items c.push.new.self.items c.index.result.now
    c.loop-pin.invariant within c.pin-item.is c.index.ensures c.in_ok-push.ensures.ok
