-- the turn of each gate, and the next lag after them all
use Rattle.std.proofs.Common.{◌≡◌, ◌<◌, map, length, take, arith}
use Rattle.tm_unroll.specs.Mappings.{table_of}
use Rattle.tm_unroll.proofs.PlaceLemmas.{leaves_within}
use Rattle.tm_unroll.proofs.TurnLemmas.{room, turn, order_within, next_lag}
use Rattle.tm_unroll.proofs.chains.add_lag.Goals as goal

pub add_node-requires-clause-signal : goal.add_node-requires-clause-signal
add_node-requires-clause-signal c =
    let inside : c.loop-gate.gate-index < length c.order-order.result.now = omega arith in
    let low = order_within c.args.circuit.now c.order-order.result.now c.order-order.ensures c.loop-gate.gate-index c.gate-item.result inside c.gate-item.is in
    omega (arith, low, c.requires.places.sized)

pub add_node-requires-clause-leaves : goal.add_node-requires-clause-leaves
add_node-requires-clause-leaves c = leaves_within c.args.circuit.now (map table_of c.args.luts.now) c.requires.mapping (length c.args.places.now) c.requires.places.sized

pub add_node-requires-clause-room : goal.add_node-requires-clause-room
add_node-requires-clause-room c =
    room c.args.circuit.now c.requires.sound (map table_of c.args.luts.now) c.requires.mapping c.args.lag (take c.loop-gate.gate-index c.order-order.result.now) c.loop-gate.depths c.loop-gate.invariant

pub loop-gate-preserved : goal.loop-gate-preserved
loop-gate-preserved c =
    let inside : c.loop-gate.gate-index < length c.order-order.result.now = omega arith in
    turn c.args.circuit.now c.requires.sound (map table_of c.args.luts.now) c.requires.mapping c.order-order.result.now c.order-order.ensures c.args.lag c.loop-gate.gate-index
    c.gate-item.result c.loop-gate.depths c.add_node.new.depths inside c.gate-item.is c.add_node.ensures c.loop-gate.invariant

pub returns : goal.returns
returns c =
    let all : c.loop-gate.gate-index ≡ length c.order-order.result.now = omega (arith, c.loop-gate-test.false, c.loop-gate.auto.gate-index-end) in
    next_lag c.args.circuit.now (map table_of c.args.luts.now) c.requires.mapping c.order-order.result.now c.order-order.ensures c.args.lag c.loop-gate.gate-index c.loop-gate.depths all c.loop-gate.invariant
