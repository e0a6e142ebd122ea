-- The next of the order is a gate, which gets its value.
use Rattle.std.proofs.Common.{◌<◌, length, sym, arith}
use Rattle.tm_init.proofs.PassLemmas.{gate-inside, settling-start, settling-more, settling-end}
use Rattle.tm_init.proofs.starts.settle.Goals as goal

pub loop-gate-init : goal.loop-gate-init
loop-gate-init c =
    settling-start c.args.circuit.now c.requires.room.sound c.order-gate-items.result.now c.args.step c.args.bytes.now c.requires.before c.requires.held

pub drive-requires-clause-signal : goal.drive-requires-clause-signal
drive-requires-clause-signal c =
    let i = c.loop-gate.gate-index in
    let within : i < length c.order-gate-items.result.now = omega arith in
    gate-inside c.args.circuit.now.drives c.gate-item.result ((c.order-gate-items.ensures.gates c.gate-item.result).0 (i, within, sym c.gate-item.is))

pub loop-gate-preserved : goal.loop-gate-preserved
loop-gate-preserved c =
    settling-more c.args.circuit.now c.requires.room.sound c.order-gate-items.result.now c.order-gate-items.ensures c.loop-gate.gate-index c.gate-item.result c.args.step c.loop-gate.bytes c.drive.new.bytes c.requires.room.near (omega arith) c.gate-item.is c.drive.ensures c.loop-gate.invariant

pub returns : goal.returns
returns c =
    settling-end c.args.circuit.now c.order-gate-items.result.now c.order-gate-items.ensures c.loop-gate.gate-index c.args.step c.loop-gate.bytes (omega arith) c.loop-gate.invariant
