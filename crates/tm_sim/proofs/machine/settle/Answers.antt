-- The next of the order is a gate, which gets its value.
use Rattle.std.proofs.Common.{◌≡◌, ◌<◌, length, get_or, sym, ◌∙◌, ap, arith}
use Rattle.std.proofs.lemmas.List.{get_or_read}
use Rattle.tm_circuit.specs.Plain.{pins_of}
use Rattle.tm_sim.specs.Settled.{bit_of, settled}
use Rattle.tm_sim.proofs.SettleLemmas.{gate-inside, pins-few, settling-more, settling-end}
use Rattle.tm_sim.proofs.machine.settle.Goals as goal

pub driver-requires : goal.driver-requires
driver-requires c =
    let gates = c.order-gate-items.result.now in
    let i = c.loop-gate.gate-index in
    let within : i < length gates = omega arith in
    let here : c.gate.inside.0 ≡ get_or gates i c.gate.inside.0 = c.gate.view_is ∙ get_or_read gates i c.gate-item.result within c.gate-item.is c.gate.inside.0 in
    gate-inside c.args.circuit.now.drives c.gate.inside.0 ((c.order-gate-items.ensures.gates c.gate.inside.0).0 (i, within, sym here))

pub settled-value-requires-clause-room : goal.settled-value-requires-clause-room
settled-value-requires-clause-room c =
    let gates = c.order-gate-items.result.now in
    let i = c.loop-gate.gate-index in
    let within : i < length gates = omega arith in
    let here : c.gate.inside.0 ≡ get_or gates i c.gate.inside.0 = c.gate.view_is ∙ get_or_read gates i c.gate-item.result within c.gate-item.is c.gate.inside.0 in
    let signal = gate-inside c.args.circuit.now.drives c.gate.inside.0 ((c.order-gate-items.ensures.gates c.gate.inside.0).0 (i, within, sym here)) in
    omega (arith, pins-few c.args.circuit.now c.gate.inside.0 signal, ap (λ d. length (pins_of d)) c.driver.ensures.drive)

pub loop-gate-preserved : goal.loop-gate-preserved
loop-gate-preserved c =
    let circuit = c.args.circuit.now in
    let gates = c.order-gate-items.result.now in
    let i = c.loop-gate.gate-index in
    let g = c.gate.inside.0 in
    let now = c.loop-gate.values in
    let within : i < length gates = omega arith in
    let here : g ≡ get_or gates i g = c.gate.view_is ∙ get_or_read gates i c.gate-item.result within c.gate-item.is g in
    let signal = gate-inside circuit.drives g ((c.order-gate-items.ensures.gates g).0 (i, within, sym here)) in
    let value = c.settled-value.ensures ∙ ap (λ d. settled d (bit_of now g) (bit_of now)) (sym c.driver.ensures.drive) in
    settling-more circuit gates i g c.args.values.now now c.settled-value.result c.order-gate-items.ensures c.loop-gate.invariant within here (omega (arith, signal)) value

pub returns : goal.returns
returns c =
    settling-end c.args.circuit.now c.order-gate-items.result.now c.loop-gate.gate-index c.args.values.now c.loop-gate.values c.order-gate-items.ensures c.loop-gate.invariant (omega arith)
