-- the next gate back is looked at
use Rattle.std.proofs.Common.{◌≡◌, ◌+◌, ◌-◌, ◌<◌, length, drop, subst, sym, ◌∙◌, ap, refl, arith}
use Rattle.std.proofs.lemmas.List.{with_items_is}
use Rattle.tm_circuit.specs.Plain.{drive_in, pins_of}
use Rattle.tm_report.specs.Onward.{onward_at, IsSwept}
use Rattle.tm_report.proofs.Ways.{gate_inside}
use Rattle.tm_report.proofs.Sweeps.{swept_more}
use Rattle.tm_report.proofs.Readings.{onward_read, is_few, order_gate}
use Rattle.tm_report.proofs.onward.onward_of.Goals as goal

pub index-requires : goal.index-requires
index-requires c =
    let g = c.index-order-place.result in
    let drives = c.args.circuit.now.drives in
    let is_gate_g = order_gate drives c.order-order.result.now (c.loop-place.place - 1) g c.order-order.ensures (omega arith) c.index-order-place.is in
    omega (arith, gate_inside drives g is_gate_g, c.gate.view_is, c.loop-place.invariant.sized, c.loop-place.onward.ok.0)

pub overflow_add-step : goal.overflow_add-step
overflow_add-step c =
    let g = c.index-order-place.result in
    let drives = c.args.circuit.now.drives in
    let onward = c.loop-place.onward.items in
    let is_gate_g = order_gate drives c.order-order.result.now (c.loop-place.place - 1) g c.order-order.ensures (omega arith) c.index-order-place.is in
    let below : c.gate.inside.0 < length onward = omega (arith, gate_inside drives g is_gate_g, c.gate.view_is, c.loop-place.invariant.sized) in
    let read = onward_read onward c.gate.inside.0 g c.index.result.now below c.gate.view_is c.index.ensures in
    let few = is_few c.args.circuit.now (onward_at onward g).gates g c.signals.ensures.sound (c.loop-place.invariant.bounded g) in
    omega (arith, few, ap (λ o. o.gates) read)

pub driver-requires : goal.driver-requires
driver-requires c =
    let g = c.index-order-place.result in
    let drives = c.args.circuit.now.drives in
    gate_inside drives g (order_gate drives c.order-order.result.now (c.loop-place.place - 1) g c.order-order.ensures (omega arith) c.index-order-place.is)

pub loop-place-preserved : goal.loop-place-preserved
loop-place-preserved c =
    let g = c.index-order-place.result in
    let circuit = c.args.circuit.now in
    let order = c.order-order.result.now in
    let k = c.loop-place.place - 1 in
    let onward = c.loop-place.onward.items in
    let new = c.offer_all.new.onward in
    let within : k < length order = omega arith in
    let is_gate_g = order_gate circuit.drives order k g c.order-order.ensures within c.index-order-place.is in
    let below : c.gate.inside.0 < length onward = omega (arith, gate_inside circuit.drives g is_gate_g, c.gate.view_is, c.loop-place.invariant.sized) in
    let read = onward_read onward c.gate.inside.0 g c.index.result.now below c.gate.view_is c.index.ensures in
    let pins : c.pins.result.now ≡ pins_of (drive_in circuit.drives g) = c.pins.ensures ∙ ap pins_of (sym c.driver.ensures.drive) in
    let offers = rw (c.deref_mut.ensures.value, pins) at c.offer_all.ensures in
    let back : c.loop-place.place ≡ k + 1 = omega arith in
    let before = subst (λ n. IsSwept circuit (drop n order) onward) back c.loop-place.invariant in
    let sized : length new ≡ c.loop-place.onward.len = omega (arith, offers.sized, c.loop-place.onward.ok.0) in
    subst (λ xs. IsSwept circuit (drop k order) xs) (sym (with_items_is c.loop-place.onward new sized))
    (swept_more circuit order k g onward new _ c.signals.ensures.sound c.order-order.ensures within c.index-order-place.is before (ap (λ o. o.gates + 1) read) refl offers)
