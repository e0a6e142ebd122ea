-- The newest gate is finished where its pins are done, and else its next pin is opened or closes a circle.
use Rattle.std.proofs.Common.{◌++◌, ◌∷◌, [], ap, map, sym, ◌∙◌, arith}
use Rattle.std.specs.Prelude.{slice_index}
use Rattle.std.proofs.lemmas.List.{length-map}
use Rattle.tm_circuit.specs.Plain.{drive_of, greatest}
use Rattle.tm_circuit.proofs.DescentLemmas.{deepest-few, pins_at, mark_read, pin_at, fresh-left, closed_circle, finished_turn, opened_turn}
use Rattle.tm_circuit.proofs.depths.Descent.turn.Goals as goal

pub overflow_add-below : goal.overflow_add-below
overflow_add-below c =
    let few = deepest-few _ _ _ _ _ c.requires.descends c.pins-pins.result.now in
    let is = c.deepest-below.ensures ∙ ap (λ rs. greatest (map (slice_index rs) c.pins-pins.result.now)) c.deref-in-None.ensures.value in
    grind (arith, few, is, c.requires.few, length-map c.args.drivers.now drive_of)

pub returns-in-Open : goal.returns-in-Open
returns-in-Open c =
    let pins = pins_at c.args.drivers.now _ c.args.gate _ _ c.requires.descends.chain.0 c.gate.view_is c.index-drivers-gate.is c.pins-pins.ensures in
    let read = mark_read c.args.self.now.marks.items _ c.pins-pins.result.now _ c.index-pins-place.result _ _ c.deref.ensures.value c.in-Some.ensures.0 c.in-Some.ensures.2 c.index-pins-place.is c.pin.view_is c.index.ensures in
    closed_circle (map drive_of c.args.drivers.now) _ _ _ (record { gate = c.args.gate; pin = c.args.from }) _ c.index-pins-place.result c.requires.descends
    (pin_at _ c.args.gate _ _ _ pins c.in-Some.ensures.0 c.index-pins-place.is) (read.1 ∙ c.in-Open.is)

pub returns-in_ok-finish-in-None : goal.returns-in_ok-finish-in-None
returns-in_ok-finish-in-None c =
    let pins = pins_at c.args.drivers.now _ c.args.gate _ _ c.requires.descends.chain.0 c.gate.view_is c.index-drivers-gate.is c.pins-pins.ensures in
    finished_turn _ c.args.self.now c.finish.new.self (record { gate = c.args.gate; pin = c.args.from }) _ _ _ _ c.requires.descends pins c.deref.ensures.value c.deref-in-None.ensures.value
    c.in-None.ensures c.deepest-below.ensures c.in_ok-finish-in-None.ensures

pub returns-in_ok-open-in-Some : goal.returns-in_ok-open-in-Some
returns-in_ok-open-in-Some c =
    let pins = pins_at c.args.drivers.now _ c.args.gate _ _ c.requires.descends.chain.0 c.gate.view_is c.index-drivers-gate.is c.pins-pins.ensures in
    let read = mark_read c.args.self.now.marks.items _ c.pins-pins.result.now _ c.index-pins-place.result _ _ c.deref.ensures.value c.in-Some.ensures.0 c.in-Some.ensures.2 c.index-pins-place.is c.pin.view_is c.index.ensures in
    let fresh = fresh-left _ read.0 (λ open'. c.in_default.not-Open (sym read.1 ∙ open')) in
    let step = c.in_ok-open-in-Some.ensures in
    opened_turn _ c.args.self.now c.open.new.self (record { gate = c.args.gate; pin = c.args.from }) _ _ _ c.index-pins-place.result c.requires.descends pins c.deref.ensures.value
    c.in-Some.ensures.0 c.index-pins-place.is c.in-Some.ensures.1 fresh step.marks step.ranks step.order
    (step.trail ∙ ap (λ xs. xs ++ record { gate = c.index-pins-place.result; pin = 0 } ∷ []) c.in_ok-push-in-Some.ensures.items)
