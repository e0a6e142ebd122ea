use Rattle.std.proofs.Common.{sym, ◌∙◌, ap}
use Rattle.tm_circuit.specs.Plain.{drive_of}
use Rattle.std.proofs.lemmas.Bool.{both_ways}
use Rattle.cert_check.proofs.AgreeLemmas.{gate_agrees, gate_differs}
use Rattle.cert_check.proofs.agreement.is_gate_like.Goals as goal

pub returns-then-are_same_signals : goal.returns-then-are_same_signals
returns-then-are_same_signals c =
    gate_agrees c.args.pins.now c.in-Gate.own_pins.items c.args.cover.now c.in-Gate.own_cover (drive_of c.args.driver.now) c.have_same_values.result (ap drive_of c.in-Gate.is)
    (c.are_same_signals.ensures.0 c.if-are_same_signals.true ∙ c.as_slice.ensures) c.have_same_values.ensures

pub returns-else-are_same_signals : goal.returns-else-are_same_signals
returns-else-are_same_signals c =
    gate_differs c.args.pins.now c.in-Gate.own_pins.items c.args.cover.now c.in-Gate.own_cover (drive_of c.args.driver.now) c.are_same_signals.result (ap drive_of c.in-Gate.is)
    (λ same. both_ways _ c.if-are_same_signals.false (c.are_same_signals.ensures.1 (same ∙ sym c.as_slice.ensures))) c.if-are_same_signals.false
