-- The sources of the pins so far have a step.
use Rattle.std.proofs.Common.{ℕ, ◌<◌, ◌≡◌, List, length, sym, ◌∙◌, ap, subst, arith}
use Rattle.tm_circuit.specs.Plain.{drive, drive_of, pins_of, Drive}
use Rattle.tm_circuit.specs.declared.parts.Driver.{Driver}
use Rattle.tm_labels.specs.Ways.{AreStepsOn}
use Rattle.tm_labels.proofs.WayLemmas.{pin_step}
use Rattle.tm_labels.proofs.order.find_sources.Goals as goal
use Rattle.tm_labels.proofs.order.find_sources.Goals.{in-Gate-source+in_ok-find, in_default-source}

pub loop-pin-preserved : goal.loop-pin-preserved
loop-pin-preserved c =
    let circuit = c.args.circuit.now in
    elim c.match-source.branch [
      | in-Gate-source+in_ok-find w ↦
          let pins = c.as_slice-pin-items.result.now in
          let are : pins ≡ pins_of (drive circuit c.args.gate) = c.as_slice-pin-items.ensures
          ∙ sym (ap (λ (e : Drive). pins_of e) (c.driver.ensures.drive ∙ ap (λ (x : Driver). drive_of x) c.in-Gate.is)) in
          let within : c.loop-pin.pin-index < length pins = omega (arith, c.loop-pin-test.true) in
          let step = pin_step circuit c.args.gate c.loop-pin.pin-index c.pin-item.result w.in-Gate-source.source pins c.source.result are within c.pin-item.is c.source.ensures w.in-Gate-source.is in
          subst (λ (l : List ℕ). AreStepsOn circuit l) (sym w.towards-is) (w.in_ok-find.ensures circuit c.loop-pin.invariant step)
      | in_default-source w ↦ subst (λ (l : List ℕ). AreStepsOn circuit l) (sym w.towards-is) c.loop-pin.invariant
    ]
