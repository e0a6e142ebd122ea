use Rattle.std.proofs.Common.{ℕ, List, ◌<◌, ◌≤◌, ◌∙◌, Some, length, ap, sym, subst, arith}
use Rattle.tm_circuit.specs.Plain.{drive_of, pins_of, widest}
use Rattle.tm_circuit.specs.Sound.{FitsPins}
use Rattle.tm_circuit.specs.Build.{circuit_of}
use Rattle.tm_parts.specs.Parts.{HasFrame}
use Rattle.tm_parts.proofs.Growing.{keeps_frame}
use Rattle.tm_prime.proofs.Growing.{IsNext, none_primed, one_more_primed, all_primed, drive_has, pins_few}
use Rattle.tm_prime.proofs.Soundness.{refused_for_memory}
use Rattle.tm_prime.proofs.covers.primed_parts.Goals as goal

pub primed_driver-requires-clause-few : goal.primed_driver-requires-clause-few
primed_driver-requires-clause-few c =
    let narrow : length (pins_of (drive_of c.driver.result.now)) ≤ widest c.args.circuit.now.drives =
    pins_few c.args.circuit.now.drives c.loop-s.s (drive_of c.driver.result.now) c.driver.ensures.driver in
    omega arith

pub primed_driver-requires-clause-fits : goal.primed_driver-requires-clause-fits
primed_driver-requires-clause-fits c =
    let sound = c.signals-s-end.ensures.sound in
    let inside : c.loop-s.s < length c.args.circuit.now.drives = omega arith in
    drive_has FitsPins c.args.circuit.now.drives c.loop-s.s (drive_of c.driver.result.now) sound.range.pins inside c.driver.ensures.driver

pub loop-s-init : goal.loop-s-init
loop-s-init c = record {
  frame = subst (λ (ends : List ℕ). HasFrame c.args.circuit.now ends c.in_ok-parts.parts) (c.in_ok-outputs.ensures.items ∙ c.outputs.ensures) c.in_ok-parts.ensures.frame;
  signals = none_primed c.args.circuit.now c.in_ok-parts.parts c.in_ok-parts.ensures.empty;
}

pub loop-s-preserved : goal.loop-s-preserved
loop-s-preserved c =
    let sound = c.signals-s-end.ensures.sound in
    let inside : c.loop-s.s < length c.args.circuit.now.drives = omega arith in
    let next : IsNext c.args.circuit.now c.loop-s.s c.in_ok-name.name (drive_of c.driver.result.now) = record {
      inside = inside;
      named = sound.named;
      name_is = c.name.ensures ∙ ap Some (sym c.in_ok-name.ensures);
      drive_is = c.driver.ensures.driver;
      placed = sound.placed c.loop-s.s (drive_of c.driver.result.now) c.driver.ensures.driver;
    } in
    record {
      frame = keeps_frame c.args.circuit.now c.args.circuit.now.outputs c.loop-s.parts c.add_signal.new.parts c.loop-s.invariant.frame c.in_ok-add_signal.ensures.frame;
      signals = one_more_primed c.args.circuit.now c.loop-s.parts c.add_signal.new.parts c.loop-s.s c.in_ok-name.name (drive_of c.driver.result.now) (drive_of c.in_ok-driver.driver) next c.loop-s.invariant.signals c.in_ok-driver.ensures c.in_ok-add_signal.ensures.signal;
    }

pub returns-clause-primed : goal.returns-clause-primed
returns-clause-primed c =
    let sound = c.signals-s-end.ensures.sound in
    let all : length c.args.circuit.now.drives ≤ c.loop-s.s = omega arith in
    all_primed c.args.circuit.now c.loop-s.parts c.loop-s.s c.loop-s.invariant.frame c.loop-s.invariant.signals all sound.named

pub returns-clause-lawful : goal.returns-clause-lawful
returns-clause-lawful c =
    let sound = c.signals-s-end.ensures.sound in
    let all : length c.args.circuit.now.drives ≤ c.loop-s.s = omega arith in
    refused_for_memory c.args.circuit.now (circuit_of c.loop-s.parts) sound
    (all_primed c.args.circuit.now c.loop-s.parts c.loop-s.s c.loop-s.invariant.frame c.loop-s.invariant.signals all sound.named)
