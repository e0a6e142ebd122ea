use Rattle.std.proofs.Common.{ℕ, List, ◌≡◌, ◌<◌, ◌≤◌, ◌∙◌, Some, length, ap, sym, subst, arith}
use Rattle.tm_circuit.specs.Plain.{drive_of}
use Rattle.tm_circuit.specs.Sound.{ReadsBelow}
use Rattle.tm_circuit.specs.Build.{circuit_of}
use Rattle.tm_parts.specs.Parts.{HasFrame}
use Rattle.tm_parts.proofs.Growing.{first_none, keeps_frame}
use Rattle.tm_twins.specs.Twins.{twin_in}
use Rattle.tm_twins.proofs.Growing.{IsNext, one_more_signal, all_signals, reads_at}
use Rattle.tm_twins.proofs.Soundness.{refused_for_memory}
use Rattle.tm_twins.proofs.parts.joined_parts.Goals as goal

pub joined_driver-requires : goal.joined_driver-requires
joined_driver-requires c =
    subst (λ (n : ℕ). ReadsBelow n (drive_of c.driver.result.now)) (sym c.requires.sized)
    (reads_at c.args.circuit.now.drives c.loop-s.s (drive_of c.driver.result.now) c.signals-s-end.ensures.sound.range.reads c.driver.ensures.driver)

pub loop-s-init : goal.loop-s-init
loop-s-init c = record {
  frame = subst (λ (ends : List ℕ). HasFrame c.args.circuit.now ends c.in_ok-parts.parts) (c.in_ok-outputs.ensures.items ∙ c.outputs.ensures) c.in_ok-parts.ensures.frame;
  signals = first_none c.args.circuit.now c.in_ok-parts.parts c.in_ok-parts.ensures.empty;
}

pub loop-s-preserved : goal.loop-s-preserved
loop-s-preserved c =
    let sound = c.signals-s-end.ensures.sound in
    let inside : c.loop-s.s < length c.args.circuit.now.drives = omega arith in
    let next : IsNext c.args.circuit.now c.loop-s.s c.in_ok-name.name (drive_of c.driver.result.now) = record {
      inside = inside;
      named = sound.named;
      name_is = c.name.ensures ∙ ap Some (sym c.in_ok-name.ensures);
      drive_is = c.driver.ensures.driver;
      placed = sound.placed c.loop-s.s (drive_of c.driver.result.now) c.driver.ensures.driver;
    } in
    record {
      frame = keeps_frame c.args.circuit.now c.args.circuit.now.outputs c.loop-s.parts c.add_signal.new.parts c.loop-s.invariant.frame c.in_ok-add_signal.ensures.frame;
      signals = one_more_signal c.args.circuit.now (twin_in c.args.twins.now) c.loop-s.parts c.add_signal.new.parts c.loop-s.s c.in_ok-name.name (drive_of c.driver.result.now) (drive_of c.in_ok-driver.driver) next c.loop-s.invariant.signals c.in_ok-driver.ensures c.in_ok-add_signal.ensures.signal;
    }

pub returns-clause-joined : goal.returns-clause-joined
returns-clause-joined c =
    let sound = c.signals-s-end.ensures.sound in
    let all : length c.args.circuit.now.drives ≤ c.loop-s.s = omega arith in
    all_signals c.args.circuit.now (twin_in c.args.twins.now) c.loop-s.parts c.loop-s.s c.requires.twins c.loop-s.invariant.frame c.loop-s.invariant.signals all sound.named

pub returns-clause-lawful : goal.returns-clause-lawful
returns-clause-lawful c =
    let sound = c.signals-s-end.ensures.sound in
    let all : length c.args.circuit.now.drives ≤ c.loop-s.s = omega arith in
    refused_for_memory c.args.circuit.now (circuit_of c.loop-s.parts) sound
    (all_signals c.args.circuit.now (twin_in c.args.twins.now) c.loop-s.parts c.loop-s.s c.requires.twins c.loop-s.invariant.frame c.loop-s.invariant.signals all sound.named)
