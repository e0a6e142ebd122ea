use Rattle.std.proofs.Common.{◌≡◌, ◌<◌, ◌≤◌, ℕ, length, map, Some, List, sym, ◌∙◌, ap, subst, arith}
use Rattle.std.specs.Prelude.{slice_index}
use Rattle.std.proofs.lemmas.List.Elements.{All-get_or}
use Rattle.std.proofs.lemmas.Option.{get_or_from_slice_get}
use Rattle.tm_circuit.specs.Plain.{Drive, drive_of}
use Rattle.tm_circuit.specs.Sound.{ReadsBelow}
use Rattle.tm_split.specs.Subject.{first_number}
use Rattle.tm_parts.specs.Parts.{HasFrame}
use Rattle.tm_parts.proofs.Growing.{first_none, keeps_frame}
use Rattle.tm_split.proofs.Numbers.{length-subject_of}
use Rattle.tm_split.proofs.Growing.{IsNext, is_next, own_fits, one_more_signal, all_signals}
use Rattle.tm_split.proofs.parts.split_parts.Goals as goal

pub loop-s-init : goal.loop-s-init
loop-s-init c =
    let ends : c.in_ok-outputs.outputs.items ≡ map (slice_index c.args.plan.now.numbers.items) c.args.circuit.now.outputs =
    c.in_ok-outputs.ensures ∙ (ap (λ ns. map (slice_index ns) c.outputs.result.now) c.deref.ensures.value ∙ ap (λ os. map (slice_index c.args.plan.now.numbers.items) os) c.outputs.ensures) in
    record {
      frame = subst (λ (os : List ℕ). HasFrame c.args.circuit.now os c.in_ok-parts.parts) ends c.in_ok-parts.ensures.frame;
      signals = first_none c.args.circuit.now c.in_ok-parts.parts c.in_ok-parts.ensures.empty;
    }

pub add_place-requires-clause-own : goal.add_place-requires-clause-own
add_place-requires-clause-own c =
    let few : first_number c.args.plan.now.most c.args.circuit.now.drives (length c.args.circuit.now.drives) ≤ 100000 = subst (λ (n : ℕ). n ≤ 100000) (length-subject_of c.args.plan.now.most c.args.circuit.now) c.requires.few in
    let own : c.number-own.result ≡ slice_index c.args.plan.now.numbers.items c.loop-s.s = c.number-own.ensures ∙ ap (λ ns. slice_index ns c.loop-s.s) c.deref-in-loop-s.ensures.value in
    (own_fits c.args.plan.now.most c.args.circuit.now.drives c.loop-s.s (drive_of c.driver.result.now) c.args.plan.now.numbers.items c.number-own.result c.requires.numbers c.driver.ensures.driver own few).0

pub add_place-requires-clause-few : goal.add_place-requires-clause-few
add_place-requires-clause-few c =
    let few : first_number c.args.plan.now.most c.args.circuit.now.drives (length c.args.circuit.now.drives) ≤ 100000 = subst (λ (n : ℕ). n ≤ 100000) (length-subject_of c.args.plan.now.most c.args.circuit.now) c.requires.few in
    let own : c.number-own.result ≡ slice_index c.args.plan.now.numbers.items c.loop-s.s = c.number-own.ensures ∙ ap (λ ns. slice_index ns c.loop-s.s) c.deref-in-loop-s.ensures.value in
    (own_fits c.args.plan.now.most c.args.circuit.now.drives c.loop-s.s (drive_of c.driver.result.now) c.args.plan.now.numbers.items c.number-own.result c.requires.numbers c.driver.ensures.driver own few).1

pub loop-s-preserved : goal.loop-s-preserved
loop-s-preserved c =
    let sound = c.signals-count.ensures.sound in
    let inside : c.loop-s.s < length c.args.circuit.now.drives = omega arith in
    let own : c.number-own.result ≡ slice_index c.args.plan.now.numbers.items c.loop-s.s = c.number-own.ensures ∙ ap (λ ns. slice_index ns c.loop-s.s) c.deref-in-loop-s.ensures.value in
    let here = get_or_from_slice_get c.args.circuit.now.drives c.loop-s.s (drive_of c.driver.result.now) (drive_of c.driver.result.now) c.driver.ensures.driver in
    let reads : ReadsBelow (length c.args.circuit.now.drives) (drive_of c.driver.result.now) = subst (λ (e : Drive). ReadsBelow (length c.args.circuit.now.drives) e) here (All-get_or (ReadsBelow (length c.args.circuit.now.drives)) c.args.circuit.now.drives c.loop-s.s (drive_of c.driver.result.now) inside sound.range.reads) in
    let next : IsNext c.args.plan.now.most c.args.circuit.now c.loop-s.s c.in_ok-name.name (drive_of c.driver.result.now) c.args.plan.now.joiner.items c.args.plan.now.numbers.items c.number-own.result =
    is_next c.args.plan.now.most c.args.circuit.now c.loop-s.s c.in_ok-name.name (drive_of c.driver.result.now) c.args.plan.now.joiner.items c.args.plan.now.numbers.items c.number-own.result c.requires.numbers c.requires.joiner (c.name.ensures ∙ ap Some (sym c.in_ok-name.ensures)) c.driver.ensures.driver (sound.placed c.loop-s.s (drive_of c.driver.result.now) c.driver.ensures.driver) reads own in
    record {
      frame = keeps_frame c.args.circuit.now (map (slice_index c.args.plan.now.numbers.items) c.args.circuit.now.outputs) c.loop-s.parts c.add_place.new.parts c.loop-s.invariant.frame c.in_ok-add_place.ensures.frame;
      signals = one_more_signal c.args.plan.now.most c.args.circuit.now c.loop-s.parts c.add_place.new.parts c.loop-s.s c.in_ok-name.name (drive_of c.driver.result.now) c.args.plan.now.joiner.items c.args.plan.now.numbers.items c.number-own.result next c.loop-s.invariant.signals c.in_ok-add_place.ensures.place;
    }

pub returns : goal.returns
returns c =
    let sound = c.signals-count.ensures.sound in
    let all : length c.args.circuit.now.drives ≤ c.loop-s.s = omega arith in
    all_signals c.args.plan.now.most c.args.circuit.now c.loop-s.parts c.loop-s.s c.args.plan.now.numbers.items c.requires.numbers c.loop-s.invariant.frame c.loop-s.invariant.signals all sound.range.outputs
