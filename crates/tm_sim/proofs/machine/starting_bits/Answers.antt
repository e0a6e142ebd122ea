-- A latch is a signal after the inputs.
use Rattle.std.proofs.Common.{◌≡◌, ℕ, ◌+◌, [], ◌∷◌, ◌++◌, map, refl, sym, ap, ◌∙◌, arith}
use Rattle.std.specs.List.{range_with_len}
use Rattle.std.proofs.lemmas.List.FromFn.{map-range_with_len_more}
use Rattle.tm_circuit.specs.Plain.{drive}
use Rattle.tm_sim.specs.Settled.{first_bit}
use Rattle.tm_sim.proofs.StepLemmas.{latches-inside}
use Rattle.tm_sim.proofs.machine.starting_bits.Goals as goal

pub overflow_add-first : goal.overflow_add-first
overflow_add-first c = omega (arith, latches-inside c.args.circuit.now, c.requires.few)

pub driver-requires : goal.driver-requires
driver-requires c = omega (arith, latches-inside c.args.circuit.now)

pub loop-place-preserved : goal.loop-place-preserved
loop-place-preserved c =
    let first = c.inputs-first.result in
    let place = c.loop-place.place in
    let bit = λ (s : ℕ). first_bit (drive c.args.circuit.now s) in
    let is : c.first_bit.result ≡ bit (first + place) = c.first_bit.ensures ∙ ap first_bit (sym c.driver.ensures.drive) in
    c.in_ok-push.ensures.items ∙ ap (λ bits. bits ++ c.first_bit.result ∷ []) c.loop-place.invariant
    ∙ ap (λ last. map bit (range_with_len first place) ++ last ∷ []) is
    ∙ sym (map-range_with_len_more bit first place (first + place) refl)
