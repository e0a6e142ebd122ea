use Rattle.std.proofs.Common.{◌∙◌, sym, ap, arith}
use Rattle.std.specs.Prelude.{option_copied}
use Rattle.std.proofs.lemmas.Grind.{common_steps}
use Rattle.blif_write.proofs.Steps.{inputs_without_clock, inputs_without_place, inputs_with_place, place_below, on_ok}
use Rattle.blif_write.proofs.push_inputs.Goals as goal

pub returns-in-None : goal.returns-in-None
returns-in-None c =
    let none = inputs_without_clock c.args.circuit.now c.requires (sym c.clock.ensures ∙ ap option_copied c.in-None.is) in
    on_ok c.push_range.result (λ written. grind (arith, common_steps)) c.push_range.ensures

pub returns-in-None-place : goal.returns-in-None-place
returns-in-None-place c =
    let none = inputs_without_place c.args.circuit.now c.in-Some.clock.now c.requires (sym c.clock.ensures ∙ ap option_copied c.in-Some.is) c.in-None-place.is in
    on_ok c.push_range-in-None-place.result (λ written. grind (arith, common_steps)) c.push_range-in-None-place.ensures

pub returns-in_ok-push_word-in-Some-place : goal.returns-in_ok-push_word-in-Some-place
returns-in_ok-push_word-in-Some-place c =
    let clock = sym c.clock.ensures ∙ ap option_copied c.in-Some.is in
    let below = place_below c.args.circuit.now c.in-Some.clock.now c.in-Some-place.place c.requires clock c.in-Some-place.is in
    let names = inputs_with_place c.args.circuit.now c.in-Some.clock.now c.in-Some-place.place c.requires clock c.in-Some-place.is below in
    on_ok c.push_range-in-Some-place-2.result (λ written. grind (arith, common_steps)) c.push_range-in-Some-place-2.ensures
