-- The inputs here and on are those of this statement, and those of the statements after it.
use Rattle.std.proofs.Common.{◌≡◌, ◌∙◌, ◌+◌, ◌++◌, ap, sym, length, map, drop, position, bytes_eq, length-append, ◌<◌, arith}
use Rattle.std.specs.Prelude.{option_map}
use Rattle.blif_unit.specs.Unit.{telling_of, inputs_told, over}
use Rattle.blif_circuit.proofs.SignalLoops.{place_here, place_later, spread-drop}
use Rattle.blif_circuit.proofs.clock.clock_place.Goals as goal

pub returns-in-Some : goal.returns-in-Some
returns-in-Some c =
    let within : c.loop-stated.stated-index < length c.args.body.now = omega arith in
    let p = bytes_eq c.args.name.now in
    let a = c.inputs_in-inputs.result.now in
    let rest = over inputs_told (map telling_of (drop (c.loop-stated.stated-index + 1) c.args.body.now)) in
    let split : over inputs_told (map telling_of (drop c.loop-stated.stated-index c.args.body.now)) ≡ a ++ rest
    = spread-drop inputs_told c.args.body.now c.loop-stated.stated-index c.stated-item.result within c.stated-item.is ∙ ap (λ y. y ++ rest) (sym c.inputs_in-inputs.ensures) in
    place_here p a rest (position p (over inputs_told (map telling_of c.args.body.now))) c.loop-stated.before c.in-Some.place (sym c.in-Some.is ∙ c.place_among.ensures)
    (ap (λ y. option_map (λ n. c.loop-stated.before + n) (position p y)) (sym split) ∙ c.loop-stated.invariant.place)

pub loop-stated-preserved : goal.loop-stated-preserved
loop-stated-preserved c =
    let within : c.loop-stated.stated-index < length c.args.body.now = omega arith in
    let p = bytes_eq c.args.name.now in
    let a = c.inputs_in-inputs.result.now in
    let rest = over inputs_told (map telling_of (drop (c.loop-stated.stated-index + 1) c.args.body.now)) in
    let split : over inputs_told (map telling_of (drop c.loop-stated.stated-index c.args.body.now)) ≡ a ++ rest
    = spread-drop inputs_told c.args.body.now c.loop-stated.stated-index c.stated-item.result within c.stated-item.is ∙ ap (λ y. y ++ rest) (sym c.inputs_in-inputs.ensures) in
    record {
      place = place_later p a rest (position p (over inputs_told (map telling_of c.args.body.now))) c.loop-stated.before (sym c.in_default.is ∙ c.place_among.ensures)
          (ap (λ y. option_map (λ n. c.loop-stated.before + n) (position p y)) (sym split) ∙ c.loop-stated.invariant.place);
      count = omega (arith, ap length split, length-append a rest, c.loop-stated.invariant.count);
    }
