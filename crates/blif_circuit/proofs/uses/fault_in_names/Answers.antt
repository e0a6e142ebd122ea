-- Each pass finds its kind of fault where the passes before it find none.
use Rattle.std.proofs.Common.{◌∙◌, refl, sym, Option, Some, None, length, nat_lt, lt-ltb, le-ltb, ◌<◌, ◌≤◌, arith}
use Rattle.std.specs.Prelude.{option_copied}
use Rattle.std.proofs.lemmas.Bool.{cond-true, cond-false}
use Rattle.blif_unit.specs.declared.fault.BlifKind.TheVariants.{TooManySignals}
use Rattle.blif_unit.specs.Fault.{Faulty}
use Rattle.blif_circuit.proofs.SignalFaults.{fault_parts}
use Rattle.blif_circuit.proofs.uses.fault_in_names.Goals as goal

pub returns-in-Some : goal.returns-in-Some
returns-in-Some c =
    sym (fault_parts c.args.limit c.args.body.now (option_copied c.args.clock) c.args.signals.now (Some c.in-Some.line) _ _ c.requires.clock c.requires.names
    (sym c.in-Some.is ∙ c.least_undriven.ensures) refl refl)

pub returns-in-Some-first_gated : goal.returns-in-Some-first_gated
returns-in-Some-first_gated c =
    sym (fault_parts c.args.limit c.args.body.now (option_copied c.args.clock) c.args.signals.now None (Some c.in-Some-first_gated.line) _ c.requires.clock c.requires.names
    (sym c.in_default.is ∙ c.least_undriven.ensures) (sym c.in-Some-first_gated.is ∙ c.first_gated.ensures) refl)

pub returns-in-Some-least_using : goal.returns-in-Some-least_using
returns-in-Some-least_using c =
    sym (fault_parts c.args.limit c.args.body.now (option_copied c.args.clock) c.args.signals.now None None (Some c.in-Some-least_using.line) c.requires.clock c.requires.names
    (sym c.in_default.is ∙ c.least_undriven.ensures) (sym c.in_default-first_gated.is ∙ c.first_gated.ensures) (sym c.in-Some-least_using.is ∙ c.least_using.ensures))

pub returns-then-len-limit : goal.returns-then-len-limit
returns-then-len-limit c =
    let more : c.args.limit < length c.args.signals.now = omega (arith, c.len.ensures) in
    let some : Option Faulty = Some (0, TooManySignals) in
    sym (fault_parts c.args.limit c.args.body.now (option_copied c.args.clock) c.args.signals.now None None None c.requires.clock c.requires.names
    (sym c.in_default.is ∙ c.least_undriven.ensures) (sym c.in_default-first_gated.is ∙ c.first_gated.ensures) (sym c.in_default-least_using.is ∙ c.least_using.ensures)
    ∙ cond-true (nat_lt c.args.limit (length c.args.signals.now)) some None (lt-ltb c.args.limit (length c.args.signals.now) more))

pub returns : goal.returns
returns c =
    let fewer : length c.args.signals.now ≤ c.args.limit = omega (arith, c.len.ensures) in
    let some : Option Faulty = Some (0, TooManySignals) in
    sym (fault_parts c.args.limit c.args.body.now (option_copied c.args.clock) c.args.signals.now None None None c.requires.clock c.requires.names
    (sym c.in_default.is ∙ c.least_undriven.ensures) (sym c.in_default-first_gated.is ∙ c.first_gated.ensures) (sym c.in_default-least_using.is ∙ c.least_using.ensures)
    ∙ cond-false (nat_lt c.args.limit (length c.args.signals.now)) some None (le-ltb c.args.limit (length c.args.signals.now) fewer))
