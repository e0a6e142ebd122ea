-- The parts spell the circuit, each as its function says.
use Rattle.std.proofs.Common.{◌≡◌, ◌∙◌, ap, sym, subst, map, List}
use Rattle.std.specs.Prelude.{option_copied}
use Rattle.tm_circuit.specs.Build.{circuit_of}
use Rattle.blif_unit.specs.declared.unit.Stated.{Stated}
use Rattle.blif_unit.specs.Unit.{Model, telling_of, inputs_told, over}
use Rattle.blif_circuit.specs.Circuit.{IsSpelled, clock_name, names_of, inputs_of}
use Rattle.blif_circuit.specs.Signals.{unclocked}
use Rattle.blif_circuit.proofs.SignalNames.{unclocked-over}
use Rattle.blif_circuit.proofs.SignalParts.{spelled}
use Rattle.blif_circuit.proofs.parts.parts_of.Goals as goal

pub returns : goal.returns
returns c =
    let unit = c.args.unit.now in
    let told : List Stated → Model = λ b. record { name = unit.name; line = unit.line; body = map telling_of b } in
    let body = c.as_slice-body.result.now in
    let same : body ≡ unit.body.items = c.as_slice-body.ensures.value in
    let clock = option_copied c.args.clock in
    let named : clock ≡ clock_name (map telling_of body) = c.requires.clock ∙ ap (λ (b : List Stated). clock_name (map telling_of b)) (sym same) in
    let inputs : c.in_ok-inputs_of.field-0.items ≡ inputs_of (map telling_of body)
    = c.in_ok-inputs_of.ensures ∙ unclocked-over clock (map telling_of body) ∙ ap (λ k. unclocked k (over inputs_told (map telling_of body))) named in
    subst (λ (b : List Stated). IsSpelled (told b) (circuit_of (record {
      model = c.in_ok-try_clone.field-0;
      clock = c.in_ok-clock_of.field-0;
      inputs = c.in_ok-inputs_of.field-0;
      latches = c.in_ok-latches_of.field-0;
      gates = c.in_ok-gates_of.field-0;
      outputs = c.in_ok-outputs_of.field-0;
    }))) same
    (spelled (told body) (record {
      model = c.in_ok-try_clone.field-0;
      clock = c.in_ok-clock_of.field-0;
      inputs = c.in_ok-inputs_of.field-0;
      latches = c.in_ok-latches_of.field-0;
      gates = c.in_ok-gates_of.field-0;
      outputs = c.in_ok-outputs_of.field-0;
    }) c.args.signals.now c.in_ok-try_clone.ensures c.in_ok-clock_of.ensures inputs
    c.in_ok-latches_of.ensures.names c.in_ok-latches_of.ensures.drives c.in_ok-gates_of.ensures.names c.in_ok-gates_of.ensures.drives c.in_ok-outputs_of.ensures
    (c.requires.names ∙ ap (λ (b : List Stated). names_of (map telling_of b)) (sym same)))
