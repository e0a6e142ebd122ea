use Rattle.std.proofs.Common.{◌≡◌, ◌∙◌, ap, sym, [], List, map, None}
use Rattle.std.proofs.lemmas.Result.{IfErr-weaker}
use Rattle.tm_circuit.specs.Plain.{Plain}
use Rattle.blif_unit.specs.declared.unit.Stated.{Stated}
use Rattle.blif_circuit.specs.Circuit.{IsFaultOfModel}
use Rattle.blif_read.specs.Fault.{OnText}
use Rattle.blif_read.specs.Unit.{model_of, telling_of}
use Rattle.blif_read.specs.Whole.{fault_in_statements, IsCircuitOfUnit}
use Rattle.blif_read.proofs.OneUnit.{unit_excluded_all}
use Rattle.blif_read.proofs.WholeLemmas.{whole_orderly, unit_faulty}
use Rattle.blif_read.proofs.whole.circuit.Goals as goal

pub circuit_of-requires-clause-orderly : goal.circuit_of-requires-clause-orderly
circuit_of-requires-clause-orderly c =
    let lawful : fault_in_statements c.args.limits.now.name [] (model_of c.args.unit.now).body ≡ None
    = ap (λ (body : List Stated). fault_in_statements c.args.limits.now.name [] (map telling_of body)) (sym c.as_slice.ensures.value)
    ∙ c.in_ok-test_statements.ensures.lawful in
    whole_orderly c.args.limits.now.name (model_of c.args.unit.now) c.requires.name c.requires.fit c.requires.alone c.requires.own lawful

pub returns-clause-none : goal.returns-clause-none
returns-clause-none c =
    let m = model_of c.args.unit.now in
    let lawful : fault_in_statements c.args.limits.now.name [] m.body ≡ None
    = ap (λ (body : List Stated). fault_in_statements c.args.limits.now.name [] (map telling_of body)) (sym c.as_slice.ensures.value)
    ∙ c.in_ok-test_statements.ensures.lawful in
    IfErr-weaker c.circuit_of.result (λ e. OnText e (IsFaultOfModel c.args.limits.now.signals m))
    (λ e. OnText e (λ _. (p : Plain) → ¬ IsCircuitOfUnit c.args.limits.now m p))
    (λ e h. unit_excluded_all e c.args.limits.now m (unit_faulty e c.args.limits.now m lawful h)) c.circuit_of.ensures.fault
