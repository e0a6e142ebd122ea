-- Names that are not at fault give parts that can be built, and what is built is the circuit of the statements.
use Rattle.std.proofs.Common.{◌≡◌, ◌∙◌, None, List, ap, sym, subst, map}
use Rattle.std.specs.Prelude.{Result, Ok, Err, IfOk, IfErr}
use Rattle.tm_circuit.specs.Plain.{Plain}
use Rattle.tm_circuit.specs.Build.{circuit_of}
use Rattle.tm_circuit.specs.Sound.{IsSound}
use Rattle.blif_unit.specs.declared.fault.BlifFault.{BlifFault}
use Rattle.blif_unit.specs.declared.fault.BlifFault.TheVariants.{Text, NoMemory}
use Rattle.blif_unit.specs.declared.unit.Stated.{Stated}
use Rattle.blif_unit.specs.Unit.{telling_of, model_of, AreDistinct, drivers_told, uses_told, outputs_told, over}
use Rattle.blif_unit.specs.Fault.{Faulty}
use Rattle.blif_circuit.specs.Circuit.{names_of, fault_in_names}
use Rattle.blif_unit.specs.Fault.{OnText}
use Rattle.blif_circuit.specs.Signals.{AreKnown}
use Rattle.blif_circuit.proofs.SignalNames.{names_distinct}
use Rattle.blif_circuit.proofs.SignalWhole.{settled, whole_laid, whole_circuit, whole_loop}
use Rattle.blif_circuit.proofs.signals.circuit_of.Goals as goal

ok_then : (r : Result Plain BlifFault) (P Q : Plain → Type 0) → IfOk r P → ((x : Plain) → P x → Q x) → IfOk r Q
ok_then (Ok x) P Q h f = f x h
ok_then (Err e) P Q h f = tt

err_then : (r : Result Plain BlifFault) (P Q : Faulty → Type 0) → IfErr r (λ e. OnText e P) → ((x : Faulty) → P x → Q x) → IfErr r (λ e. OnText e Q)
err_then (Ok x) P Q h f = tt
err_then (Err (Text line kind)) P Q h f = f (line, kind) h
err_then (Err NoMemory) P Q h f = tt

pub signal_names-requires-clause-distinct : goal.signal_names-requires-clause-distinct
signal_names-requires-clause-distinct c =
    names_distinct (map telling_of c.as_slice-body.result.now)
    (subst (λ (b : List Stated). AreDistinct (over drivers_told (map telling_of b))) (sym c.as_slice-body.ensures.value) c.requires.orderly.driven_once)

pub parts_of-requires-clause-few_inputs : goal.parts_of-requires-clause-few_inputs
parts_of-requires-clause-few_inputs c =
    let m = model_of c.args.unit.now in
    let limit = c.args.limits.now.signals in
    let none : fault_in_names limit m.body ≡ None = ap (λ (b : List Stated). fault_in_names limit (map telling_of b)) (sym c.as_slice-body.ensures.value) ∙ sym c.fault_in_names.ensures ∙ c.in_default.is in
    (settled limit m c.requires.orderly c.requires.signals none).few_inputs

pub parts_of-requires-clause-known : goal.parts_of-requires-clause-known
parts_of-requires-clause-known c =
    let m = model_of c.args.unit.now in
    let limit = c.args.limits.now.signals in
    let none : fault_in_names limit m.body ≡ None = ap (λ (b : List Stated). fault_in_names limit (map telling_of b)) (sym c.as_slice-body.ensures.value) ∙ sym c.fault_in_names.ensures ∙ c.in_default.is in
    let names : c.in_ok-signals.signals ≡ names_of m.body = c.in_ok-signals.ensures ∙ ap (λ (b : List Stated). names_of (map telling_of b)) c.as_slice-body.ensures.value in
    subst (λ ns. AreKnown ns (over uses_told m.body)) (sym names) (settled limit m c.requires.orderly c.requires.signals none).known

pub parts_of-requires-clause-known_outputs : goal.parts_of-requires-clause-known_outputs
parts_of-requires-clause-known_outputs c =
    let m = model_of c.args.unit.now in
    let limit = c.args.limits.now.signals in
    let none : fault_in_names limit m.body ≡ None = ap (λ (b : List Stated). fault_in_names limit (map telling_of b)) (sym c.as_slice-body.ensures.value) ∙ sym c.fault_in_names.ensures ∙ c.in_default.is in
    let names : c.in_ok-signals.signals ≡ names_of m.body = c.in_ok-signals.ensures ∙ ap (λ (b : List Stated). names_of (map telling_of b)) c.as_slice-body.ensures.value in
    subst (λ ns. AreKnown ns (over outputs_told m.body)) (sym names) (settled limit m c.requires.orderly c.requires.signals none).known_outputs

pub built-requires : goal.built-requires
built-requires c =
    let m = model_of c.args.unit.now in
    let limit = c.args.limits.now.signals in
    let none : fault_in_names limit m.body ≡ None = ap (λ (b : List Stated). fault_in_names limit (map telling_of b)) (sym c.as_slice-body.ensures.value) ∙ sym c.fault_in_names.ensures ∙ c.in_default.is in
    whole_laid limit m (circuit_of c.in_ok-parts.parts) c.requires.orderly c.requires.signals none c.in_ok-parts.ensures

pub returns-clause-circuit : goal.returns-clause-circuit
returns-clause-circuit c =
    let m = model_of c.args.unit.now in
    let limit = c.args.limits.now.signals in
    let none : fault_in_names limit m.body ≡ None = ap (λ (b : List Stated). fault_in_names limit (map telling_of b)) (sym c.as_slice-body.ensures.value) ∙ sym c.fault_in_names.ensures ∙ c.in_default.is in
    ok_then c.built.result _ _ c.built.ensures.circuit (λ x h. whole_circuit limit m x (circuit_of c.in_ok-parts.parts) none c.in_ok-parts.ensures h.0 (subst IsSound h.0 h.1))

pub returns-clause-fault : goal.returns-clause-fault
returns-clause-fault c =
    let m = model_of c.args.unit.now in
    let limit = c.args.limits.now.signals in
    let none : fault_in_names limit m.body ≡ None = ap (λ (b : List Stated). fault_in_names limit (map telling_of b)) (sym c.as_slice-body.ensures.value) ∙ sym c.fault_in_names.ensures ∙ c.in_default.is in
    err_then c.built.result _ _ c.built.ensures.fault (λ x h. whole_loop limit m (circuit_of c.in_ok-parts.parts) x none c.in_ok-parts.ensures h.0 h.1)
