use Rattle.std.proofs.Common.{◌∙◌, ap, sym, subst, List, map}
use Rattle.std.proofs.lemmas.Result.{err_from_is_err_and}
use Rattle.blif_unit.specs.declared.unit.Unit.{Unit as ModelUnit}
use Rattle.blif_unit.specs.Unit.{Model, model_of, AreDistinct}
use Rattle.blif_unit.specs.Fault.{OnText}
use Rattle.blif_flat.specs.Flat.{flat_of}
use Rattle.blif_flat.specs.Hier.{IsFaultOfPlaces, IsFlatOf}
use Rattle.blif_hier.proofs.FlatFit.{IsAlone, flat_alone}
use Rattle.blif_hier.proofs.OneHierarchy.{circuit_found, excluded_all, fault_of_text, places_fault, unit_fault_found, unit_names}
use Rattle.blif_hier.proofs.read.Goals as goal

pub flat-requires-clause-distinct : goal.flat-requires-clause-distinct
flat-requires-clause-distinct c =
    subst (λ (us : List ModelUnit). AreDistinct (map (λ u. u.name) us)) (sym c.deref.ensures.value)
    (subst AreDistinct (unit_names c.in_ok-units.units.items) c.in_ok-units.ensures.fit.distinct)

pub returns-in_err-unit-clause-none : goal.returns-in_err-unit-clause-none
returns-in_err-unit-clause-none c =
    let models : List Model = map model_of c.in_ok-units.units.items in
    let fault : OnText c.in_err-unit.field-0.0 (IsFaultOfPlaces (map model_of c.in_ok-units.units.items)) =
    subst (λ (us : List ModelUnit). OnText c.in_err-unit.field-0.0 (IsFaultOfPlaces (map model_of us))) c.deref.ensures.value c.in_err-unit.ensures.fault in
    let p = err_from_is_err_and c.from_residual-in_err-unit.result c.from_residual-in_err-unit.ensures.1 in
    rw (p.1, p.2)
    (excluded_all c.in_err-unit.field-0.0 c.args.limits.now c.args.text.now
    (fault_of_text c.in_err-unit.field-0.0 c.args.limits.now c.args.text.now models c.in_ok-units.ensures.models (places_fault c.in_err-unit.field-0.0 c.args.limits.now models fault)))

pub circuit-requires-clause-fit : goal.circuit-requires-clause-fit
circuit-requires-clause-fit c =
    let made = ap flat_of (ap (λ (us : List ModelUnit). map model_of us) (sym c.deref.ensures.value)) ∙ sym c.in_ok-unit.ensures.flat.made in
    (subst (IsAlone c.args.limits.now.name) made (flat_alone c.args.limits.now.name (map model_of c.in_ok-units.units.items) c.in_ok-units.ensures.fit)).fit

pub circuit-requires-clause-alone : goal.circuit-requires-clause-alone
circuit-requires-clause-alone c =
    let made = ap flat_of (ap (λ (us : List ModelUnit). map model_of us) (sym c.deref.ensures.value)) ∙ sym c.in_ok-unit.ensures.flat.made in
    (subst (IsAlone c.args.limits.now.name) made (flat_alone c.args.limits.now.name (map model_of c.in_ok-units.units.items) c.in_ok-units.ensures.fit)).alone

pub circuit-requires-clause-own : goal.circuit-requires-clause-own
circuit-requires-clause-own c =
    let made = ap flat_of (ap (λ (us : List ModelUnit). map model_of us) (sym c.deref.ensures.value)) ∙ sym c.in_ok-unit.ensures.flat.made in
    (subst (IsAlone c.args.limits.now.name) made (flat_alone c.args.limits.now.name (map model_of c.in_ok-units.units.items) c.in_ok-units.ensures.fit)).own

pub returns-in_err-circuit-clause-fault : goal.returns-in_err-circuit-clause-fault
returns-in_err-circuit-clause-fault c =
    let models : List Model = map model_of c.in_ok-units.units.items in
    let e = c.in_err-circuit.field-0.0 in
    let flat : IsFlatOf (map model_of c.in_ok-units.units.items) (model_of c.in_ok-unit.unit) =
    subst (λ (us : List ModelUnit). IsFlatOf (map model_of us) (model_of c.in_ok-unit.unit)) c.deref.ensures.value c.in_ok-unit.ensures.flat in
    let p = err_from_is_err_and c.from_residual-in_err-circuit.result c.from_residual-in_err-circuit.ensures.1 in
    rw (p.1, p.2)
    (fault_of_text e c.args.limits.now c.args.text.now models c.in_ok-units.ensures.models (unit_fault_found e c.args.limits.now models (model_of c.in_ok-unit.unit) flat c.in_err-circuit.ensures.fault))

pub returns-in_err-circuit-clause-none : goal.returns-in_err-circuit-clause-none
returns-in_err-circuit-clause-none c =
    let models : List Model = map model_of c.in_ok-units.units.items in
    let e = c.in_err-circuit.field-0.0 in
    let flat : IsFlatOf (map model_of c.in_ok-units.units.items) (model_of c.in_ok-unit.unit) =
    subst (λ (us : List ModelUnit). IsFlatOf (map model_of us) (model_of c.in_ok-unit.unit)) c.deref.ensures.value c.in_ok-unit.ensures.flat in
    let p = err_from_is_err_and c.from_residual-in_err-circuit.result c.from_residual-in_err-circuit.ensures.1 in
    rw (p.1, p.2)
    (excluded_all e c.args.limits.now c.args.text.now
    (fault_of_text e c.args.limits.now c.args.text.now models c.in_ok-units.ensures.models (unit_fault_found e c.args.limits.now models (model_of c.in_ok-unit.unit) flat c.in_err-circuit.ensures.fault)))

pub returns-clause-trace : goal.returns-clause-trace
returns-clause-trace c =
    let flat : IsFlatOf (map model_of c.in_ok-units.units.items) (model_of c.in_ok-unit.unit) =
    subst (λ (us : List ModelUnit). IsFlatOf (map model_of us) (model_of c.in_ok-unit.unit)) c.deref.ensures.value c.in_ok-unit.ensures.flat in
    let circuit = c.in_ok-circuit.circuit in
    let found = circuit_found c.args.limits.now c.args.text.now (map model_of c.in_ok-units.units.items) (model_of c.in_ok-unit.unit) circuit
    c.in_ok-units.ensures.models flat c.in_ok-circuit.ensures.circuit in
    c.meaning.ensures c.args.limits.now c.args.text.now circuit found c.signals-signals.ensures.sound
