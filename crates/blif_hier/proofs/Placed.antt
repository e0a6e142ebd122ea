-- Where nothing is at fault where models are placed: each placed model is there, and its formals are bound once.
use Rattle.std.proofs.Common.{◌≡◌, inl, inr, ℕ, Bool, true, false, cond, not, List, [], ◌∷◌, ◌++◌, Option, None, Some, map, flat_map, filter_map, slice_get, refl, sym, ◌∙◌, ap, subst, bytes_eq}
use Rattle.std.specs.Prelude.{Contains}
use Rattle.std.specs.List.{list_any, list_all, AllByRecursion}
use Rattle.std.proofs.lemmas.Slice.Eq.{bytes_eq-Decides}
use Rattle.std.proofs.lemmas.List.Elements.{filter_map-append}
use Rattle.tm_circuit.proofs.ListLemmas.{contains-cases, contains-none}
use Rattle.blif_unit.specs.declared.unit.Binding.{Binding}
use Rattle.blif_unit.specs.declared.fault.BlifKind.{BlifKind}
use Rattle.blif_unit.specs.declared.fault.BlifKind.TheVariants.{NoModel, UnknownFormal, RepeatedFormal}
use Rattle.blif_unit.specs.Fault.{Faulty}
use Rattle.blif_unit.specs.Unit.{Told, Telling, Model, AreDistinct, repeats}
use Rattle.blif_models.proofs.OrderlyLemmas.{no_fault, or_left_false, or_right_false, distinct_all}
use Rattle.blif_models.proofs.UnitLemmas.{mapped_none}
use Rattle.blif_flat.specs.Places.{model_named, formals_of, is_among, fault_in_binding, fault_in_told, fault_in_telling, faults_in_places}
use Rattle.blif_flat.specs.Flat.{name_within, bound_by}
use Rattle.blif_hier.specs.Nested.{Placing}
use Rattle.blif_hier.proofs.Instances.{Instance, leads, over_placings, placing_stands}
use Rattle.blif_hier.proofs.Lists.{filter_none_at}
use Rattle.blif_hier.proofs.Reaching.{step_of, first_step}
use Rattle.blif_hier.proofs.ShortRuns.{found_has}

-- ---- models and instances

-- What holds of each model holds of that of each instance.
pub instance_has : (P : Model → Type 0) (models : List Model) (joiner : List ℕ) (i : Instance) (path : List ℕ) (j : Instance) → AllByRecursion P models → P i.model
    → leads models joiner i path ≡ Some j → P j.model
instance_has P models joiner i [] j all here reached = let same : i ≡ j = cc in subst (λ (x : Instance). P x.model) same here
instance_has P models joiner i (k ∷ path) j all here reached =
    let first = first_step models joiner i k path j reached in
    let step = step_of models joiner i k first.0 first.1 in
    instance_has P models joiner first.0 path j all (subst (λ (x : Instance). P x.model) (sym step.is) (found_has P models step.placing.model step.model all step.found)) first.2

no_parts : {Y : Type 0} (xs ys : List Y) → xs ++ ys ≡ [] → (xs ≡ []) × (ys ≡ [])
no_parts [] ys h = (refl, h)
no_parts (x ∷ xs) ys h = cc

each_faultless : (f : Telling → Option Faulty) (models : List Model) → filter_map f (flat_map (λ m. m.body) models) ≡ [] → AllByRecursion (λ m. filter_map f m.body ≡ []) models
each_faultless f [] none = tt
each_faultless f (m ∷ models) none =
    let both = no_parts (filter_map f m.body) (filter_map f (flat_map (λ (x : Model). x.body) models)) (sym (filter_map-append f m.body (flat_map (λ (x : Model). x.body) models)) ∙ none) in
    (both.0, each_faultless f models both.1)

-- In no model a place is at fault.
pub all_faultless : (models : List Model) → faults_in_places models ≡ [] → AllByRecursion (λ m. filter_map (fault_in_telling models) m.body ≡ []) models
all_faultless models none = each_faultless (fault_in_telling models) models none

-- A place of such a model is not at fault.
pub placing_lawful : (models : List Model) (body : List Telling) (idx : ℕ) (p : Placing) → filter_map (fault_in_telling models) body ≡ []
    → slice_get (over_placings body) idx ≡ Some p → fault_in_binding (model_named models p.model) p.bindings ≡ None
placing_lawful models body idx p none at =
    let found = placing_stands body idx p at in
    let lawful : fault_in_told models found.0.what ≡ None =
    mapped_none (λ kind. (found.0.line, kind)) (fault_in_told models found.0.what) (filter_none_at (fault_in_telling models) body found.0 none found.1) in
    subst (λ (w : Told). fault_in_told models w ≡ None) found.2 lawful

-- ---- bindings

-- A lawful binding places a model, and no formal is bound twice.
pub binding_lawful : (o : Option Model) (bindings : List Binding) → fault_in_binding o bindings ≡ None
    → ((m : Model) × (o ≡ Some m)) × AreDistinct (map (λ b. b.formal) bindings)
binding_lawful None bindings none = let e : ◌≡◌ {A = Option BlifKind} (Some NoModel) None = none in cc
binding_lawful (Some m) bindings none =
    let a = no_fault (not (list_all (is_among (formals_of m)) (map (λ (b : Binding). b.formal) bindings))) UnknownFormal _ none in
    let b = no_fault (repeats [] (map (λ (b : Binding). b.formal) bindings)) RepeatedFormal _ a.1 in
    ((m, refl), distinct_all [] (map (λ (b : Binding). b.formal) bindings) tt b.0)

-- a name that differs from all others
apart : (n : List ℕ) (bindings : List Binding) (b : Binding) → list_any (bytes_eq n) (map (λ x. x.formal) bindings) ≡ false → Contains bindings b → bytes_eq b.formal n ≡ false
apart n [] b none there = absurd (contains-none b there)
apart n (x ∷ bindings) b none there =
    elim (contains-cases x bindings b there) [
      | inl same ↦ flip (bytes_eq b.formal n) refl
          (subst (λ (y : Binding). bytes_eq n y.formal ≡ false) same (or_left_false (bytes_eq n x.formal) (list_any (bytes_eq n) (map (λ (y : Binding). y.formal) bindings)) none))
      | inr rest ↦ apart n bindings b (or_right_false (bytes_eq n x.formal) (list_any (bytes_eq n) (map (λ (y : Binding). y.formal) bindings)) none) rest
    ]
  where
    flip : (t : Bool) → bytes_eq b.formal n ≡ t → bytes_eq n b.formal ≡ false → bytes_eq b.formal n ≡ false
    flip false is other = is
    flip true is other =
        let same : b.formal ≡ n = (bytes_eq-Decides b.formal n).0 is in
        let yes : bytes_eq n b.formal ≡ true = (bytes_eq-Decides n b.formal).1 (sym same) in
        let bad : true ≡ false = sym yes ∙ other in cc

-- A formal becomes what its actual becomes.
pub bound_name : (rename : List ℕ → List ℕ) (suffix : List ℕ) (bindings : List Binding) (b : Binding) → AreDistinct (map (λ x. x.formal) bindings) → Contains bindings b
    → name_within suffix (bound_by rename bindings) b.formal ≡ rename b.actual
bound_name rename suffix [] b distinct there = absurd (contains-none b there)
bound_name rename suffix (x ∷ bindings) b distinct there =
    elim (contains-cases x bindings b there) [
      | inl same ↦
          let formal : x.formal ≡ b.formal = ap (λ (y : Binding). y.formal) same in
          let yes : bytes_eq b.formal x.formal ≡ true = (bytes_eq-Decides b.formal x.formal).1 (sym formal) in
          ap (λ (t : Bool). cond t (rename x.actual) (name_within suffix (bound_by rename bindings) b.formal)) yes ∙ ap (λ (y : Binding). rename y.actual) same
      | inr rest ↦
          ap (λ (t : Bool). cond t (rename x.actual) (name_within suffix (bound_by rename bindings) b.formal)) (apart x.formal bindings b distinct.0 rest)
          ∙ bound_name rename suffix bindings b distinct.1 rest
    ]
