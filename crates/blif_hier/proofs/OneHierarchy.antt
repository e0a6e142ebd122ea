-- A text with one or several models has at most one circuit, at most one first fault, and never both.
use Rattle.std.proofs.Common.{◌≡◌, ◌≢◌, ◌⊎◌, inl, inr, ℕ, Bool, true, false, List, [], ◌∷◌, Option, None, Some, Result, Ok, Err, map, slice_get, refl, sym, ◌∙◌, ap, subst, MatchResult, IsOkAnd}
use Rattle.tm_circuit.specs.Plain.{Plain}
use Rattle.blif_lex.specs.Words.{Line, words_of}
use Rattle.blif_lex.specs.declared.fault.LexFault.{LexFault}
use Rattle.blif_lex.specs.declared.fault.LexFault.TheVariants as lex
use Rattle.blif_unit.specs.declared.limits.Limits.{Limits}
use Rattle.blif_unit.specs.declared.fault.BlifFault.{BlifFault}
use Rattle.blif_unit.specs.declared.fault.BlifFault.TheVariants.{Text, NoMemory}
use Rattle.blif_unit.specs.declared.fault.BlifKind.TheVariants.{Recursion, TooDeep, TooLarge}
use Rattle.blif_unit.specs.Fault.{Faulty, OnText, IsLexed, kind_of}
use Rattle.blif_unit.specs.declared.unit.Unit.{Unit as ModelUnit}
use Rattle.blif_unit.specs.Unit.{Model, model_of, AreDistinct}
use Rattle.blif_models.specs.Several.{fault_of_models, models_in, AreModelsOf, AreModelsOfLines, IsFaultOfModels}
use Rattle.blif_models.proofs.FitLemmas.{models_fit}
use Rattle.blif_flat.specs.Places.{faults_in_places, HasRecursion}
use Rattle.blif_flat.specs.Flat.{flat_of, is_too_deep, is_too_large}
use Rattle.blif_flat.specs.Hier.{IsFaultOfTree, recursive, too_deep, too_large, IsFaultOfPlaces, IsFlatOf}
use Rattle.blif_read.specs.Whole.{IsCircuitOfUnit, IsFaultOfUnit}
use Rattle.blif_read.proofs.OneUnit.{unit_circuit, unit_fault, unit_excluded, unit_decided}
use Rattle.blif_read.proofs.SomeCircuit.{lexed_fault, option_fault, words_named}
use Rattle.blif_hier.proofs.Recursion.{recursion_decided}
use Rattle.blif_hier.specs.Text.{IsCircuitOfModels, IsFaultOfHierarchy, in_places, in_flat, IsCircuitOfLines, IsFaultOfLines, IsCircuitOf, IsFaultOf}

-- ---- the third pass

tree_excluded : (models : List Model) (fault : Faulty) → IsFlatOf models (flat_of models) → IsFaultOfTree models fault → ⊥
tree_excluded models fault flat (recursive is circle) = flat.ends circle
tree_excluded models fault flat (too_deep is none deep) = let e : false ≡ true = sym flat.shallow ∙ deep in cc
tree_excluded models fault flat (too_large is none shallow large) = let e : false ≡ true = sym flat.small ∙ large in cc

-- Models with a flat unit have no fault where they are placed.
pub places_excluded : (models : List Model) (fault : Faulty) → IsFlatOf models (flat_of models) → IsFaultOfPlaces models fault → ⊥
places_excluded models fault flat h =
    tree_excluded models fault flat
    (let none : slice_get (faults_in_places models) 0 ≡ None = ap (λ (fs : List Faulty). slice_get fs 0) flat.placed in rw none at h)

tree_fault : (models : List Model) (f g : Faulty) → IsFaultOfTree models f → IsFaultOfTree models g → f ≡ g
tree_fault models f g (recursive is circle) (recursive is' circle') = is ∙ sym is'
tree_fault models f g (recursive is circle) (too_deep is' none deep) = absurd (none circle)
tree_fault models f g (recursive is circle) (too_large is' none shallow large) = absurd (none circle)
tree_fault models f g (too_deep is none deep) (recursive is' circle) = absurd (none circle)
tree_fault models f g (too_deep is none deep) (too_deep is' none' deep') = is ∙ sym is'
tree_fault models f g (too_deep is none deep) (too_large is' none' shallow large) = absurd (let e : false ≡ true = sym shallow ∙ deep in cc)
tree_fault models f g (too_large is none shallow large) (recursive is' circle) = absurd (none circle)
tree_fault models f g (too_large is none shallow large) (too_deep is' none' deep) = absurd (let e : false ≡ true = sym shallow ∙ deep in cc)
tree_fault models f g (too_large is none shallow large) (too_large is' none' shallow' large') = is ∙ sym is'

-- ---- models

-- Models with a fault have no circuit.
pub hierarchy_excluded : (limits : Limits) (models : List Model) (f : Faulty) (c : Plain) → IsFaultOfHierarchy limits models f → IsCircuitOfModels limits models c → ⊥
hierarchy_excluded limits models f c (in_places h) ic = places_excluded models f ic.placed h
hierarchy_excluded limits models f c (in_flat flat h) ic = unit_excluded limits (flat_of models) f c h ic.circuit

hierarchy_fault : (limits : Limits) (models : List Model) (f g : Faulty) → IsFaultOfHierarchy limits models f → IsFaultOfHierarchy limits models g → f ≡ g
hierarchy_fault limits models f g (in_places h) (in_places k) =
    option_fault (slice_get (faults_in_places models) 0) (IsFaultOfTree models) f g (tree_fault models f g) h k
hierarchy_fault limits models f g (in_places h) (in_flat flat k) = absurd (places_excluded models f flat h)
hierarchy_fault limits models f g (in_flat flat h) (in_places k) = absurd (places_excluded models g flat k)
hierarchy_fault limits models f g (in_flat flat h) (in_flat flat' k) = unit_fault limits (flat_of models) f g h k

-- ---- texts

abbrev Words : Type 0
Words = Result (List Line) LexFault

circuit_by : (limits : Limits) (r : Words) (c d : Plain) → IsOkAnd r (λ lines. IsCircuitOfLines limits lines c) → IsOkAnd r (λ lines. IsCircuitOfLines limits lines d) → c ≡ d
circuit_by limits (Ok lines) c d p q = unit_circuit limits (flat_of (models_in lines)) c d p.circuit.circuit q.circuit.circuit
circuit_by limits (Err e) c d p q = absurd p

-- A text has at most one circuit.
pub same_circuit : (limits : Limits) (text : List ℕ) (c d : Plain) → IsCircuitOf limits text c → IsCircuitOf limits text d → c ≡ d
same_circuit limits text c d p q = circuit_by limits (words_of limits.name true text) c d p q

lines_fault : (limits : Limits) (lines : List Line) (f g : Faulty) → IsFaultOfLines limits lines f → IsFaultOfLines limits lines g → f ≡ g
lines_fault limits lines f g =
    option_fault (fault_of_models lines) (IsFaultOfHierarchy limits (models_in lines)) f g (hierarchy_fault limits (models_in lines) f g)

fault_by : (limits : Limits) (r : Words) (f g : Faulty) → MatchResult r (λ lines. IsFaultOfLines limits lines f) (λ first. IsLexed first f)
    → MatchResult r (λ lines. IsFaultOfLines limits lines g) (λ first. IsLexed first g) → f ≡ g
fault_by limits (Ok lines) f g p q = lines_fault limits lines f g p q
fault_by limits (Err e) f g p q = lexed_fault e f g p q

-- A text has at most one first fault.
pub same_fault : (limits : Limits) (text : List ℕ) (f g : Faulty) → IsFaultOf limits text f → IsFaultOf limits text g → f ≡ g
same_fault limits text f g p q = fault_by limits (words_of limits.name true text) f g p q

lines_excluded : (limits : Limits) (lines : List Line) (f : Faulty) (c : Plain) → IsFaultOfLines limits lines f → IsCircuitOfLines limits lines c → ⊥
lines_excluded limits lines f c p q = hierarchy_excluded limits (models_in lines) f c (let lawful = q.lawful in rw lawful at p) q.circuit

excluded_by : (limits : Limits) (r : Words) (f : Faulty) (c : Plain) → MatchResult r (λ lines. IsFaultOfLines limits lines f) (λ first. IsLexed first f)
    → IsOkAnd r (λ lines. IsCircuitOfLines limits lines c) → ⊥
excluded_by limits (Ok lines) f c p q = lines_excluded limits lines f c p q
excluded_by limits (Err e) f c p q = q

-- A text with a fault has no circuit.
pub excluded : (limits : Limits) (text : List ℕ) (f : Faulty) (c : Plain) → IsFaultOf limits text f → ¬ IsCircuitOf limits text c
excluded limits text f c p q = excluded_by limits (words_of limits.name true text) f c p q

pub excluded_all : (e : BlifFault) (limits : Limits) (text : List ℕ) → OnText e (IsFaultOf limits text)
    → OnText e (λ _. (c : Plain) → ¬ IsCircuitOf limits text c)
excluded_all (Text line kind) limits text h = λ c. excluded limits text (line, kind) c h
excluded_all NoMemory limits text h = tt

-- ---- what the passes find

pub unit_names : (us : List ModelUnit) → map (λ (m : Model). m.name) (map model_of us) ≡ map (λ (u : ModelUnit). u.name) us
unit_names [] = refl
unit_names (u ∷ us) = ap (λ ns. u.name ∷ ns) (unit_names us)

models_by : (limits : Limits) (r : Words) (models : List Model) (f : Faulty) → IsOkAnd r (λ lines. AreModelsOfLines lines models)
    → IsFaultOfHierarchy limits models f → MatchResult r (λ lines. IsFaultOfLines limits lines f) (λ first. IsLexed first f)
models_by limits (Ok lines) models f are h =
    let lawful = are.lawful in rw lawful (subst (λ (ms : List Model). IsFaultOfHierarchy limits ms f) are.all h)
models_by limits (Err e) models f are h = absurd are

-- A fault of the models of a text is the text's.
pub fault_of_text : (e : BlifFault) (limits : Limits) (text : List ℕ) (models : List Model) → AreModelsOf limits text models
    → OnText e (IsFaultOfHierarchy limits models) → OnText e (IsFaultOf limits text)
fault_of_text (Text line kind) limits text models are h = models_by limits (words_of limits.name true text) models (line, kind) are h
fault_of_text NoMemory limits text models are h = tt

first_by : (limits : Limits) (r : Words) (f : Faulty) → MatchResult r (λ lines. fault_of_models lines ≡ Some f) (λ first. IsLexed first f)
    → MatchResult r (λ lines. IsFaultOfLines limits lines f) (λ first. IsLexed first f)
first_by limits (Ok lines) f h = rw h refl
first_by limits (Err e) f h = h

-- A fault of the first two passes is the text's.
pub first_fault : (e : BlifFault) (limits : Limits) (text : List ℕ) → OnText e (IsFaultOfModels limits text) → OnText e (IsFaultOf limits text)
first_fault (Text line kind) limits text h = first_by limits (words_of limits.name true text) (line, kind) h
first_fault NoMemory limits text h = tt

pub places_fault : (e : BlifFault) (limits : Limits) (models : List Model) → OnText e (IsFaultOfPlaces models) → OnText e (IsFaultOfHierarchy limits models)
places_fault (Text line kind) limits models h = in_places h
places_fault NoMemory limits models h = tt

pub flat_again : (models : List Model) (flat : Model) → IsFlatOf models flat → IsFlatOf models (flat_of models)
flat_again models flat is = record { placed = is.placed; ends = is.ends; shallow = is.shallow; small = is.small; made = refl }

pub unit_fault_found : (e : BlifFault) (limits : Limits) (models : List Model) (flat : Model) → IsFlatOf models flat → OnText e (IsFaultOfUnit limits flat)
    → OnText e (IsFaultOfHierarchy limits models)
unit_fault_found (Text line kind) limits models flat is h =
    let made : flat ≡ flat_of models = is.made in
    in_flat (flat_again models flat is) (subst (λ (m : Model). IsFaultOfUnit limits m (line, kind)) made h)
unit_fault_found NoMemory limits models flat is h = tt

circuit_found_by : (limits : Limits) (r : Words) (models : List Model) (c : Plain) → IsOkAnd r (λ lines. AreModelsOfLines lines models)
    → IsCircuitOfModels limits models c → IsOkAnd r (λ lines. IsCircuitOfLines limits lines c)
circuit_found_by limits (Ok lines) models c are ic =
    record { lawful = are.lawful; circuit = subst (λ (ms : List Model). IsCircuitOfModels limits ms c) are.all ic }
circuit_found_by limits (Err e) models c are ic = absurd are

-- The circuit of the models of a text is the text's.
pub circuit_found : (limits : Limits) (text : List ℕ) (models : List Model) (flat : Model) (c : Plain) → AreModelsOf limits text models → IsFlatOf models flat
    → IsCircuitOfUnit limits flat c → IsCircuitOf limits text c
circuit_found limits text models flat c are is ic =
    circuit_found_by limits (words_of limits.name true text) models c are
    (record { placed = flat_again models flat is; circuit = subst (λ (m : Model). IsCircuitOfUnit limits m c) is.made ic })

-- ---- a circuit or a fault

flat_decided : (limits : Limits) (models : List Model) → IsFlatOf models (flat_of models) → ((c : Plain) × IsCircuitOfModels limits models c) ⊎ ((f : Faulty) × IsFaultOfHierarchy limits models f)
flat_decided limits models is =
    elim (unit_decided limits (flat_of models)) [
      | inl circuit ↦ inl (circuit.0, record { placed = is; circuit = circuit.1 })
      | inr fault ↦ inr (fault.0, in_flat is fault.1)
    ]

hierarchy_decided : (limits : Limits) (models : List Model) → AreDistinct (map (λ (m : Model). m.name) models)
    → ((c : Plain) × IsCircuitOfModels limits models c) ⊎ ((f : Faulty) × IsFaultOfHierarchy limits models f)
hierarchy_decided limits models distinct = by_places (faults_in_places models) refl
  where
    tree : (f : Faulty) → faults_in_places models ≡ [] → IsFaultOfTree models f → IsFaultOfHierarchy limits models f
    tree f none fault = in_places (let first : slice_get (faults_in_places models) 0 ≡ None = ap (λ (fs : List Faulty). slice_get fs 0) none in rw first fault)

    by_size : (b : Bool) → faults_in_places models ≡ [] → ¬ HasRecursion models → is_too_deep models ≡ false → is_too_large models ≡ b
        → ((c : Plain) × IsCircuitOfModels limits models c) ⊎ ((f : Faulty) × IsFaultOfHierarchy limits models f)
    by_size true none ends shallow is = inr ((0, TooLarge), tree (0, TooLarge) none (too_large refl ends shallow is))
    by_size false none ends shallow is = flat_decided limits models (record { placed = none; ends = ends; shallow = shallow; small = is; made = refl })

    by_depth : (b : Bool) → faults_in_places models ≡ [] → ¬ HasRecursion models → is_too_deep models ≡ b
        → ((c : Plain) × IsCircuitOfModels limits models c) ⊎ ((f : Faulty) × IsFaultOfHierarchy limits models f)
    by_depth true none ends is = inr ((0, TooDeep), tree (0, TooDeep) none (too_deep refl ends is))
    by_depth false none ends is = by_size (is_too_large models) none ends is refl

    by_recursion : HasRecursion models ⊎ ¬ HasRecursion models → faults_in_places models ≡ []
        → ((c : Plain) × IsCircuitOfModels limits models c) ⊎ ((f : Faulty) × IsFaultOfHierarchy limits models f)
    by_recursion (inl circle) none = inr ((0, Recursion), tree (0, Recursion) none (recursive refl circle))
    by_recursion (inr ends) none = by_depth (is_too_deep models) none ends refl

    by_places : (fs : List Faulty) → faults_in_places models ≡ fs → ((c : Plain) × IsCircuitOfModels limits models c) ⊎ ((f : Faulty) × IsFaultOfHierarchy limits models f)
    by_places [] is = by_recursion (recursion_decided models distinct) is
    by_places (f ∷ fs) is = inr (f, in_places (let first : slice_get (faults_in_places models) 0 ≡ Some f = ap (λ (xs : List Faulty). slice_get xs 0) is in rw first refl))

lines_decided : (limits : Limits) (lines : List Line) → (fault_of_models lines ≡ None → AreDistinct (map (λ (m : Model). m.name) (models_in lines)))
    → ((c : Plain) × IsCircuitOfLines limits lines c) ⊎ ((f : Faulty) × IsFaultOfLines limits lines f)
lines_decided limits lines distinct = by_lines (fault_of_models lines) refl
  where
    by_models : fault_of_models lines ≡ None → ((c : Plain) × IsCircuitOfModels limits (models_in lines) c) ⊎ ((f : Faulty) × IsFaultOfHierarchy limits (models_in lines) f)
        → ((c : Plain) × IsCircuitOfLines limits lines c) ⊎ ((f : Faulty) × IsFaultOfLines limits lines f)
    by_models is (inl circuit) = inl (circuit.0, record { lawful = is; circuit = circuit.1 })
    by_models is (inr fault) = inr (fault.0, rw is fault.1)

    by_lines : (o : Option Faulty) → fault_of_models lines ≡ o → ((c : Plain) × IsCircuitOfLines limits lines c) ⊎ ((f : Faulty) × IsFaultOfLines limits lines f)
    by_lines None is = by_models is (hierarchy_decided limits (models_in lines) (distinct is))
    by_lines (Some f) is = inr (f, rw is refl)

decided_by : (limits : Limits) (r : Words) → ((e : LexFault) → r ≡ Err e → e ≢ lex.NoMemory)
    → ((lines : List Line) → r ≡ Ok lines → fault_of_models lines ≡ None → AreDistinct (map (λ (m : Model). m.name) (models_in lines)))
    → ((c : Plain) × IsOkAnd r (λ lines. IsCircuitOfLines limits lines c)) ⊎ ((f : Faulty) × MatchResult r (λ lines. IsFaultOfLines limits lines f) (λ first. IsLexed first f))
decided_by limits (Ok lines) named distinct = lines_decided limits lines (distinct lines refl)
decided_by limits (Err (lex.Text line kind)) named distinct = inr ((line, kind_of kind), refl)
decided_by limits (Err lex.NoMemory) named distinct = absurd (named lex.NoMemory refl refl)

-- A text has a circuit or a first fault.
pub decided : (limits : Limits) (text : List ℕ) → ((c : Plain) × IsCircuitOf limits text c) ⊎ ((f : Faulty) × IsFaultOf limits text f)
decided limits text =
    decided_by limits (words_of limits.name true text) (words_named limits.name true text)
    (λ lines is lawful. (models_fit limits text (models_in lines) (rw is (record { lawful = lawful; all = refl }))).distinct)
