-- Models that place others: what a placed model is bound to, and whether models place one another in a circle.
use Rattle.std.specs.Prelude.{ℕ, Bool, not, if◌then◌else◌, List, [], ◌∷◌, ◌++◌, Option, None, Some, map, find, flat_map, filter_map, option_map, bytes_eq, Contains, IsSomeAnd}
use Rattle.std.specs.List.{list_any, list_all}
use Rattle.blif_unit.specs.Fault.{Faulty}
use Rattle.blif_unit.specs.declared.fault.BlifKind.{BlifKind}
use Rattle.blif_unit.specs.declared.fault.BlifKind.TheVariants.{NoModel, UnknownFormal, RepeatedFormal, Unbound}
use Rattle.blif_unit.specs.declared.unit.Binding.{Binding}
use Rattle.blif_unit.specs.Unit.{Told, Telling, Model, clock, place, inputs_told, outputs_told, over, repeats}

-- the model with this name
abbrev pub model_named : List Model → List ℕ → Option Model
model_named models name = find (λ m. bytes_eq name m.name) models

-- the names of a `.clock` statement
abbrev pub declared_told : Told → List (List ℕ)
declared_told (clock names) = names
declared_told _ = []

-- the names of a statement that may be bound: those of `.inputs`, `.outputs` and `.clock`
abbrev pub formals_told : Told → List (List ℕ)
formals_told told = inputs_told told ++ outputs_told told ++ declared_told told

-- the names of a model that may be bound
abbrev pub formals_of : Model → List (List ℕ)
formals_of m = over formals_told m.body

abbrev pub is_among : List (List ℕ) → List ℕ → Bool
is_among names n = list_any (bytes_eq n) names

-- The first rule that formals break of which some names may be bound and others must be.
abbrev pub fault_in_formals : List (List ℕ) → List (List ℕ) → List (List ℕ) → Option BlifKind
fault_in_formals may must formals =
    if not (list_all (is_among may) formals) then Some UnknownFormal else
    if repeats [] formals then Some RepeatedFormal else
    if not (list_all (is_among formals) must) then Some Unbound else None

abbrev pub fault_in_binding : Option Model → List Binding → Option BlifKind
fault_in_binding None bindings = Some NoModel
fault_in_binding (Some m) bindings = fault_in_formals (formals_of m) (over inputs_told m.body) (map (λ b. b.formal) bindings)

abbrev pub fault_in_told : List Model → Told → Option BlifKind
fault_in_told models (place name bindings) = fault_in_binding (model_named models name) bindings
fault_in_told models _ = None

abbrev pub fault_in_telling : List Model → Telling → Option Faulty
fault_in_telling models t = option_map (λ kind. (t.line, kind)) (fault_in_told models t.what)

-- the faults of all `.subckt` lines in order
abbrev pub faults_in_places : List Model → List Faulty
faults_in_places models = filter_map (fault_in_telling models) (flat_map (λ m. m.body) models)

-- the names of the models that a statement places
abbrev pub places_told : Told → List (List ℕ)
places_told (place name bindings) = name ∷ []
places_told _ = []

-- The model with the one name places that with the other.
abbrev pub Places : List Model → List ℕ → List ℕ → Type 0
Places models a b = IsSomeAnd (model_named models a) (λ m. Contains (over places_told m.body) b)

-- The first model is placed by the first of the others, and each of those by the next.
abbrev pub IsRoute : List Model → List ℕ → List (List ℕ) → Type 0
IsRoute models a [] = Unit {0}
IsRoute models a (b ∷ rest) = Places models b a × IsRoute models b rest

-- A model places itself through one or more `.subckt`.
abbrev pub HasRecursion : List Model → Type 0
HasRecursion models = (name : List ℕ) × ((through : List (List ℕ)) × IsRoute models name (through ++ name ∷ []))
