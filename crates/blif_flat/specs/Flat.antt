-- The flat unit: instances of models replaced by their gates, latches and clocks, with names of their own.
--     `@` 64
use Rattle.std.specs.Prelude.{ℕ, zero, suc, ◌+◌, Bool, true, false, ◌&&◌, if◌then◌else◌, nat_lt, List, [], ◌∷◌, ◌++◌, Option, None, Some, length, map, sum, flat_map, bytes_eq, replicate, codes}
use Rattle.std.specs.List.{list_any}
use Rattle.std.specs.Fmt.{decimal}
use Rattle.tm_circuit.specs.Plain.{greatest}
use Rattle.tm_parts.specs.Runs.{longest_run}
use Rattle.blif_unit.specs.declared.unit.Binding.{Binding}
use Rattle.blif_unit.specs.declared.unit.Control.{Control}
use Rattle.blif_unit.specs.Fit.{names_told}
use Rattle.blif_unit.specs.Unit.{Told, Telling, Model, inputs, outputs, clock, gate, latch, place, over}
use Rattle.blif_flat.specs.Limits.{most_levels, most_size}
use Rattle.blif_flat.specs.Places.{model_named}

-- ---- instances

abbrev pub body_of : Option Model → List Telling
body_of None = []
body_of (Some m) = m.body

-- the statements of the model that a statement places
abbrev pub inside : List Model → Told → List Telling
inside models (place name bindings) = body_of (model_named models name)
inside models _ = []

abbrev pub is_place : Told → Bool
is_place (place name bindings) = true
is_place _ = false

-- Some instance under these statements has a path of more than so many numbers.
abbrev pub is_deeper : ℕ → List Model → List Telling → Bool
is_deeper zero models body = list_any (λ t. is_place t.what) body
is_deeper (suc n) models body = list_any (λ t. is_deeper n models (inside models t.what)) body

-- The number of instances under these statements with a path of at most so many numbers.
abbrev pub instances : ℕ → List Model → List Telling → ℕ
instances zero models body = 0
instances (suc n) models body = sum (map (λ t. if is_place t.what then suc (instances n models (inside models t.what)) else 0) body)

-- ---- names

-- all names in the models, their own names among them
abbrev pub names_in : List Model → List (List ℕ)
names_in models = flat_map (λ m. m.name ∷ over names_told m.body) models

-- The joiner is one longer than the longest run of `@` in any name.
abbrev pub joiner_of : List Model → List ℕ
joiner_of models = replicate (suc (greatest (map (longest_run 64) (names_in models)))) 64

-- What the names of an instance end in, by what those around it end in and its number there.
abbrev pub suffix_of : List ℕ → List ℕ → ℕ → List ℕ
suffix_of joiner around k = around ++ joiner ++ decimal k

-- A name of an instance: where it is bound, it becomes what the binding says, and else it gets the suffix.
abbrev pub name_within : List ℕ → List Binding → List ℕ → List ℕ
name_within suffix [] n = n ++ suffix
name_within suffix (b ∷ bound) n = if bytes_eq n b.formal then b.actual else name_within suffix bound n

-- ---- statements

-- The formals of an instance with the names that they become, by the names around it.
abbrev pub bound_by : (List ℕ → List ℕ) → List Binding → List Binding
bound_by rename bindings = map (λ b. record { formal = b.formal; actual = rename b.actual }) bindings

-- A control that is then named `NIL` is dropped.
abbrev pub control_by : (List ℕ → List ℕ) → Option Control → Option Control
control_by rename None = None
control_by rename (Some control) =
    if bytes_eq (rename control.name) (codes "NIL") then None else Some (record { name = rename control.name; edge = control.edge })

-- What a statement of an instance becomes. Inputs and outputs are left out but at the top.
abbrev pub told_by : Bool → (List ℕ → List ℕ) → Told → List Told
told_by top rename (inputs names) = if top then inputs names ∷ [] else []
told_by top rename (outputs names) = if top then outputs names ∷ [] else []
told_by top rename (clock names) = clock (map rename names) ∷ []
told_by top rename (gate pins name cover) = gate (map rename pins) (rename name) cover ∷ []
told_by top rename (latch next name init control) = latch (rename next) (rename name) init (control_by rename control) ∷ []
told_by top rename (place name bindings) = []

abbrev pub bindings_told : Told → List Binding
bindings_told (place name bindings) = bindings
bindings_told _ = []

-- the number that the next placed model has, after this statement
abbrev pub number_after : ℕ → Told → ℕ
number_after k told = if is_place told then suc k else k

-- The statements that an instance becomes, with those of its instances in their place, where `suffix` is what its names end in,
-- `bound` says what its formals become, and its next placed model has the number `k`. `instance` says the same of an instance in it.
abbrev pub flat_parts : (List ℕ → List Binding → List Telling → List Telling) → List Model → List ℕ → Bool → List ℕ → List Binding → ℕ
    → List Telling
    → List Telling
flat_parts instance models joiner top suffix bound k [] = []
flat_parts instance models joiner top suffix bound k (t ∷ body) =
    map (λ told. record { line = t.line; what = told }) (told_by top (name_within suffix bound) t.what)
    ++ instance (suffix_of joiner suffix k) (bound_by (name_within suffix bound) (bindings_told t.what)) (inside models t.what)
    ++ flat_parts instance models joiner top suffix bound (number_after k t.what) body

-- The same for all instances, none of which is followed further than so many levels.
abbrev pub flat_from : ℕ → List Model → List ℕ → Bool → List ℕ → List Binding → List Telling → List Telling
flat_from zero models joiner top suffix bound body = flat_parts (λ s b ts. []) models joiner top suffix bound 1 body
flat_from (suc n) models joiner top suffix bound body = flat_parts (flat_from n models joiner false) models joiner top suffix bound 1 body

abbrev pub flat_body : List Model → List Telling → List Telling
flat_body models body = flat_from most_levels models (joiner_of models) true [] [] body

-- The flat unit of models, of which the first is the top.
abbrev pub flat_of : List Model → Model
flat_of [] = record { name = []; line = 0; body = [] }
flat_of (top ∷ others) = record { name = top.name; line = top.line; body = flat_body (top ∷ others) top.body }

-- ---- size

abbrev pub bytes_in : Model → ℕ
bytes_in m = length m.name + sum (map length (over names_told m.body))

abbrev pub places_in : Told → ℕ
places_in (gate pins name cover) = sum (map length cover.rows)
places_in _ = 0

-- the number of instances, the bytes of all names and the places of all rows of a flat unit
abbrev pub size_of : List Model → List Telling → ℕ
size_of models body =
    instances most_levels models body + bytes_in (flat_of models) + sum (map (λ t. places_in t.what) (flat_of models).body)

abbrev pub top_body : List Model → List Telling
top_body [] = []
top_body (top ∷ others) = top.body

abbrev pub is_too_deep : List Model → Bool
is_too_deep models = is_deeper most_levels models (top_body models)

abbrev pub is_too_large : List Model → Bool
is_too_large models =
    list_any (λ t. is_place t.what) (top_body models) && nat_lt most_size (size_of models (top_body models))
