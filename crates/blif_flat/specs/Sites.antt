-- Models that are placed, by number, with what their formals are bound to.
use Rattle.std.specs.Prelude.{◌≡◌, ℕ, List, [], ◌∷◌, ◌++◌, Option, None, Some, map, flat_map, bytes_eq, if◌then◌else◌}
use Rattle.std.specs.List.{position_or_len}
use Rattle.blif_unit.specs.declared.unit.Binding.{Binding}
use Rattle.blif_unit.specs.Unit.{Told, Telling, Model, place, over, inputs_told}
use Rattle.blif_flat.specs.declared.formals.Formals.{Formals}
use Rattle.blif_flat.specs.Places.{is_among, formals_told}

-- where a model places another: its number and what its formals are bound to
pub record Sited : Type 0 where
  pub model : ℕ
  pub bindings : List Binding

-- the number of the model with this name, or how many there are
abbrev pub index_of : List Model → List ℕ → ℕ
index_of models name = position_or_len (bytes_eq name) (map (λ m. m.name) models)

abbrev pub sites_told : List Model → Told → List Sited
sites_told models (place name bindings) = record { model = index_of models name; bindings = bindings } ∷ []
sites_told models _ = []

-- the sites in these statements, in order
abbrev pub sites_in : List Model → List Telling → List Sited
sites_in models body = flat_map (λ t. sites_told models t.what) body

-- the name that a formal is bound to
abbrev pub actual_of : List Binding → List ℕ → Option (List ℕ)
actual_of [] n = None
actual_of (b ∷ bound) n = if bytes_eq n b.formal then Some b.actual else actual_of bound n

abbrev pub formals_bound : List Binding → List (List ℕ)
formals_bound bindings = map (λ b. b.formal) bindings

-- ---- formals

-- The names that were there, and more.
abbrev pub Joins : List (List ℕ) → List (List ℕ) → List (List ℕ) → Type 0
Joins old more new = (n : List ℕ) → is_among new n ≡ is_among (old ++ more) n

-- The formals have gained those of a statement.
pub record GainsFormals (old : Formals) (told : Told) (new : Formals) : Type 0 where
  pub names : Joins old.names (formals_told told) new.names
  pub inputs : map (λ x. x.now) new.inputs.items ≡ map (λ x. x.now) old.inputs.items ++ inputs_told told

-- The formals of these statements.
pub record AreFormalsOf (body : List Telling) (formals : Formals) : Type 0 where
  pub names : (n : List ℕ) → is_among formals.names n ≡ is_among (over formals_told body) n
  pub inputs : map (λ x. x.now) formals.inputs.items ≡ over inputs_told body

-- The formals of each model.
abbrev pub AreAllFormals : List Model → List Formals → Type 0
AreAllFormals [] [] = Unit {0}
AreAllFormals [] (f ∷ fs) = ⊥
AreAllFormals (m ∷ ms) [] = ⊥
AreAllFormals (m ∷ ms) (f ∷ fs) = AreFormalsOf m.body f × AreAllFormals ms fs
