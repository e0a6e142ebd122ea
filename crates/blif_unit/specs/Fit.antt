-- What the rules on lines leave of a model, whether or not it places others.
use Rattle.std.specs.Prelude.{ℕ, ◌<◌, ◌≤◌, ◌≡◌, ◌⊎◌, false, List, [], ◌∷◌, ◌++◌, Option, None, Some, length, map, All, bytes_eq, flat_map, codes}
use Rattle.std.specs.List.{AllByRecursion}
use Rattle.tm_bits.specs.Rows.{HasWidth}
use Rattle.tm_circuit.specs.Sound.{IsNameByte}
use Rattle.blif_unit.specs.declared.unit.Binding.{Binding}
use Rattle.blif_unit.specs.Unit.{Told, Telling, Model, inputs, outputs, clock, gate, latch, place, controls_named, outputs_told, over, AreDistinct}

-- the names of a binding
abbrev pub names_bound : Binding → List (List ℕ)
names_bound b = b.formal ∷ b.actual ∷ []

-- All names of a statement, each as often as it stands there.
abbrev pub names_told : Told → List (List ℕ)
names_told (inputs names) = names
names_told (outputs names) = names
names_told (clock names) = names
names_told (gate pins name cover) = pins ++ name ∷ []
names_told (latch next name init control) = next ∷ name ∷ controls_named control
names_told (place model bindings) = model ∷ flat_map names_bound bindings

-- A name of whatever length: it has bytes, and each may stand in a name.
pub record IsPlainName (name : List ℕ) : Type 0 where
  pub some : 0 < length name
  pub lawful : All IsNameByte name

-- A gate's rows are as wide as its pins are many, which are few, and a control is not named `NIL`.
abbrev pub HasShape : Told → Type 0
HasShape (gate pins name cover) = HasWidth cover (length pins) × (length pins ≤ 255)
HasShape (latch next name init (Some control)) = bytes_eq control.name (codes "NIL") ≡ false
HasShape _ = Unit {0}

-- The statement places no model.
abbrev pub PlacesNone : Told → Type 0
PlacesNone (place model bindings) = ⊥
PlacesNone _ = Unit {0}

-- What the rules on lines leave of a model.
pub record IsFit (m : Model) : Type 0 where
  pub model : IsPlainName m.name
  pub names : AllByRecursion IsPlainName (over names_told m.body)
  pub outputs_once : AreDistinct (over outputs_told m.body)
  pub shaped : AllByRecursion (λ t. HasShape t.what) m.body

-- A name is `top`, or it has at most so many bytes.
abbrev pub IsNameWithin : ℕ → List ℕ → Type 0
IsNameWithin most name = (name ≡ codes "top") ⊎ (length name ≤ most)

-- The first model's own name is `top`, or it has at most so many bytes.
abbrev pub HasTopWithin : ℕ → List Model → Type 0
HasTopWithin most [] = ⊥
HasTopWithin most (top ∷ others) = IsNameWithin most top.name

-- What the rules on lines leave of the models of a text: there are some, each is fit, and no two have the same name.
pub record AreFit (most : ℕ) (models : List Model) : Type 0 where
  pub top : HasTopWithin most models
  pub fit : AllByRecursion IsFit models
  pub distinct : AreDistinct (map (λ m. m.name) models)
