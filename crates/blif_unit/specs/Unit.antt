-- A model as plain lists: its statements in order, with names in place of signals, whatever room its vectors have to spare.
use Rattle.std.specs.Prelude.{◌≡◌, ◌≤◌, ℕ, Bool, true, false, ◌||◌, not, List, [], ◌∷◌, ◌++◌, Option, None, Some, length, map, bytes_eq, flat_map, codes}
use Rattle.std.specs.List.{AllByRecursion, list_any, list_all}
use Rattle.tm_bits.specs.Rows.{Rows, HasWidth}
use Rattle.tm_circuit.specs.Sound.{IsName}
use Rattle.blif_unit.specs.declared.unit.Unit.{Unit as ModelUnit}
use Rattle.blif_unit.specs.declared.unit.Stated.{Stated}
use Rattle.blif_unit.specs.declared.unit.Control.{Control}
use Rattle.blif_unit.specs.declared.unit.Binding.{Binding}
use Rattle.blif_unit.specs.declared.unit.Statement.{Statement}
use Rattle.blif_unit.specs.declared.unit.Statement.TheVariants.{Inputs, Outputs, Clock, Gate, Latch, Place}

-- What a statement says.
pub data Told : Type 0 where
  inputs : List (List ℕ) → Told
  outputs : List (List ℕ) → Told
  clock : List (List ℕ) → Told
  gate : List (List ℕ) → List ℕ → Rows → Told
  latch : List ℕ → List ℕ → Bool → Option Control → Told
  place : List ℕ → List Binding → Told

-- a statement and the line on which it begins
pub record Telling : Type 0 where
  pub line : ℕ
  pub what : Told

pub record Model : Type 0 where
  pub name : List ℕ
  pub line : ℕ
  pub body : List Telling

abbrev pub told_of : Statement → Told
told_of (Inputs names) = inputs names.items
told_of (Outputs names) = outputs names.items
told_of (Clock names) = clock names.items
told_of (Gate pins name cover) = gate pins.items name cover
told_of (Latch next name init control) = latch next name init control
told_of (Place model bindings) = place model bindings.items

abbrev pub telling_of : Stated → Telling
telling_of s = record { line = s.line; what = told_of s.what }

abbrev pub model_of : ModelUnit → Model
model_of u = record { name = u.name; line = u.line; body = map telling_of u.body.items }

-- ---- names in a statement

abbrev pub inputs_told : Told → List (List ℕ)
inputs_told (inputs names) = names
inputs_told _ = []

abbrev pub outputs_told : Told → List (List ℕ)
outputs_told (outputs names) = names
outputs_told _ = []

abbrev pub control_told : Told → Option Control
control_told (latch next name init control) = control
control_told _ = None

abbrev pub controls_named : Option Control → List (List ℕ)
controls_named None = []
controls_named (Some control) = control.name ∷ []

-- the names that the statement makes a clock
abbrev pub clocks_told : Told → List (List ℕ)
clocks_told (clock names) = names
clocks_told told = controls_named (control_told told)

-- the names of latches and of gates that the statement makes
abbrev pub latch_told : Told → List (List ℕ)
latch_told (latch next name init control) = name ∷ []
latch_told _ = []

abbrev pub gate_told : Told → List (List ℕ)
gate_told (gate pins name cover) = name ∷ []
gate_told _ = []

-- The names that the statement drives.
abbrev pub drivers_told : Told → List (List ℕ)
drivers_told told = inputs_told told ++ latch_told told ++ gate_told told

-- The uses of names: a pin, the input of a latch, an output.
abbrev pub uses_told : Told → List (List ℕ)
uses_told (gate pins name cover) = pins
uses_told (latch next name init control) = next ∷ []
uses_told (outputs names) = names
uses_told _ = []

-- What a function of a statement gives, over all statements in order.
abbrev pub over : (Told → List (List ℕ)) → List Telling → List (List ℕ)
over f body = flat_map (λ t. f t.what) body

-- ---- what the statements of a model have after the rules on lines

-- Some name of ns stands in seen, or earlier in ns.
abbrev pub repeats : List (List ℕ) → List (List ℕ) → Bool
repeats seen [] = false
repeats seen (n ∷ ns) = list_any (bytes_eq n) seen || repeats (seen ++ n ∷ []) ns

-- some name differs from the first
abbrev pub differ : List (List ℕ) → Bool
differ [] = false
differ (n ∷ ns) = list_any (λ m. not (bytes_eq n m)) ns

-- No name stands twice.
abbrev pub AreDistinct : List (List ℕ) → Type 0
AreDistinct [] = Unit {0}
AreDistinct (name ∷ names) = (list_any (bytes_eq name) names ≡ false) × AreDistinct names

-- No two names differ.
abbrev pub AreSame : List (List ℕ) → Type 0
AreSame [] = Unit {0}
AreSame (name ∷ names) = list_all (bytes_eq name) names ≡ true

-- A gate's rows are as wide as its pins are many, which are few, and a control is not named `NIL`.
abbrev pub IsShaped : Told → Type 0
IsShaped (gate pins name cover) = HasWidth cover (length pins) × (length pins ≤ 255)
IsShaped (latch next name init (Some control)) = bytes_eq control.name (codes "NIL") ≡ false
IsShaped (place model bindings) = ⊥
IsShaped _ = Unit {0}

-- What the rules on lines leave of a model: names are lawful, drivers and outputs stand once, the clock names are all the same.
pub record IsOrderly (m : Model) : Type 0 where
  pub model : IsName m.name
  pub drivers : AllByRecursion IsName (over drivers_told m.body)
  pub clocks : AllByRecursion IsName (over clocks_told m.body)
  pub driven_once : AreDistinct (over drivers_told m.body)
  pub outputs_once : AreDistinct (over outputs_told m.body)
  pub one_clock : AreSame (over clocks_told m.body)
  pub shaped : AllByRecursion (λ t. IsShaped t.what) m.body
