-- The meaning of models that place one another: the bit of each name of each instance at each step, for the rows of bits that the
-- inputs of the top are given. Each instance has names of its own. Of the flat unit only its clock is needed, which is no input.
use Rattle.std.specs.Prelude.{◌≡◌, ℕ, zero, suc, ◌<◌, Bool, true, not, List, [], ◌∷◌, ◌++◌, Option, None, Some, length, map, filter, flat_map, slice_get, option_and_then, IsOkAnd}
use Rattle.std.specs.List.{AllByRecursion}
use Rattle.tm_bits.specs.Rows.{holds}
use Rattle.tm_circuit.specs.Plain.{Plain}
use Rattle.tm_circuit.specs.Trace.{IsTrace, row_bit, shown}
use Rattle.blif_lex.specs.Words.{words_of}
use Rattle.blif_unit.specs.declared.limits.Limits.{Limits}
use Rattle.blif_unit.specs.declared.unit.Binding.{Binding}
use Rattle.blif_unit.specs.Unit.{Told, Model, gate, latch, place, inputs_told, outputs_told, over}
use Rattle.blif_circuit.specs.Circuit.{is_clock}
use Rattle.blif_models.specs.Several.{models_in}
use Rattle.blif_flat.specs.Places.{model_named}
use Rattle.blif_flat.specs.Flat.{flat_of, top_body}

-- ---- instances

-- a model that is placed, by its name, and what its formals are bound to
pub record Placing : Type 0 where
  pub model : List ℕ
  pub bindings : List Binding

abbrev pub placings_told : Told → List Placing
placings_told (place name bindings) = record { model = name; bindings = bindings } ∷ []
placings_told _ = []

-- the `.subckt` statements of a model, in order
abbrev pub placings_of : Model → List Placing
placings_of m = flat_map (λ t. placings_told t.what) m.body

-- The `.subckt` of a number: they count from 1.
abbrev pub placing_at : Model → ℕ → Option Placing
placing_at m zero = None
placing_at m (suc before) = slice_get (placings_of m) before

-- the model that the `.subckt` of a number places
abbrev pub placed_at : List Model → Model → ℕ → Option Model
placed_at models m k = option_and_then (λ p. model_named models p.model) (placing_at m k)

-- The model to which a path leads from a model: the numbers of `.subckt`s, from the outermost.
abbrev pub model_under : List Model → Model → List ℕ → Option Model
model_under models m [] = Some m
model_under models m (k ∷ path) = option_and_then (λ inner. model_under models inner path) (placed_at models m k)

-- The model of the instance that has this path. The top, which is the first model, has the empty path.
abbrev pub model_at : List Model → List ℕ → Option Model
model_at models path = option_and_then (λ top. model_under models top path) (slice_get models 0)

-- ---- traces

-- What a statement asks of the bits of the names of its instance at a step: a gate has its cover of its pins, and a latch has its
-- initial value at step 0 and afterwards the bit that the name it reads had one step earlier.
abbrev pub Obeys : Told → (List ℕ → ℕ → Bool) → ℕ → Type 0
Obeys (gate pins name cover) bits step = bits name step ≡ holds cover (map (λ p. bits p step) pins)
Obeys (latch next name init control) bits zero = bits name zero ≡ init
Obeys (latch next name init control) bits (suc before) = bits name (suc before) ≡ bits next before
Obeys _ bits step = Unit {0}

-- the top's inputs, the clock left out
abbrev pub open_inputs : List Model → List (List ℕ)
open_inputs models = filter (λ n. not (is_clock (flat_of models).body n)) (over inputs_told (top_body models))

-- The table `bits` of paths, local names and steps is a nested trace of the models for these rows. At each step that has a row, the
-- top's inputs have the bits of the row, in order; each instance obeys the statements of its model, in its own names; and each formal
-- that is bound has, in the instance, the bit of its actual in the model around it.
pub record IsNestedTrace (models : List Model) (rows : List (List Bool)) (bits : List ℕ → List ℕ → ℕ → Bool) : Type 0 where
  pub inputs : (k step : ℕ) (n : List ℕ) → step < length rows → slice_get (open_inputs models) k ≡ Some n
      → bits [] n step ≡ row_bit rows k step
  pub statements : (path : List ℕ) (m : Model) (step : ℕ) → step < length rows → model_at models path ≡ Some m
      → AllByRecursion (λ t. Obeys t.what (bits path) step) m.body
  pub bindings : (path : List ℕ) (m : Model) (k : ℕ) (p : Placing) (step : ℕ) → step < length rows → model_at models path ≡ Some m
      → placing_at m k ≡ Some p → AllByRecursion (λ b. bits (path ++ k ∷ []) b.formal step ≡ bits path b.actual step) p.bindings

-- the bits of the top's outputs at a step
abbrev pub outputs_shown : List Model → (List ℕ → List ℕ → ℕ → Bool) → ℕ → List Bool
outputs_shown models bits step = map (λ n. bits [] n step) (over outputs_told (top_body models))

-- For every list of rows, of every length, the models have a nested trace, and in every one the top's outputs are those of the
-- circuit's trace.
pub record ShowsNested (models : List Model) (c : Plain) : Type 0 where
  pub some : (rows : List (List Bool)) → (bits : List ℕ → List ℕ → ℕ → Bool) × IsNestedTrace models rows bits
  pub same : (rows : List (List Bool)) (bits : List ℕ → List ℕ → ℕ → Bool) (t : ℕ → ℕ → Bool) → IsNestedTrace models rows bits
      → IsTrace c rows t → (step : ℕ) → step < length rows → shown c t step ≡ outputs_shown models bits step

-- The circuit shows what the text means.
abbrev pub MeansText : Limits → List ℕ → Plain → Type 0
MeansText limits text c = IsOkAnd (words_of limits.name true text) (λ lines. ShowsNested (models_in lines) c)
