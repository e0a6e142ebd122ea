-- Same: circuits that cannot be told apart from outside.
use Rattle.std.specs.Prelude.{◌≡◌, ℕ, ◌<◌, Bool, List, [], map, length, slice_index_or, zip, filter}
use Rattle.std.specs.List.{AllZip}
use Rattle.tm_bits.specs.Rows.{holds}
use Rattle.tm_circuit.specs.Plain.{Plain, Drive, input, latch, gate, is_input}
use Rattle.tm_circuit.specs.Trace.{IsTrace, shown}

-- The names of the inputs, in order.
abbrev pub input_names : Plain → List (List ℕ)
input_names c = map (λ signal. signal.0) (filter (λ signal. is_input signal.1) (zip c.names c.drives))

-- The names of the outputs, in order.
abbrev pub output_names : Plain → List (List ℕ)
output_names c = map (λ s. slice_index_or c.names s []) c.outputs

-- Two circuits are Same where their inputs have the same names in the same order, their outputs too, and for every list
-- of rows, of every length, their traces have the same bits of the outputs at every step that has a row. This speaks of
-- all traces, and a circuit without a circle of gates has exactly one for each list of rows.
pub record IsSame (a b : Plain) : Type 0 where
  pub inputs : input_names a ≡ input_names b
  pub outputs : output_names a ≡ output_names b
  pub shows : (rows : List (List Bool)) (t u : ℕ → ℕ → Bool) → IsTrace a rows t → IsTrace b rows u → (step : ℕ)
      → step < length rows → shown a t step ≡ shown b u step

-- Drives are alike where they are both inputs, latches with the same next and initial value, or gates that have the
-- same value whatever the signals are.
abbrev pub IsAlike : Drive → Drive → Type 0
IsAlike input input = Unit {0}
IsAlike (latch next init) (latch next' init') = (next ≡ next') × (init ≡ init')
IsAlike (gate pins cover) (gate pins' cover') =
    (value : ℕ → Bool) → holds cover (map value pins) ≡ holds cover' (map value pins')
IsAlike _ _ = ⊥

-- The second circuit has the first one's names and outputs, and its drives are alike one by one: gates may have other
-- pins and covers of the same values. Model names and clocks are left open, since no bit depends on them.
pub record IsRewritten (a b : Plain) : Type 0 where
  pub names : a.names ≡ b.names
  pub outputs : a.outputs ≡ b.outputs
  pub drives : AllZip IsAlike a.drives b.drives

-- The second circuit has some trace with the outputs that the table `t` of the first has.
abbrev pub ShowsAlike : Plain → Plain → List (List Bool) → (ℕ → ℕ → Bool) → Type 0
ShowsAlike a b rows t =
    (u : ℕ → ℕ → Bool) × IsTrace b rows u × ((step : ℕ) → step < length rows → shown a t step ≡ shown b u step)
