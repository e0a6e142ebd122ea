-- What a machine stands for: the circuit that it runs, and the bits that its latches have before the next step.
use Rattle.std.specs.Prelude.{◌≡◌, ℕ, Bool, List, [], ◌∷◌, ◌++◌, map, length}
use Rattle.std.specs.List.{range_with_len}
use Rattle.tm_circuit.specs.Plain.{Plain, input_count, latch_count}
use Rattle.tm_circuit.specs.Trace.{IsTrace, shown}

-- A machine seen from outside.
pub record State : Type 0 where
  pub circuit : Plain
  pub latches : List Bool

-- The latches of a circuit in order: they are the signals after the inputs.
abbrev pub latch_signals : Plain → List ℕ
latch_signals c = range_with_len (input_count c.drives) (latch_count c.drives)

-- The bits of the latches at a step.
abbrev pub held : Plain → (ℕ → ℕ → Bool) → ℕ → List Bool
held c t step = map (λ s. t s step) (latch_signals c)

-- A machine stands after some rows where, whatever row follows them, its bits are those that the latches have in the
-- trace for these rows and the one that follows, at the step of that one. A sound circuit has exactly one trace for each
-- list of rows.
pub record StandsAfter (m : State) (rows : List (List Bool)) : Type 0 where
  pub bits : (row : List Bool) (t : ℕ → ℕ → Bool) → IsTrace m.circuit (rows ++ row ∷ []) t
      → m.latches ≡ held m.circuit t (length rows)

-- The bits of the outputs in the trace for some rows and one more, at the step of that one.
abbrev pub ShowsLast : Plain → List (List Bool) → List Bool → List Bool → Type 0
ShowsLast c rows row outputs =
    (t : ℕ → ℕ → Bool) → IsTrace c (rows ++ row ∷ []) t → outputs ≡ shown c t (length rows)
