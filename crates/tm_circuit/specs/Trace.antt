-- Traces: the bit of each signal at each step, for the rows of bits that the inputs are given.
use Rattle.std.specs.Prelude.{◌≡◌, ℕ, zero, suc, ◌<◌, Bool, false, List, [], map, length, slice_index_or}
use Rattle.tm_bits.specs.Rows.{holds}
use Rattle.tm_circuit.specs.Plain.{Plain, drive, Drive, input, latch, gate}

-- The bit that a row of input bits has for a signal. The inputs are the first signals, so the place of an input in a
-- row is its number. A bit that the rows don't have is 0.
abbrev pub row_bit : List (List Bool) → ℕ → ℕ → Bool
row_bit rows s step = slice_index_or (slice_index_or rows step []) s false

-- The bit that a drive asks for at a step, where the row has the bit `given` and the table `t` the bits of all signals:
-- an input has the bit of the row; a latch its initial value at step 0, and afterwards the bit that its `next` had one
-- step earlier; a gate the value of its cover on its pins at the same step.
abbrev pub driven : Drive → Bool → (ℕ → ℕ → Bool) → ℕ → Bool
driven input given t step = given
driven (latch next init) given t zero = init
driven (latch next init) given t (suc before) = t next before
driven (gate pins cover) given t step = holds cover (map (λ p. t p step) pins)

-- The table `t` is a trace of the circuit for these rows: at each step that has a row, each signal has the bit that
-- its drive asks for.
abbrev pub IsTrace : Plain → List (List Bool) → (ℕ → ℕ → Bool) → Type 0
IsTrace c rows t = (s step : ℕ) → step < length rows → t s step ≡ driven (drive c s) (row_bit rows s step) t step

-- The bits of the outputs at a step.
abbrev pub shown : Plain → (ℕ → ℕ → Bool) → ℕ → List Bool
shown c t step = map (λ s. t s step) c.outputs

-- For every list of rows, of every length, there is a trace, and any two agree on each signal at each step that has a row.
pub record HasOneTrace (c : Plain) : Type 0 where
  pub some : (rows : List (List Bool)) → (t : ℕ → ℕ → Bool) × IsTrace c rows t
  pub one : (rows : List (List Bool)) (t u : ℕ → ℕ → Bool) → IsTrace c rows t → IsTrace c rows u → (s step : ℕ)
      → step < length rows → t s step ≡ u s step

-- The table `t` obeys the drives at every step for ever, where the inputs are given bits by signal and step.
abbrev pub ObeysAlways : Plain → (ℕ → ℕ → Bool) → (ℕ → ℕ → Bool) → Type 0
ObeysAlways c given t = (s step : ℕ) → t s step ≡ driven (drive c s) (given s step) t step

-- Whatever bits the inputs are given, there is such a table, and any two are equal.
pub record HasOneRun (c : Plain) : Type 0 where
  pub some : (given : ℕ → ℕ → Bool) → (t : ℕ → ℕ → Bool) × ObeysAlways c given t
  pub one : (given t u : ℕ → ℕ → Bool) → ObeysAlways c given t → ObeysAlways c given u → (s step : ℕ)
      → t s step ≡ u s step
