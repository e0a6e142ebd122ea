-- The meaning of an AIGER text: the bit of each variable at each step, for the rows of bits that the inputs are given.
use Rattle.std.specs.Prelude.{◌≡◌, ℕ, suc, ◌<◌, ◌%◌, Bool, true, false, not, ◌&&◌, ◌==◌, if◌then◌else◌, List, map, length, slice_get, Some}
use Rattle.tm_circuit.specs.Plain.{Plain}
use Rattle.tm_circuit.specs.Trace.{IsTrace, row_bit, shown}
use Rattle.aiger_read.specs.declared.statement.Statement.{Statement}
use Rattle.aiger_read.specs.declared.statement.LatchLine.{LatchLine}
use Rattle.aiger_read.specs.declared.statement.AndLine.{AndLine}
use Rattle.aiger_read.specs.Lines.{lines_of}
use Rattle.aiger_read.specs.Statements.{variable_of}
use Rattle.aiger_read.specs.Circuit.{inputs_in, latches_in, outputs_in, ands_in}
use Rattle.aiger_read.specs.Text.{body_of}

-- The bit of a literal, by the bits of the variables. The literals 0 and 1 are the constants.
abbrev pub literal_bit : (ℕ → ℕ → Bool) → ℕ → ℕ → Bool
literal_bit bits step literal =
    if literal == 0 then false else
    if literal == 1 then true else
    if literal % 2 == 1 then not (bits (variable_of literal) step) else bits (variable_of literal) step

-- The table `bits` of variables and steps is a trace of the statements for these rows: at each step that has a row, the inputs
-- have the bits of the row, in order, an and the and of its two literals, and a latch its reset at step 0 and afterwards the bit
-- that its next literal had one step earlier.
pub record IsAigerTrace (body : List Statement) (rows : List (List Bool)) (bits : ℕ → ℕ → Bool) : Type 0 where
  pub inputs : (k literal step : ℕ) → step < length rows → slice_get (inputs_in body) k ≡ Some literal
      → bits (variable_of literal) step ≡ row_bit rows k step
  pub ands : (k step : ℕ) (a : AndLine) → step < length rows → slice_get (ands_in body) k ≡ Some a
      → bits (variable_of a.literal) step ≡ (literal_bit bits step a.left && literal_bit bits step a.right)
  pub resets : (k : ℕ) (l : LatchLine) → 0 < length rows → slice_get (latches_in body) k ≡ Some l → bits (variable_of l.literal) 0 ≡ l.reset
  pub nexts : (k before : ℕ) (l : LatchLine) → suc before < length rows → slice_get (latches_in body) k ≡ Some l
      → bits (variable_of l.literal) (suc before) ≡ literal_bit bits before l.next

-- The bits of the output literals at a step.
abbrev pub outputs_shown : List Statement → (ℕ → ℕ → Bool) → ℕ → List Bool
outputs_shown body bits step = map (literal_bit bits step) (outputs_in body)

-- For every list of rows, of every length, the statements have a trace, and in every one the bits of the output literals are
-- those of the outputs in the circuit's trace.
pub record ShowsLiterals (body : List Statement) (c : Plain) : Type 0 where
  pub some : (rows : List (List Bool)) → (bits : ℕ → ℕ → Bool) × IsAigerTrace body rows bits
  pub same : (rows : List (List Bool)) (bits t : ℕ → ℕ → Bool) → IsAigerTrace body rows bits → IsTrace c rows t → (step : ℕ)
      → step < length rows → shown c t step ≡ outputs_shown body bits step

-- The circuit shows what the text means.
abbrev pub MeansText : List ℕ → Plain → Type 0
MeansText text c = ShowsLiterals (body_of (lines_of text)) c
