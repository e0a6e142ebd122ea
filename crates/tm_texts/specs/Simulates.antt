-- What the simulation of a circuit's text with a text of vectors is, and why two texts are not simulated.
use Rattle.std.specs.Prelude.{◌≡◌, ℕ, ◌+◌, ◌*◌, ◌<◌, ◌≤◌, Bool, List, map, length, Ok, Err}
use Rattle.std.specs.List.{range_with_len}
use Rattle.tm_circuit.specs.Plain.{Plain, input_count}
use Rattle.tm_circuit.specs.Sound.{IsSound}
use Rattle.tm_circuit.specs.Trace.{IsTrace, shown}
use Rattle.tm_sim.specs.Vectors.{vectors_of, text_of}
use Rattle.tm_sim.specs.declared.vectors.VectorFault.TheVariants.{Text}
use Rattle.tm_sim.specs.declared.vectors.VectorKind.{VectorKind}
use Rattle.text_read.specs.Texts.{IsCircuitOf, ShowsMeaning, IsFaultOf}
use Rattle.tm_texts.specs.declared.simulate.SimFault.{SimFault}
use Rattle.tm_texts.specs.declared.simulate.SimFault.TheVariants as fault
use Rattle.tm_texts.specs.Limits.{output_bytes, mapped_limits}

-- The text has the circuit, and the vectors have the rows for its inputs.
pub record HasRows (text vectors : List ℕ) (circuit : Plain) (rows : List (List Bool)) : Type 0 where
  pub of_text : IsCircuitOf mapped_limits text circuit
  pub of_vectors : vectors_of (input_count circuit.drives) vectors ≡ Ok rows

-- The number of bytes of the output rows: in each of them a byte for each output, and an LF.
abbrev pub bytes_of : Plain → List (List Bool) → ℕ
bytes_of circuit rows = length rows * (length circuit.outputs + 1)

-- The output rows of a circuit for rows of its inputs: those of its trace, in each step the bits of the outputs.
pub record IsOutput (circuit : Plain) (rows outputs : List (List Bool)) : Type 0 where
  pub shows : (t : ℕ → ℕ → Bool) → IsTrace circuit rows t → outputs ≡ map (shown circuit t) (range_with_len 0 (length rows))

-- The bytes are the output rows of the circuit of the text for the rows of the vectors, so many steps. The circuit is sound,
-- so that it has a trace for the rows, and exactly one, which shows what the text means.
pub record Simulates (text vectors bytes : List ℕ) (steps : ℕ) : Type 0 where
  pub circuit : Plain
  pub rows : List (List Bool)
  pub has : HasRows text vectors circuit rows
  pub meaning : ShowsMeaning mapped_limits text circuit
  pub sound : IsSound circuit
  pub few : bytes_of circuit rows ≤ output_bytes
  pub outputs : List (List Bool)
  pub output : IsOutput circuit rows outputs
  pub bytes_are : bytes ≡ text_of outputs
  pub steps_are : steps ≡ length rows

-- The texts have a circuit and rows for it, and the output rows are within their limit.
pub record IsSimulable (text vectors : List ℕ) : Type 0 where
  pub circuit : Plain
  pub rows : List (List Bool)
  pub has : HasRows text vectors circuit rows
  pub few : bytes_of circuit rows ≤ output_bytes

-- The text has a circuit, and the vectors have this first fault for its inputs.
pub record IsVectorsFault (text vectors : List ℕ) (line : ℕ) (kind : VectorKind) : Type 0 where
  pub circuit : Plain
  pub of_text : IsCircuitOf mapped_limits text circuit
  pub first : vectors_of (input_count circuit.drives) vectors ≡ Err (Text line kind)

-- The texts have a circuit and rows for it, and the output rows are longer than their limit.
pub record IsOutputLong (text vectors : List ℕ) : Type 0 where
  pub circuit : Plain
  pub rows : List (List Bool)
  pub has : HasRows text vectors circuit rows
  pub long : output_bytes < bytes_of circuit rows

-- Why two texts are not simulated: the first of these. Want of memory says nothing.
abbrev pub IsSimFault : List ℕ → List ℕ → SimFault → Type 0
IsSimFault text vectors (fault.Blif line kind) = IsFaultOf mapped_limits text (line, kind)
IsSimFault text vectors (fault.Vectors line kind) = IsVectorsFault text vectors line kind
IsSimFault text vectors fault.TooLong = IsOutputLong text vectors
IsSimFault text vectors fault.NoMemory = Unit {0}
