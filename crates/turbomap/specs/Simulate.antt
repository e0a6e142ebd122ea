-- `sim IN VECTORS OUT`, as a command.
use Rattle.std.specs.Prelude.{◌≡◌, ◌⊎◌, ℕ, List, [], ◌∷◌}
use Rattle.tm_sim.specs.declared.vectors.VectorKind.{VectorKind}
use Rattle.tm_texts.specs.Limits.{mapped_bytes, vector_bytes, mapped_limits}
use Rattle.tm_texts.specs.Simulates.{Simulates, IsSimulable, IsVectorsFault, IsOutputLong}
use Rattle.turbomap.specs.declared.status.Status.{Status}
use Rattle.turbomap.specs.declared.status.Status.TheVariants.{BadText, TooLong}
use Rattle.turbomap.specs.Command.{Write, Command, input_of, write_of}
use Rattle.turbomap.specs.Kind.{vector_kind_name}
use Rattle.turbomap.specs.Line.{too_long_line, fault_line, steps_line}
use Rattle.turbomap.specs.Texts.{IsFaultyText}

-- the text has a circuit, for which the vectors of the file have a first fault, and the line says it
pub record AreFaultyVectors (name text vectors : List ℕ) (status : Status) (line : List ℕ) : Type 0 where
  pub number : ℕ
  pub kind : VectorKind
  pub fault : IsVectorsFault text vectors number kind
  pub status_is : status ≡ BadText
  pub line_is : line ≡ fault_line name number (vector_kind_name kind)

-- the output rows are longer than their limit, and the line names the file that they were for
pub record IsOutputRefused (output text vectors : List ℕ) (status : Status) (line : List ℕ) : Type 0 where
  pub long : IsOutputLong text vectors
  pub status_is : status ≡ TooLong
  pub line_is : line ≡ too_long_line output

-- what is written are the output rows, and the line says their number
pub record IsSimulation (output text vectors : List ℕ) (writes : List Write) (lines : List (List ℕ)) : Type 0 where
  pub bytes : List ℕ
  pub steps : ℕ
  pub simulates : Simulates text vectors bytes steps
  pub writes_are : writes ≡ write_of output bytes ∷ []
  pub lines_are : lines ≡ steps_line steps ∷ []

abbrev pub SimRefuses : List ℕ → List ℕ → List ℕ → List (List ℕ) → Status → List ℕ → Type 0
SimRefuses input vectors output (text ∷ rows ∷ []) status line =
    IsFaultyText mapped_limits input text status line
    ⊎ (AreFaultyVectors vectors text rows status line ⊎ IsOutputRefused output text rows status line)
SimRefuses input vectors output texts status line = ⊥

abbrev pub SimAccepts : List (List ℕ) → Type 0
SimAccepts (text ∷ rows ∷ []) = IsSimulable text rows
SimAccepts texts = ⊥

abbrev pub SimMakes : List ℕ → List (List ℕ) → List Write → List (List ℕ) → Type 0
SimMakes output (text ∷ rows ∷ []) writes lines = IsSimulation output text rows writes lines
SimMakes output texts writes lines = ⊥

abbrev pub sim_command : List ℕ → List ℕ → List ℕ → Command
sim_command input vectors output = record {
  inputs = input_of input mapped_bytes ∷ input_of vectors vector_bytes ∷ [];
  outputs = output ∷ [];
  Refuses = SimRefuses input vectors output;
  Accepts = SimAccepts;
  Makes = SimMakes output;
}
