-- `show IN`: the report of the circuit of a text, and the command.
use Rattle.std.specs.Prelude.{ℕ, List, [], ◌∷◌}
use Rattle.tm_circuit.specs.Plain.{Plain}
use Rattle.tm_report.specs.Report.{IsReport}
use Rattle.text_read.specs.Texts.{IsCircuitOf}
use Rattle.turbomap.specs.declared.status.Status.{Status}
use Rattle.turbomap.specs.Command.{Write, Command, input_of}
use Rattle.tm_texts.specs.Limits.{mapped_bytes, mapped_limits}
use Rattle.turbomap.specs.Texts.{IsFaultyText}

-- the text has a circuit
pub record IsShowable (text : List ℕ) : Type 0 where
  pub circuit : Plain
  pub of_text : IsCircuitOf mapped_limits text circuit

-- the lines are the report of the circuit of the text
pub record IsShown (text : List ℕ) (lines : List (List ℕ)) : Type 0 where
  pub circuit : Plain
  pub of_text : IsCircuitOf mapped_limits text circuit
  pub report : IsReport circuit lines

abbrev pub ShowRefuses : List ℕ → List (List ℕ) → Status → List ℕ → Type 0
ShowRefuses input (text ∷ []) status line = IsFaultyText mapped_limits input text status line
ShowRefuses input texts status line = ⊥

abbrev pub ShowAccepts : List (List ℕ) → Type 0
ShowAccepts (text ∷ []) = IsShowable text
ShowAccepts texts = ⊥

-- nothing is written
abbrev pub ShowMakes : List (List ℕ) → List Write → List (List ℕ) → Type 0
ShowMakes (text ∷ []) [] lines = IsShown text lines
ShowMakes texts writes lines = ⊥

abbrev pub show_command : List ℕ → Command
show_command input = record {
  inputs = input_of input mapped_bytes ∷ [];
  outputs = [];
  Refuses = ShowRefuses input;
  Accepts = ShowAccepts;
  Makes = ShowMakes;
}
