-- The circuit and the first fault of a text with one model.
use Rattle.std.specs.Prelude.{◌≡◌, ℕ, false, List, None, MatchOption, MatchResult, IsOkAnd}
use Rattle.tm_circuit.specs.Plain.{Plain}
use Rattle.blif_lex.specs.Words.{Line, words_of}
use Rattle.blif_unit.specs.declared.limits.Limits.{Limits}
pub use Rattle.tm_parts.specs.Names.{HasNamesWithin}
pub use Rattle.blif_unit.specs.Fault.{Faulty, OnText, IsLexed, kind_of, fault_by}
pub use Rattle.blif_models.specs.Lines.{model_line, name_among, number_among, model_in, AreNamed}
use Rattle.blif_models.specs.Statement.{fault_of_lines}
use Rattle.blif_circuit.specs.Circuit.{IsCircuitOfModel, IsFaultOfModel}

-- The circuit of a text's lines: no line is at fault, and the model of the lines has the circuit.
pub record IsCircuitOfLines (limits : Limits) (lines : List Line) (c : Plain) : Type 0 where
  pub lawful : fault_of_lines lines ≡ None
  pub circuit : IsCircuitOfModel limits.signals (model_in lines) c

-- The circuit of a text with one model.
abbrev pub IsCircuitOf : Limits → List ℕ → Plain → Type 0
IsCircuitOf limits text c = IsOkAnd (words_of limits.name false text) (λ lines. IsCircuitOfLines limits lines c)

-- The first fault of a text's lines: of one line in order, or else of the statements as a whole.
abbrev pub IsFaultOfLines : Limits → List Line → Faulty → Type 0
IsFaultOfLines limits lines fault =
    MatchOption (fault_of_lines lines) (IsFaultOfModel limits.signals (model_in lines) fault) (λ first. fault ≡ first)

-- The first fault of a text with one model, in three passes: over the words, over the lines, over the whole.
abbrev pub IsFaultOf : Limits → List ℕ → Faulty → Type 0
IsFaultOf limits text fault =
    MatchResult (words_of limits.name false text) (λ lines. IsFaultOfLines limits lines fault) (λ first. IsLexed first fault)
