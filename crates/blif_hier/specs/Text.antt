-- The circuit and the first fault of a text with one or several models, in four passes: over the words, over the lines, over the
-- lines that place models, and over the flat unit.
use Rattle.std.specs.Prelude.{◌≡◌, ℕ, true, List, None, MatchOption, MatchResult, IsOkAnd}
use Rattle.tm_circuit.specs.Plain.{Plain}
use Rattle.blif_lex.specs.Words.{Line, words_of}
use Rattle.blif_unit.specs.declared.limits.Limits.{Limits}
use Rattle.blif_unit.specs.Unit.{Model}
use Rattle.blif_models.specs.Several.{fault_of_models, models_in}
use Rattle.blif_flat.specs.Flat.{flat_of}
use Rattle.blif_flat.specs.Hier.{IsFlatOf, IsFaultOfPlaces}
use Rattle.blif_read.specs.Whole.{IsCircuitOfUnit, IsFaultOfUnit}
pub use Rattle.tm_parts.specs.Names.{HasNamesWithin}
pub use Rattle.blif_unit.specs.Fault.{Faulty, OnText, IsLexed, fault_by}

-- ---- models

-- The circuit of models of which the first is the top: none is at fault where others are placed, and the flat unit has the circuit.
pub record IsCircuitOfModels (limits : Limits) (models : List Model) (c : Plain) : Type 0 where
  pub placed : IsFlatOf models (flat_of models)
  pub circuit : IsCircuitOfUnit limits (flat_of models) c

-- The first fault of models in the last two of four passes: where models are placed, or else in the flat unit.
pub data IsFaultOfHierarchy (limits : Limits) (models : List Model) (fault : Faulty) : Type 0 where
  in_places : IsFaultOfPlaces models fault → IsFaultOfHierarchy limits models fault
  in_flat : IsFlatOf models (flat_of models) → IsFaultOfUnit limits (flat_of models) fault → IsFaultOfHierarchy limits models fault

-- ---- texts

-- The circuit of a text's lines: no line is at fault, and the models of the lines have the circuit.
pub record IsCircuitOfLines (limits : Limits) (lines : List Line) (c : Plain) : Type 0 where
  pub lawful : fault_of_models lines ≡ None
  pub circuit : IsCircuitOfModels limits (models_in lines) c

-- The circuit of a text.
abbrev pub IsCircuitOf : Limits → List ℕ → Plain → Type 0
IsCircuitOf limits text c = IsOkAnd (words_of limits.name true text) (λ lines. IsCircuitOfLines limits lines c)

-- The first fault of a text's lines: of one line in order, or else of the models.
abbrev pub IsFaultOfLines : Limits → List Line → Faulty → Type 0
IsFaultOfLines limits lines fault =
    MatchOption (fault_of_models lines) (IsFaultOfHierarchy limits (models_in lines) fault) (λ first. fault ≡ first)

-- The first fault of a text.
abbrev pub IsFaultOf : Limits → List ℕ → Faulty → Type 0
IsFaultOf limits text fault =
    MatchResult (words_of limits.name true text) (λ lines. IsFaultOfLines limits lines fault) (λ first. IsLexed first fault)
