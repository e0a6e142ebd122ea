-- A text with several models: its lines as models, and the first fault of the lines.
use Rattle.std.specs.Prelude.{◌≡◌, ℕ, Bool, true, false, not, ◌&&◌, ◌==◌, if◌then◌else◌, nat_lt, List, [], ◌∷◌, ◌++◌, Option, None, Some, length, map, drop, take_while, option_map, bytes_eq, filter_map, codes, MatchResult, IsOkAnd}
use Rattle.std.specs.List.{list_any, list_all, before_first, after_first}
use Rattle.std.specs.Option.{option_or}
use Rattle.blif_lex.specs.Words.{Line, words_of, places_model}
use Rattle.blif_unit.specs.declared.fault.BlifKind.{BlifKind}
use Rattle.blif_unit.specs.declared.fault.BlifKind.TheVariants.{Misplaced, BadCount, BadBinding, RepeatedModel}
use Rattle.blif_unit.specs.declared.limits.Limits.{Limits}
use Rattle.blif_unit.specs.declared.unit.Binding.{Binding}
use Rattle.blif_unit.specs.Fault.{Faulty, IsLexed}
use Rattle.blif_unit.specs.Unit.{Told, Telling, Model, place}
use Rattle.blif_models.specs.Statement.{Block, Earlier, earlier, is_row, is_model, blocks_of, keyword_in, further, word_at, told_in, at_line, misplaced_first, fault_in_head, fault_after_head}

-- ---- a line that places a model

-- what stands before and after the first `=` of a binding word
abbrev pub formal_in : List ℕ → List ℕ
formal_in word = before_first (λ b. b == 61) word

abbrev pub actual_in : List ℕ → List ℕ
actual_in word = after_first (λ b. b == 61) word

-- Without an `=` nothing stands after it.
abbrev pub is_binding : List ℕ → Bool
is_binding word = nat_lt 0 (length (formal_in word)) && nat_lt 0 (length (actual_in word))

abbrev pub binding_of : List ℕ → Binding
binding_of word = record { formal = formal_in word; actual = actual_in word }

-- What such a line says, by its further words: the model's name, and then bindings.
abbrev pub place_in : List (List ℕ) → Told
place_in ws = place (word_at ws 0) (map binding_of (drop 1 ws))

-- The first rule that such a line breaks, by its further words.
abbrev pub fault_in_place : Earlier → List (List ℕ) → Option BlifKind
fault_in_place before ws =
    if before.ended then Some Misplaced else
    if length ws == 0 then Some BadCount else
    if not (list_all is_binding (drop 1 ws)) then Some BadBinding else None

-- ---- the statements of one model, after its `.model`

-- The first rule that the line of a statement breaks, after the lines of the statements before it in the model.
abbrev pub fault_in_line : Earlier → Line → Option BlifKind
fault_in_line before line =
    if places_model line.words then fault_in_place before (further line) else fault_in_head (keyword_in line) before (further line)

-- the first fault of a statement and its rows
unfoldable pub fault_in_part : Earlier → Block → Option Faulty
fault_in_part before part =
    option_or (at_line part.head (fault_in_line before part.head)) (fault_after_head (keyword_in part.head) (further part.head) part.rows)

-- `before` are the lines of the statements before these.
unfoldable pub fault_in_parts : List Line → List Block → Option Faulty
fault_in_parts before [] = None
fault_in_parts before (part ∷ parts) = option_or (fault_in_part (earlier before) part) (fault_in_parts (before ++ part.head ∷ []) parts)

-- what a statement says
abbrev pub told_in_part : Block → Option Told
told_in_part part =
    if places_model part.head.words then Some (place_in (further part.head))
    else told_in (keyword_in part.head) (further part.head) part.rows

abbrev pub telling_in_part : Block → Option Telling
telling_in_part part = option_map (λ told. record { line = part.head.number; what = told }) (told_in_part part)

-- ---- models

-- The statements of a model, behind its `.model`, which the first model of a text may lack.
pub record Section : Type 0 where
  pub head : Option Block
  pub parts : List Block

abbrev pub begins_model : Block → Bool
begins_model block = is_model (keyword_in block.head)

-- the statements up to the next `.model`
abbrev pub parts_before : List Block → List Block
parts_before blocks = take_while (λ block. not (begins_model block)) blocks

-- the models that begin with a `.model`
abbrev pub named_sections : List Block → List Section
named_sections [] = []
named_sections (block ∷ blocks) =
    if begins_model block then record { head = Some block; parts = parts_before blocks } ∷ named_sections blocks
    else named_sections blocks

abbrev pub begins_named : List Block → Bool
begins_named [] = false
begins_named (block ∷ blocks) = begins_model block

-- The models of a text. The first has no `.model` where there is none, and where another line stands before.
abbrev pub sections_of : List Block → List Section
sections_of blocks =
    if begins_named blocks then named_sections blocks else record { head = None; parts = parts_before blocks } ∷ named_sections blocks

abbrev pub name_at : Option Block → List ℕ
name_at None = codes "top"
name_at (Some block) = word_at (further block.head) 0

abbrev pub number_at : Option Block → ℕ
number_at None = 0
number_at (Some block) = block.head.number

-- The first rule that the further words of a `.model` break, after models with these names.
abbrev pub fault_in_model : List (List ℕ) → List (List ℕ) → Option BlifKind
fault_in_model models ws =
    if not (length ws == 1) then Some BadCount else if list_any (bytes_eq (word_at ws 0)) models then Some RepeatedModel else None

-- Rows after a `.model` are misplaced.
abbrev pub fault_at : List (List ℕ) → Option Block → Option Faulty
fault_at models None = None
fault_at models (Some block) = option_or (at_line block.head (fault_in_model models (further block.head))) (misplaced_first block.rows)

abbrev pub fault_in_section : List (List ℕ) → Section → Option Faulty
fault_in_section models section = option_or (fault_at models section.head) (fault_in_parts [] section.parts)

-- `models` are the names of the models before these.
unfoldable pub fault_in_sections : List (List ℕ) → List Section → Option Faulty
fault_in_sections models [] = None
fault_in_sections models (section ∷ sections) =
    option_or (fault_in_section models section) (fault_in_sections (models ++ name_at section.head ∷ []) sections)

-- The first fault of the lines of a text. Rows before any statement are misplaced.
abbrev pub fault_of_models : List Line → Option Faulty
fault_of_models lines = option_or (misplaced_first (take_while is_row lines)) (fault_in_sections [] (sections_of (blocks_of lines)))

-- A section as a model.
abbrev pub model_of_section : Section → Model
model_of_section section = record {
  name = name_at section.head;
  line = number_at section.head;
  body = filter_map telling_in_part section.parts;
}

-- the models of the lines of a text
abbrev pub models_in : List Line → List Model
models_in lines = map model_of_section (sections_of (blocks_of lines))

-- ---- texts

pub record AreModelsOfLines (lines : List Line) (models : List Model) : Type 0 where
  pub lawful : fault_of_models lines ≡ None
  pub all : models ≡ models_in lines

-- The models of a text: neither its words nor its lines are at fault.
abbrev pub AreModelsOf : Limits → List ℕ → List Model → Type 0
AreModelsOf limits text models = IsOkAnd (words_of limits.name true text) (λ lines. AreModelsOfLines lines models)

-- The first fault of a text in the first two passes of four: over the words, and over the lines.
abbrev pub IsFaultOfModels : Limits → List ℕ → Faulty → Type 0
IsFaultOfModels limits text fault =
    MatchResult (words_of limits.name true text) (λ lines. fault_of_models lines ≡ Some fault) (λ first. IsLexed first fault)
