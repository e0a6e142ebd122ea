-- Steps over the lines of a text with several models.
use Rattle.std.specs.Prelude.{◌≡◌, ℕ, ◌+◌, ◌<◌, ◌≤◌, true, false, List, [], ◌++◌, Some, None, length, map, drop, take_while, filter_map}
use Rattle.blif_lex.specs.Words.{Line}
use Rattle.blif_lex.specs.Spans.{nth_line}
use Rattle.blif_unit.specs.Unit.{Telling, Model}
use Rattle.blif_models.specs.Statement.{Block, is_row, is_model, blocks_of, keyword_in, further, word_at}
use Rattle.blif_models.specs.Several.{Section, fault_at, fault_in_parts, fault_in_sections, fault_of_models, model_of_section, parts_before, named_sections, sections_of, telling_in_part}

-- a line with the rows behind it
abbrev pub head_at : List Line → ℕ → Block
head_at lines line = record { head = nth_line lines line; rows = take_while is_row (drop (line + 1) lines) }

-- The line is a lawful `.model` that gives this name, after models with these names. No row follows it.
pub record IsNewModel (models : List (List ℕ)) (lines : List Line) (line : ℕ) (name : List ℕ) : Type 0 where
  pub is : name ≡ word_at (further (nth_line lines line)) 0
  pub lawful : fault_at models (Some (head_at lines line)) ≡ None
  pub onward : line + 1 < length lines → is_row (nth_line lines (line + 1)) ≡ false

-- The statements of a model from one line up to another, at which the next model begins.
pub record ArePartsFrom (lines : List Line) (start end : ℕ) (body : List Telling) : Type 0 where
  pub lawful : fault_in_parts [] (parts_before (blocks_of (drop start lines))) ≡ None
  pub told : body ≡ filter_map telling_in_part (parts_before (blocks_of (drop start lines)))
  pub rest : named_sections (blocks_of (drop start lines)) ≡ named_sections (blocks_of (drop end lines))
  pub begun : start < end → is_model (keyword_in (nth_line lines start)) ≡ false
  pub order : start ≤ end
  pub within : end ≤ length lines
  pub stop : end < length lines → is_model (keyword_in (nth_line lines end)) ≡ true

-- The lines up to one are read as models, and nothing in them is at fault. These are the names of the models.
pub record HasModels (lines : List Line) (line : ℕ) (names : List (List ℕ)) (models : List Model) : Type 0 where
  pub done : List Section
  pub split : sections_of (blocks_of lines) ≡ done ++ named_sections (blocks_of (drop line lines))
  pub fault : fault_of_models lines ≡ fault_in_sections names (named_sections (blocks_of (drop line lines)))
  pub models_is : models ≡ map model_of_section done
  pub within : line ≤ length lines
  pub stop : line < length lines → is_model (keyword_in (nth_line lines line)) ≡ true
