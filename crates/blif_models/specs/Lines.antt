-- The model of the lines of a text with one.
use Rattle.std.specs.Prelude.{ℕ, List, Option, option_map, unwrap_or, find, codes}
use Rattle.std.specs.List.{AllByRecursion}
use Rattle.tm_circuit.specs.Sound.{IsName}
use Rattle.blif_lex.specs.Words.{Line}
use Rattle.blif_unit.specs.Unit.{Model}
use Rattle.blif_models.specs.Statement.{keyword_in, is_model, further, word_at, body_of, heads_of, blocks_of}

-- The name and the line that the `.model` among the statements' lines gives, `top` and 0 where there is none.
abbrev pub model_line : List Line → Option Line
model_line heads = find (λ line. is_model (keyword_in line)) heads

abbrev pub name_among : List Line → List ℕ
name_among heads = unwrap_or (option_map (λ line. word_at (further line) 0) (model_line heads)) (codes "top")

abbrev pub number_among : List Line → ℕ
number_among heads = unwrap_or (option_map (λ line. line.number) (model_line heads)) 0

-- The model of a text with one: its name, the line of its `.model`, and its statements.
abbrev pub model_in : List Line → Model
model_in lines = record {
  name = name_among (heads_of (blocks_of lines));
  line = number_among (heads_of (blocks_of lines));
  body = body_of lines;
}

-- Each word is one that a text may have.
abbrev pub AreNamed : List Line → Type 0
AreNamed lines = AllByRecursion (λ line. AllByRecursion IsName line.words) lines
