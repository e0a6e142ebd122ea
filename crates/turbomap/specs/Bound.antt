-- `bound K D B IN`, as a command: it refuses what `map` refuses, and writes no file.
use Rattle.std.specs.Prelude.{◌≡◌, ℕ, List, [], ◌∷◌}
use Rattle.tm_texts.specs.Bounds.{IsBound}
use Rattle.tm_texts.specs.Limits.{source_bytes}
use Rattle.turbomap.specs.Command.{Write, Command, input_of}
use Rattle.turbomap.specs.Line.{bound_line}
use Rattle.turbomap.specs.Map.{MapRefuses, MapAccepts}

-- the line says the two-way bound of the text
pub record IsBounded (k d b : ℕ) (text : List ℕ) (lines : List (List ℕ)) : Type 0 where
  pub period : ℕ
  pub bound : IsBound k d b text period
  pub lines_are : lines ≡ bound_line period ∷ []

-- nothing is written
abbrev pub BoundMakes : ℕ → ℕ → ℕ → List (List ℕ) → List Write → List (List ℕ) → Type 0
BoundMakes k d b (text ∷ []) [] lines = IsBounded k d b text lines
BoundMakes k d b texts writes lines = ⊥

abbrev pub bound_command : ℕ → ℕ → ℕ → List ℕ → Command
bound_command k d b input = record {
  inputs = input_of input source_bytes ∷ [];
  outputs = [];
  Refuses = MapRefuses k input;
  Accepts = MapAccepts k;
  Makes = BoundMakes k d b;
}
