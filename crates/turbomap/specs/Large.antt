-- `large N K D`, as a command: it reads and writes no file.
use Rattle.std.specs.Prelude.{◌≡◌, ℕ, List, [], ◌∷◌}
use Rattle.tm_texts.specs.Large.{IsLarge}
use Rattle.turbomap.specs.Command.{Write, Command}
use Rattle.turbomap.specs.Line.{large_line}

-- the line says the period, and the numbers of tables, registers and drops, of a mapping of the sample and its certificate, which is
-- accepted
pub record IsSummary (number k d : ℕ) (lines : List (List ℕ)) : Type 0 where
  pub period : ℕ
  pub tables : ℕ
  pub registers : ℕ
  pub drops : ℕ
  pub large : IsLarge number k d period tables registers drops
  pub lines_are : lines ≡ large_line number period tables registers drops ∷ []

-- nothing is read, so there is nothing to refuse
abbrev pub LargeAccepts : List (List ℕ) → Type 0
LargeAccepts [] = Unit {0}
LargeAccepts texts = ⊥

-- nothing is written
abbrev pub LargeMakes : ℕ → ℕ → ℕ → List (List ℕ) → List Write → List (List ℕ) → Type 0
LargeMakes number k d [] [] lines = IsSummary number k d lines
LargeMakes number k d texts writes lines = ⊥

abbrev pub large_command : ℕ → ℕ → ℕ → Command
large_command number k d = record {
  inputs = [];
  outputs = [];
  Refuses = λ texts status line. ⊥;
  Accepts = LargeAccepts;
  Makes = LargeMakes number k d;
}
