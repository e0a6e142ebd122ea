-- Lines as stretches of one list of words.
use Rattle.std.specs.Prelude.{◌≡◌, ℕ, ◌+◌, ◌≤◌, ◌<◌, ◌^◌, Bool, List, [], ◌∷◌, ◌++◌, length, map, drop, slice_range, slice_index_or}
use Rattle.std.specs.List.{AllByRecursion}
use Rattle.blif_lex.specs.Words.{Line, faults_of}
use Rattle.blif_lex.specs.Steps.{kept}
use Rattle.blif_lex.specs.declared.fault.LexFault.{LexFault}
use Rattle.blif_lex.specs.declared.fault.LexFault.TheVariants.{Text, NoMemory}
use Rattle.blif_lex.specs.declared.lines.Span.{Span}

-- the line that has these of the words
abbrev pub line_at : List (List ℕ) → Span → Line
line_at words span = record { number = span.number; words = slice_range words span.start span.end }

abbrev pub lines_at : List (List ℕ) → List Span → List Line
lines_at words spans = map (line_at words) spans

-- The stretch has a word, and is a part of n words.
pub record IsWithin (n : ℕ) (span : Span) : Type 0 where
  pub some : span.start < span.end
  pub inside : span.end ≤ n

-- Each stretch is a part of n words, and a u32 counts them.
pub record AreWithin (n : ℕ) (spans : List Span) : Type 0 where
  pub each : AllByRecursion (IsWithin n) spans
  pub few : length spans < 2 ^ 32

-- the line with this index
abbrev pub nth_line : List Line → ℕ → Line
nth_line lines i = slice_index_or lines i (record { number = 0; words = [] })

-- A line was ended: it is the last line now where it is kept, it has no fault then, and nothing else changed.
pub record EndsLine (name : ℕ) (bindings : Bool) (number start : ℕ) (before : List (List ℕ)) (old : List Span)
    (after : List (List ℕ)) (new : List Span) : Type 0 where
  pub lines : lines_at after new ≡ lines_at before old ++ kept (record { number = number; words = drop start before } ∷ [])
  pub lawful : faults_of name bindings (kept (record { number = number; words = drop start before } ∷ [])) ≡ []
  pub within : AllByRecursion (IsWithin (length after)) new
  pub more : length new ≤ length old + 1

-- The fault is that of a line with this number and these words, which is kept.
abbrev pub RefusesLine : ℕ → Bool → ℕ → List (List ℕ) → LexFault → Type 0
RefusesLine name bindings number words (Text line kind) =
    faults_of name bindings (kept (record { number = number; words = words } ∷ [])) ≡ Text line kind ∷ []
RefusesLine name bindings number words NoMemory = Unit {0}
