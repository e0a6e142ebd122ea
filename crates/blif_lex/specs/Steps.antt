-- What one step over a text does: a logical line is taken from its front, and is kept or not.
use Rattle.std.specs.Prelude.{◌≡◌, ℕ, ◌+◌, ◌<◌, ◌≤◌, List, ◌∷◌, ◌++◌, length, map}
use Rattle.std.specs.List.{filter}
use Rattle.blif_lex.specs.Words.{Line, line_of, is_kept, logical_lines, content_of, physical_lines}

-- all logical lines of a text whose first physical line has this number, also those without words
unfoldable pub all_lines : ℕ → List ℕ → List Line
all_lines number text = map line_of (logical_lines number (map content_of (physical_lines text)))

-- those that are kept
abbrev pub kept : List Line → List Line
kept lines = filter (λ l. is_kept l.words) lines

-- The words after those that were there before are those of the text's first logical line, which is
-- that many physical lines, and the rest follows it.
pub record BeginsWith (text : List ℕ) (taken : ℕ) (before after : List (List ℕ)) (rest : List ℕ) : Type 0 where
  pub words : (line : List (List ℕ)) × (after ≡ before ++ line)
      × ((n : ℕ) → all_lines n text ≡ record { number = n; words = line } ∷ all_lines (n + taken) rest)
  pub some : 0 < taken
  pub shorter : taken + length rest ≤ length text
