-- The lines of a text, and the numbers of a line.
--     LF 10, CR 13, blank 32, `0` 48
use Rattle.std.specs.Prelude.{ℕ, ◌-◌, Bool, not, ◌&&◌, ◌==◌, nat_lt, nat_le, if◌then◌else◌, List, [], ◌∷◌, map, length, take, slice_index, slice_index_or}
use Rattle.std.specs.List.{list_all, slice_split}
use Rattle.std.specs.Str.{all_ascii_digits}
use Rattle.std.specs.Str.Parse.{digits_value}
use Rattle.aiger_read.specs.Limits.{most_number}

-- ---- lines

abbrev pub ends_in_cr : List ℕ → Bool
ends_in_cr line = slice_index line (length line - 1) == 13

-- A line without the CR before its LF.
abbrev pub without_cr : List ℕ → List ℕ
without_cr line = if ends_in_cr line then take (length line - 1) line else line

-- What is read of a piece that no LF ends. A CR at its end stays, and the piece is then of no form: so the CR alone is read.
abbrev pub unended : List ℕ → List ℕ
unended piece = if ends_in_cr piece then 13 ∷ [] else piece

-- The last piece is a line where it is not empty.
abbrev pub last_line : List ℕ → List (List ℕ)
last_line [] = []
last_line (b ∷ piece) = unended (b ∷ piece) ∷ []

-- The lines of pieces between LFs.
abbrev pub lines_in : List (List ℕ) → List (List ℕ)
lines_in [] = []
lines_in (piece ∷ []) = last_line piece
lines_in (piece ∷ next ∷ pieces) = without_cr piece ∷ lines_in (next ∷ pieces)

-- The lines of a text, which is cut at each LF.
abbrev pub lines_of : List ℕ → List (List ℕ)
lines_of text = lines_in (slice_split (λ b. b == 10) text)

-- The line at a place, counted from 0; an empty line past the end.
abbrev pub line_at : List (List ℕ) → ℕ → List ℕ
line_at lines place = slice_index_or lines place []

-- ---- numbers

abbrev pub is_blank : ℕ → Bool
is_blank b = b == 32

-- The words of a line are what blanks part. Where two blanks stand side by side, or one at an end, a word is empty.
abbrev pub words_in : List ℕ → List (List ℕ)
words_in line = slice_split is_blank line

-- The number that digits spell.
abbrev pub number_in : List ℕ → ℕ
number_in word = digits_value 10 word

-- Whether a word begins with a zero that other digits follow.
abbrev pub has_leading_zero : List ℕ → Bool
has_leading_zero word = (slice_index word 0 == 48) && nat_lt 1 (length word)

-- Whether a word is a number: decimal digits alone, one or more, no leading zero, and no more than the greatest number.
unfoldable pub is_number : List ℕ → Bool
is_number word = nat_lt 0 (length word) && all_ascii_digits word && not (has_leading_zero word) && nat_le (number_in word) most_number

-- The numbers that words spell; none where some word is no number.
abbrev pub numbers_in : List (List ℕ) → List ℕ
numbers_in words = if list_all is_number words then map number_in words else []

-- The numbers of a line; none where some word of it is no number.
unfoldable pub numbers_on : List ℕ → List ℕ
numbers_on line = numbers_in (words_in line)
