-- The vectors text: its lines, its rows or its first fault, and the text of rows.
--     LF 10, `0` 48, `1` 49
use Rattle.std.specs.Prelude.{◌≡◌, ℕ, ◌||◌, ◌==◌, if◌then◌else◌, Bool, List, [], ◌∷◌, ◌++◌, length, map, Option, None, Some, Result, Ok, Err}
use Rattle.std.specs.List.{slice_split, list_all, filter_map, flat_map, enumerate_from}
use Rattle.std.specs.Option.{option_map}
use Rattle.tm_sim.specs.declared.vectors.VectorFault.{VectorFault}
use Rattle.tm_sim.specs.declared.vectors.VectorFault.TheVariants.{Text, NoMemory}
use Rattle.tm_sim.specs.declared.vectors.VectorKind.{VectorKind}
use Rattle.tm_sim.specs.declared.vectors.VectorKind.TheVariants.{Byte, Width}

-- ---- from text to lines

-- The piece alone, or none where it is empty.
abbrev pub unless_empty : List ℕ → List (List ℕ)
unless_empty [] = []
unless_empty (b ∷ bs) = (b ∷ bs) ∷ []

-- Pieces without a last one that is empty.
abbrev pub counted : List (List ℕ) → List (List ℕ)
counted [] = []
counted (piece ∷ []) = unless_empty piece
counted (piece ∷ next ∷ more) = piece ∷ counted (next ∷ more)

-- The lines of a text: it is cut at each LF, and what follows the last LF counts where it isn't empty.
abbrev pub lines_of : List ℕ → List (List ℕ)
lines_of text = counted (slice_split (λ b. b == 10) text)

-- ---- from lines to rows

-- The bytes that stand for bits.
abbrev pub is_bit_byte : ℕ → Bool
is_bit_byte b = (b == 48) || (b == 49)

-- The fault of a line of such a width, where it has one.
abbrev pub fault_in : ℕ → List ℕ → Option VectorKind
fault_in width line =
    if list_all is_bit_byte line then (if length line == width then None else Some Width) else Some Byte

-- The bits that a line spells.
abbrev pub row_of : List ℕ → List Bool
row_of line = map (λ b. b == 49) line

-- The fault of a line with its number.
abbrev pub numbered_fault : ℕ → ℕ × List ℕ → Option VectorFault
numbered_fault width line = option_map (λ kind. Text line.0 kind) (fault_in width line.1)

-- The faults of lines in order, where the first line has this number.
abbrev pub faults_from : ℕ → ℕ → List (List ℕ) → List VectorFault
faults_from width number lines = filter_map (numbered_fault width) (enumerate_from number lines)

-- The rows, or the first fault where there is one.
abbrev pub unless_fault : List VectorFault → List (List Bool) → Result (List (List Bool)) VectorFault
unless_fault [] rows = Ok rows
unless_fault (first ∷ others) rows = Err first

-- The rows of lines, or the first fault, where the first line has this number.
abbrev pub vectors_from : ℕ → ℕ → List (List ℕ) → Result (List (List Bool)) VectorFault
vectors_from width number lines = unless_fault (faults_from width number lines) (map row_of lines)

-- The rows of a text for a width, or its first fault. Lines are numbered from 1.
abbrev pub vectors_of : ℕ → List ℕ → Result (List (List Bool)) VectorFault
vectors_of width text = vectors_from width 1 (lines_of text)

-- A fault that a call answers is the one that the text has. Want of memory says nothing of the text.
abbrev pub IsFaultOf : VectorFault → Result (List (List Bool)) VectorFault → Type 0
IsFaultOf (Text line kind) answer = answer ≡ Err (Text line kind)
IsFaultOf NoMemory answer = Unit {0}

-- ---- from rows to text

-- The byte of a bit.
abbrev pub byte_of : Bool → ℕ
byte_of bit = if bit then 49 else 48

-- The line of a row, with its LF.
abbrev pub line_of : List Bool → List ℕ
line_of row = map byte_of row ++ 10 ∷ []

-- The text of rows.
abbrev pub text_of : List (List Bool) → List ℕ
text_of rows = flat_map line_of rows
