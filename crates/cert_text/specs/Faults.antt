-- The forms that the lines of a certificate's text must have, and the first fault of a text.
-- Which form is due at a place follows from what the lines before it say, and each line is tested by itself.
--     LF 10
use Rattle.std.specs.Prelude.{◌≡◌, ℕ, ◌+◌, ◌<◌, Bool, true, false, ◌&&◌, ◌||◌, ◌==◌, nat_lt, nat_le, if◌then◌else◌, List, [], ◌∷◌, ◌++◌, length, replicate, drop, slice_get, slice_index_or, codes, bytes_eq, Option, None, Some, Result, Ok, Err}
use Rattle.std.specs.List.{list_all, slice_split}
use Rattle.cert_text.specs.declared.keyword.Keyword.{Keyword}
use Rattle.cert_text.specs.declared.keyword.Keyword.TheVariants.{Period, Tables, Table, Drops, Drop, End}
use Rattle.cert_text.specs.declared.fault.CertFault.{CertFault}
use Rattle.cert_text.specs.declared.fault.CertFault.TheVariants.{Text, NoMemory}
use Rattle.cert_text.specs.declared.fault.CertKind.{CertKind}
use Rattle.cert_text.specs.declared.fault.CertKind.TheVariants.{Version, Word, Number, Ending}
use Rattle.cert_text.specs.Limits.{most_number, most_drops, most_steps}
use Rattle.cert_text.specs.Words.{words_in, word_at, is_number, is_leaf, is_walk, number_on}
use Rattle.cert_text.specs.Certificates.{Certificate, IsCertificateOf}

-- ---- forms

-- The form of a line: that of the first line, which tells the version, or that of a line with a keyword.
pub data Form : Type 0 where
  first : Form
  later : Keyword → Form

-- The word of a keyword, with which its line begins.
abbrev pub keyword_word : Keyword → List ℕ
keyword_word Period = codes "period"
keyword_word Tables = codes "tables"
keyword_word Table = codes "table"
keyword_word Drops = codes "drops"
keyword_word Drop = codes "drop"
keyword_word End = codes "end"

-- Whether a line of a keyword may have so many words. A table may have no leaf, and a drop has a walk.
abbrev pub takes : Keyword → ℕ → Bool
takes Period many = many == 2
takes Tables many = many == 2
takes Table many = nat_le 3 many
takes Drops many = many == 2
takes Drop many = nat_le 5 many
takes End many = many == 1

-- Whether words are those of a keyword's line: its word first, so many as it takes, and none empty.
unfoldable pub has_words : Keyword → List (List ℕ) → Bool
has_words keyword words =
    bytes_eq (word_at words 0) (keyword_word keyword) && takes keyword (length words) && list_all (λ word. nat_lt 0 (length word)) words

-- Whether the words after the keyword are the numbers, the leaves or the walks that stand on its line.
unfoldable pub has_numbers : Keyword → List (List ℕ) → Bool
has_numbers Period words = is_number most_number (word_at words 1)
has_numbers Tables words = is_number most_number (word_at words 1)
has_numbers Table words =
    is_number most_number (word_at words 1) && is_number most_steps (word_at words 2) && list_all is_leaf (drop 3 words)
has_numbers Drops words = is_number most_drops (word_at words 1)
has_numbers Drop words =
    is_number most_number (word_at words 1) && is_number most_steps (word_at words 2) && is_number most_number (word_at words 3)
    && list_all is_walk (drop 4 words)
has_numbers End words = true

-- Whether a line, without its LF, is one of the two that tell the version.
abbrev pub is_version : List ℕ → Bool
is_version line = bytes_eq line (codes "turbomap 1") || bytes_eq line (codes "turbomap 2")

-- The fault of a line against a form: its words come before its numbers.
unfoldable pub fault_in : Form → List ℕ → Option CertKind
fault_in first line = if is_version line then None else Some Version
fault_in (later keyword) line =
    if has_words keyword (words_in line) then (if has_numbers keyword (words_in line) then None else Some Number) else Some Word

-- ---- places

-- A text is cut at each LF. Its pieces but the last are lines with their LF; the last is what follows the last LF, and is empty
-- where the text ends with an LF.
abbrev pub pieces_of : List ℕ → List (List ℕ)
pieces_of text = slice_split (λ b. b == 10) text

-- The forms of the lines of a text with so many tables and so many drops, in order.
abbrev pub forms_for : ℕ → ℕ → List Form
forms_for tables drops =
    (first ∷ later Period ∷ later Tables ∷ replicate tables (later Table)) ++ (later Drops ∷ replicate drops (later Drop)) ++ later End ∷ []

-- The tables are as many as the third line says, and the drops as many as the line says that is due after the tables.
abbrev pub tables_said : List (List ℕ) → ℕ
tables_said pieces = number_on (slice_index_or pieces 2 [])

abbrev pub drops_said : List (List ℕ) → ℕ
drops_said pieces = number_on (slice_index_or pieces (3 + tables_said pieces) [])

-- The forms that are due in a text. No form depends on a line that is not before it.
abbrev pub forms_due : List (List ℕ) → List Form
forms_due pieces = forms_for (tables_said pieces) (drops_said pieces)

-- The fault at a place, by the form that is due, by whether a line with its LF stands there, and by what stands there.
-- Where a line is due, one with its LF must stand; where none is due, nothing may.
abbrev pub fault_of : Option Form → Bool → List ℕ → Option CertKind
fault_of (Some form) true line = fault_in form line
fault_of (Some form) false line = Some Ending
fault_of None true line = Some Ending
fault_of None false [] = None
fault_of None false (b ∷ bs) = Some Ending

-- The fault at a place of pieces, counted from 0, where these forms are due.
unfoldable pub fault_at : List Form → List (List ℕ) → ℕ → Option CertKind
fault_at forms pieces place = fault_of (slice_get forms place) (nat_lt (place + 1) (length pieces)) (slice_index_or pieces place [])

-- A place has a fault, and no place before it has one.
pub record IsFirstAt (forms : List Form) (pieces : List (List ℕ)) (place : ℕ) (kind : CertKind) : Type 0 where
  pub here : fault_at forms pieces place ≡ Some kind
  pub before : (other : ℕ) → other < place → fault_at forms pieces other ≡ None

-- The first fault of a text: its line, counted from 1, and its kind.
pub record IsFirstFault (text : List ℕ) (line : ℕ) (kind : CertKind) : Type 0 where
  pub place : ℕ
  pub numbered : line ≡ 1 + place
  pub first : IsFirstAt (forms_due (pieces_of text)) (pieces_of text) place kind

-- ---- answers

-- What a text has: a certificate, or a first fault.
abbrev pub IsAnswer : List ℕ → Result Certificate CertFault → Type 0
IsAnswer text (Ok c) = IsCertificateOf text c
IsAnswer text (Err (Text line kind)) = IsFirstFault text line kind
IsAnswer text (Err NoMemory) = ⊥

-- A fault that a call answers is the first that the text has. Want of memory says nothing of the text.
abbrev pub IsFaultOf : List ℕ → CertFault → Type 0
IsFaultOf text (Text line kind) = IsFirstFault text line kind
IsFaultOf text NoMemory = Unit {0}
