-- The words of a BLIF text, by cutting lists: at each LF, at the first `#`, at what is blank at the end of a line,
-- at joins, and at blanks. Then the two faults of such a line, and the first fault of a text.
--     LF 10, CR 13, tab 9, blank 32, `#` 35, `=` 61, `\` 92
use Rattle.std.specs.Prelude.{ℕ, ◌<◌, ◌≤◌, ◌≢◌, ◌+◌, ◌-◌, Bool, false, not, ◌&&◌, ◌||◌, if◌then◌else◌, ◌==◌, ◌≡◌, nat_lt, nat_le, List, [], ◌∷◌, ◌++◌, length, map, take, drop, slice_index, Option, None, Some, Result, Ok, Err, codes}
use Rattle.std.specs.List.{All, filter, filter_map, flat_map, list_any, onto_first, slice_split, suffix_len, before_first, after_first}
use Rattle.std.specs.Option.{option_map}
use Rattle.std.specs.Str.{bytes_eq}
use Rattle.blif_lex.specs.declared.fault.LexFault.{LexFault}
use Rattle.blif_lex.specs.declared.fault.LexFault.TheVariants.{Text, NoMemory}
use Rattle.blif_lex.specs.declared.fault.LexKind.{LexKind}
use Rattle.blif_lex.specs.declared.fault.LexKind.TheVariants.{BadByte, LongName}

-- ---- physical lines

-- Each ends at an LF, which the last may lack.
abbrev pub physical_lines : List ℕ → List (List ℕ)
physical_lines [] = []
physical_lines (b ∷ bs) = if b == 10 then [] ∷ physical_lines bs else onto_first b (physical_lines bs)

-- what parts two words
abbrev pub is_blank : ℕ → Bool
is_blank b = (b == 32) || (b == 9)

-- what is dropped at the end of a line
abbrev pub is_trailing : ℕ → Bool
is_trailing b = is_blank b || (b == 13)

abbrev pub trimmed : List ℕ → List ℕ
trimmed bs = take (length bs - suffix_len is_trailing bs) bs

-- a physical line without its comment, and then without what is blank at its end
unfoldable pub content_of : List ℕ → List ℕ
content_of line = trimmed (before_first (λ b. b == 35) line)

-- ---- logical lines

-- a physical line with all that is joined to it, and the number of that first physical line, from 1
pub record Logical : Type 0 where
  pub number : ℕ
  pub bytes : List ℕ

-- whether the last byte is a `\`, by which the next physical line is joined
abbrev pub goes_on : List ℕ → Bool
goes_on content = slice_index content (length content - 1) == 92

-- a content without the `\` by which it goes on
abbrev pub unjoined : List ℕ → List ℕ
unjoined content = if goes_on content then take (length content - 1) content else content

-- The line that begins with these bytes and goes on in the first of the others. A blank stands for the join.
-- On the last physical line nothing is joined.
abbrev pub join_onto : ℕ → List ℕ → List Logical → List Logical
join_onto number bytes [] = record { number = number; bytes = bytes } ∷ []
join_onto number bytes (next ∷ others) = record { number = number; bytes = bytes ++ 32 ∷ next.bytes } ∷ others

-- the logical lines of the contents of physical lines, of which the first has this number
abbrev pub logical_lines : ℕ → List (List ℕ) → List Logical
logical_lines number [] = []
logical_lines number (c ∷ cs) =
    if goes_on c then join_onto number (unjoined c) (logical_lines (number + 1) cs)
    else record { number = number; bytes = c } ∷ logical_lines (number + 1) cs

-- ---- words

-- the longest runs of bytes other than blank and tab: what stands between two such bytes, where that is not empty
abbrev pub words_in : List ℕ → List (List ℕ)
words_in bytes = filter (λ w. nat_lt 0 (length w)) (slice_split is_blank bytes)

-- a logical line as the number of its first physical line, and its words
pub record Line : Type 0 where
  pub number : ℕ
  pub words : List (List ℕ)

abbrev pub line_of : Logical → Line
line_of l = record { number = l.number; words = words_in l.bytes }

-- the first words whose lines are skipped whole
abbrev pub is_skipped : List ℕ → Bool
is_skipped word = bytes_eq word (codes ".attr") || bytes_eq word (codes ".param") || bytes_eq word (codes ".cname")

-- A line without words is passed over.
abbrev pub is_kept : List (List ℕ) → Bool
is_kept [] = false
is_kept (first ∷ others) = not (is_skipped first)

-- the lines of a text, before they are tested
unfoldable pub lines_of : List ℕ → List Line
lines_of text = filter (λ l. is_kept l.words) (map line_of (logical_lines 1 (map content_of (physical_lines text))))

-- ---- faults

-- what may stand in a word
abbrev pub is_plain : ℕ → Bool
is_plain b = nat_le 33 b && nat_le b 126 && not (b == 92)

abbrev pub has_bad_byte : List ℕ → Bool
has_bad_byte word = list_any (λ b. not (is_plain b)) word

-- The two sides of the first `=`. Without a `=` the first side is the whole word, and the second is empty.
abbrev pub sides_of : List ℕ → List (List ℕ)
sides_of word = before_first (λ b. b == 61) word ∷ after_first (λ b. b == 61) word ∷ []

abbrev pub places_model : List (List ℕ) → Bool
places_model [] = false
places_model (first ∷ others) = bytes_eq first (codes ".subckt")

-- What the limit on names is kept by: each word. With the rule on bindings, the words after the second
-- on a line of `.subckt` are bindings `FORMAL=ACTUAL`, and each side is tested in place of the word.
abbrev pub names_in : Bool → List (List ℕ) → List (List ℕ)
names_in bindings words =
    if bindings && places_model words then take 2 words ++ flat_map sides_of (drop 2 words) else words

abbrev pub has_long_name : ℕ → Bool → List (List ℕ) → Bool
has_long_name name bindings words = list_any (λ n. nat_lt name (length n)) (names_in bindings words)

-- the fault of a line with these words
unfoldable pub fault_in : ℕ → Bool → List (List ℕ) → Option LexKind
fault_in name bindings words =
    if list_any has_bad_byte words then Some BadByte else if has_long_name name bindings words then Some LongName else None

-- the faults of the lines, in order
abbrev pub faults_of : ℕ → Bool → List Line → List LexFault
faults_of name bindings lines = filter_map (λ l. option_map (λ kind. Text l.number kind) (fault_in name bindings l.words)) lines

abbrev pub unless_fault : List LexFault → List Line → Result (List Line) LexFault
unless_fault [] lines = Ok lines
unless_fault (first ∷ others) lines = Err first

-- The lines of a text, or its first fault. `name` is the most bytes of a name, and `bindings` says whether
-- the rule on bindings is kept.
unfoldable pub words_of : ℕ → Bool → List ℕ → Result (List Line) LexFault
words_of name bindings text = unless_fault (faults_of name bindings (lines_of text)) (lines_of text)

-- a byte of a word of a lawful line; a `#` begins a comment, so it never stands in a word
abbrev pub IsPlainByte : ℕ → Type 0
IsPlainByte b = (33 ≤ b) × (b ≤ 126) × (b ≢ 35) × (b ≢ 92)

pub record IsPlainWord (word : List ℕ) : Type 0 where
  pub some : 0 < length word
  pub bytes : All IsPlainByte word

-- what each line of a text without fault is
pub record IsLawful (name : ℕ) (bindings : Bool) (line : Line) : Type 0 where
  pub numbered : 0 < line.number
  pub some : 0 < length line.words
  pub plain : All IsPlainWord line.words
  pub short : All (λ n. length n ≤ name) (names_in bindings line.words)

-- A fault that a call answers is the one that the text has. Want of memory says nothing of the text.
abbrev pub IsFaultOf : LexFault → Result (List Line) LexFault → Type 0
IsFaultOf (Text line kind) answer = answer ≡ Err (Text line kind)
IsFaultOf NoMemory answer = Unit {0}
