-- The lines behind the counted ones, up to a line `c`: names for inputs, outputs and latches.
--     `c` 99, `i` 105, `l` 108, `o` 111
use Rattle.std.specs.Prelude.{ℕ, ◌+◌, Bool, ◌==◌, nat_lt, if◌then◌else◌, List, [], ◌∷◌, length, drop, take, replicate, slice_index_or, slice_set, position, codes, bytes_eq, Option, None, Some, is_some}
use Rattle.std.specs.List.{before_first}
use Rattle.aiger_read.specs.declared.fault.AigerKind.{AigerKind}
use Rattle.aiger_read.specs.declared.fault.AigerKind.TheVariants.{BadSymbol}
use Rattle.aiger_read.specs.declared.header.Header.{Header}
use Rattle.aiger_read.specs.Lines.{is_blank, is_number, number_in, line_at}
use Rattle.aiger_read.specs.Header.{counted}

-- What can be named, in the order in which names are given: the inputs, then the outputs, then the latches.
abbrev pub slot_count : Header → ℕ
slot_count h = h.inputs + h.outputs + h.latches

-- The number, in this order, of what a letter and a place name.
abbrev pub slot_of : Header → ℕ → ℕ → Option ℕ
slot_of h letter place =
    if letter == 105 then (if nat_lt place h.inputs then Some place else None) else
    if letter == 111 then (if nat_lt place h.outputs then Some (h.inputs + place) else None) else
    if letter == 108 then (if nat_lt place h.latches then Some (h.inputs + h.outputs + place) else None) else None

-- A symbol: what it names, and the name.
abbrev pub Symbol : Type 0
Symbol = ℕ × List ℕ

abbrev pub with_name : List ℕ → Option ℕ → Option Symbol
with_name name None = None
with_name name (Some slot) = Some (slot, name)

-- The symbol that a letter and the bytes up to a blank and behind it spell.
abbrev pub symbol_of : Header → ℕ → List ℕ → List ℕ → Option Symbol
symbol_of h letter place name = if is_number place then with_name name (slot_of h letter (number_in place)) else None

abbrev pub symbol_parted : Header → ℕ → List ℕ → Option ℕ → Option Symbol
symbol_parted h letter rest None = None
symbol_parted h letter rest (Some blank) = symbol_of h letter (take blank rest) (drop (blank + 1) rest)

-- The symbol of a line: a letter, a place, a blank, and the name, which goes to the end of the line.
unfoldable pub symbol_in : Header → List ℕ → Option Symbol
symbol_in h [] = None
symbol_in h (letter ∷ rest) = symbol_parted h letter rest (position is_blank rest)

abbrev pub is_comment : List ℕ → Bool
is_comment line = bytes_eq line (codes "c")

-- The lines of symbols.
unfoldable pub symbol_lines : Header → List (List ℕ) → List (List ℕ)
symbol_lines h lines = before_first is_comment (drop (1 + counted h) lines)

-- Names, with that of a symbol put in its place.
abbrev pub with_symbol : List (Option (List ℕ)) → Option Symbol → List (Option (List ℕ))
with_symbol names None = names
with_symbol names (Some s) = slice_set names s.0 (Some s.1)

abbrev pub with_symbols : Header → List (Option (List ℕ)) → List (List ℕ) → List (Option (List ℕ))
with_symbols h names [] = names
with_symbols h names (line ∷ lines) = with_symbols h (with_symbol names (symbol_in h line)) lines

-- The names that the symbols of lines give, by what they name.
unfoldable pub names_given : Header → List (List ℕ) → List (Option (List ℕ))
names_given h lines = with_symbols h (replicate (slot_count h) None) lines

-- The fault of a symbol where these names were given before: there is none, or what it names has a name.
abbrev pub fault_of_symbol : List (Option (List ℕ)) → Option Symbol → Option AigerKind
fault_of_symbol names None = Some BadSymbol
fault_of_symbol names (Some s) = if is_some (slice_index_or names s.0 None) then Some BadSymbol else None

-- The fault of a line, which may be empty, where these names were given before.
unfoldable pub fault_in_symbol : Header → List (Option (List ℕ)) → List ℕ → Option AigerKind
fault_in_symbol h names [] = None
fault_in_symbol h names (b ∷ line) = fault_of_symbol names (symbol_in h (b ∷ line))

-- The fault of the line at a place among the lines of symbols.
unfoldable pub fault_among_symbols : Header → List (List ℕ) → ℕ → Option AigerKind
fault_among_symbols h lines place =
    if nat_lt place (length lines) then fault_in_symbol h (names_given h (take place lines)) (line_at lines place) else None
