-- The statements of a text: what its lines say by their first words, and the first fault of the lines.
use Rattle.std.specs.Prelude.{ℕ, ◌-◌, Bool, true, false, not, ◌&&◌, ◌||◌, if◌then◌else◌, ◌==◌, nat_lt, List, [], ◌∷◌, ◌++◌, Option, None, Some, length, map, take, drop, take_while, option_map, option_to_list, slice_get, slice_index_or, bytes_eq, flat_map, filter_map, codes}
use Rattle.std.specs.List.{list_any, list_all}
use Rattle.std.specs.Option.{option_or}
use Rattle.tm_bits.specs.Rows.{Rows}
use Rattle.tm_bits.specs.declared.cover.Place.{Place}
use Rattle.tm_bits.specs.declared.cover.Place.TheVariants.{Zero, One, Any}
use Rattle.tm_circuit.specs.declared.parts.Edge.{Edge}
use Rattle.tm_circuit.specs.declared.parts.Edge.TheVariants.{Rise, Fall}
use Rattle.blif_lex.specs.Words.{Line}
use Rattle.blif_unit.specs.declared.fault.BlifKind.{BlifKind}
use Rattle.blif_unit.specs.declared.fault.BlifKind.TheVariants.{UnknownWord, LeftOut, Misplaced, BadCount, TooManyPins, RepeatedDriver, RepeatedOutput, BadRow, MixedRows, BadType, BadInit, UnknownInit, ManyClocks}
use Rattle.blif_models.specs.declared.keyword.Keyword.{Keyword}
use Rattle.blif_models.specs.declared.keyword.Keyword.TheVariants.{Model, Inputs, Outputs, Clock, Names, Latch, End, Omitted, Unknown, Row}
use Rattle.blif_unit.specs.declared.unit.Control.{Control}
use Rattle.blif_models.specs.Keyword.{keyword_at}
use Rattle.blif_unit.specs.Unit.{Told, Telling, inputs, outputs, clock, gate, latch}
pub use Rattle.blif_unit.specs.Unit.{repeats, differ}
use Rattle.blif_unit.specs.Fault.{Faulty}

-- ---- words of a line

abbrev pub keyword_in : Line → Keyword
keyword_in line = keyword_at (slice_index_or line.words 0 [])

-- the words after the first
abbrev pub further : Line → List (List ℕ)
further line = drop 1 line.words

-- the further word with this number, from 0; the last; those before the last
abbrev pub word_at : List (List ℕ) → ℕ → List ℕ
word_at ws i = slice_index_or ws i []

abbrev pub last_of : List (List ℕ) → List ℕ
last_of ws = word_at ws (length ws - 1)

abbrev pub but_last : List (List ℕ) → List (List ℕ)
but_last ws = take (length ws - 1) ws

-- ---- statements with their rows

-- A statement's line and the rows after it, up to the next statement.
pub record Block : Type 0 where
  pub head : Line
  pub rows : List Line

abbrev pub begins_row : Keyword → Bool
begins_row Row = true
begins_row _ = false

abbrev pub is_row : Line → Bool
is_row line = begins_row (keyword_in line)

unfoldable pub blocks_of : List Line → List Block
blocks_of [] = []
blocks_of (line ∷ lines) =
    if is_row line then blocks_of lines
    else record { head = line; rows = take_while is_row lines } ∷ blocks_of lines

-- ---- names by the first word k of a line and its further words ws

-- the names that the line drives: inputs, the output of a latch, the output of a gate
abbrev pub drivers_in : Keyword → List (List ℕ) → List (List ℕ)
drivers_in Inputs ws = ws
drivers_in Latch ws = word_at ws 1 ∷ []
drivers_in Names ws = last_of ws ∷ []
drivers_in _ ws = []

abbrev pub outputs_in : Keyword → List (List ℕ) → List (List ℕ)
outputs_in Outputs ws = ws
outputs_in _ ws = []

-- The type and the name of a latch's control. A control `NIL` counts as none.
abbrev pub control_in : List (List ℕ) → Option (List ℕ × List ℕ)
control_in ws = if nat_lt 3 (length ws) && not (bytes_eq (word_at ws 3) (codes "NIL")) then Some (word_at ws 2, word_at ws 3) else None

-- the controls that a line has: one where it is a latch
abbrev pub controls_in : Keyword → List (List ℕ) → List (Option (List ℕ × List ℕ))
controls_in Latch ws = control_in ws ∷ []
controls_in _ ws = []

-- the clock names that the line brings
abbrev pub clocks_in : Keyword → List (List ℕ) → List (List ℕ)
clocks_in Clock ws = ws
clocks_in Latch ws = option_to_list (option_map (λ control. control.1) (control_in ws))
clocks_in _ ws = []

-- what a function of the first word and the further words gives, over all lines in order
abbrev pub over_lines : {A : Type 0} → (Keyword → List (List ℕ) → List A) → List Line → List A
over_lines f lines = flat_map (λ line. f (keyword_in line) (further line)) lines

-- ---- rules on a statement's line, after the statements' lines before it

abbrev pub same_control : Option (List ℕ × List ℕ) → Option (List ℕ × List ℕ) → Bool
same_control None None = true
same_control (Some a) (Some b) = bytes_eq a.0 b.0 && bytes_eq a.1 b.1
same_control _ _ = false

-- a control that differs from that of the first latch, where there was one
abbrev pub differs_from_first : Option (Option (List ℕ × List ℕ)) → Option (List ℕ × List ℕ) → Bool
differs_from_first None control = false
differs_from_first (Some first) control = not (same_control first control)

abbrev pub is_unknown : Keyword → Bool
is_unknown Unknown = true
is_unknown _ = false

abbrev pub is_model : Keyword → Bool
is_model Model = true
is_model _ = false

abbrev pub is_end : Keyword → Bool
is_end End = true
is_end _ = false

abbrev pub is_some_line : List Line → Bool
is_some_line [] = false
is_some_line (line ∷ lines) = true

-- What the rules ask of the statements' lines before a line.
pub record Earlier : Type 0 where
  -- whether there is a statement, a `.model`, an `.end`
  pub some : Bool
  pub named : Bool
  pub ended : Bool
  -- the names driven, and the names of outputs
  pub drivers : List (List ℕ)
  pub outputs : List (List ℕ)
  -- the first clock name, and the control of the first latch
  pub clock : Option (List ℕ)
  pub control : Option (Option (List ℕ × List ℕ))

abbrev pub earlier : List Line → Earlier
earlier lines = record {
  some = is_some_line lines;
  named = list_any (λ line. is_model (keyword_in line)) lines;
  ended = list_any (λ line. is_end (keyword_in line)) lines;
  drivers = over_lines drivers_in lines;
  outputs = over_lines outputs_in lines;
  clock = slice_get (over_lines clocks_in lines) 0;
  control = slice_get (over_lines controls_in lines) 0;
}

-- a word that is left out, or a second `.model`
abbrev pub is_left_out : Keyword → Earlier → Bool
is_left_out Omitted before = true
is_left_out Model before = before.named
is_left_out _ before = false

-- a line after `.end`, or a `.model` after another statement
abbrev pub is_misplaced : Keyword → Earlier → Bool
is_misplaced Model before = before.some
is_misplaced _ before = before.ended

abbrev pub has_bad_count : Keyword → List (List ℕ) → Bool
has_bad_count Model ws = not (length ws == 1)
has_bad_count Latch ws = nat_lt (length ws) 2 || nat_lt 5 (length ws)
has_bad_count Names ws = length ws == 0
has_bad_count End ws = nat_lt 0 (length ws)
has_bad_count _ ws = false

abbrev pub has_too_many_pins : Keyword → List (List ℕ) → Bool
has_too_many_pins Names ws = nat_lt 256 (length ws)
has_too_many_pins _ ws = false

abbrev pub is_type : List ℕ → Bool
is_type word = bytes_eq word (codes "re") || bytes_eq word (codes "fe")

abbrev pub has_bad_type : Keyword → List (List ℕ) → Bool
has_bad_type Latch ws = nat_lt 3 (length ws) && not (is_type (word_at ws 2))
has_bad_type _ ws = false

-- whether the last further word of a latch is an initial value
abbrev pub has_init : List (List ℕ) → Bool
has_init ws = length ws == 3 || length ws == 5

abbrev pub is_init : List ℕ → Bool
is_init word = bytes_eq word (codes "0") || bytes_eq word (codes "1") || bytes_eq word (codes "2") || bytes_eq word (codes "3")

abbrev pub has_bad_init : Keyword → List (List ℕ) → Bool
has_bad_init Latch ws = has_init ws && not (is_init (last_of ws))
has_bad_init _ ws = false

abbrev pub has_unknown_init : Keyword → List (List ℕ) → Bool
has_unknown_init Latch ws = not (has_init ws) || bytes_eq (last_of ws) (codes "3")
has_unknown_init _ ws = false

-- A second different clock name, or a latch whose control is not that of the first latch.
abbrev pub has_many_clocks : Keyword → Earlier → List (List ℕ) → Bool
has_many_clocks Clock before ws = differ (option_to_list before.clock ++ ws)
has_many_clocks Latch before ws =
    differ (option_to_list before.clock ++ clocks_in Latch ws) || differs_from_first before.control (control_in ws)
has_many_clocks _ before ws = false

-- The first rule, in their order, that a statement's line breaks.
unfoldable pub fault_in_head : Keyword → Earlier → List (List ℕ) → Option BlifKind
fault_in_head k before ws =
    if is_unknown k then Some UnknownWord else
    if is_left_out k before then Some LeftOut else
    if is_misplaced k before then Some Misplaced else
    if has_bad_count k ws then Some BadCount else
    if has_too_many_pins k ws then Some TooManyPins else
    if repeats before.drivers (drivers_in k ws) then Some RepeatedDriver else
    if repeats before.outputs (outputs_in k ws) then Some RepeatedOutput else
    if has_bad_type k ws then Some BadType else
    if has_bad_init k ws then Some BadInit else
    if has_unknown_init k ws then Some UnknownInit else
    if has_many_clocks k before ws then Some ManyClocks else None

-- ---- rules on rows

abbrev pub is_bit : List ℕ → Bool
is_bit word = bytes_eq word (codes "0") || bytes_eq word (codes "1")

abbrev pub is_place : ℕ → Bool
is_place b = b == 48 || b == 49 || b == 45

-- Words of a row of a gate with so many pins: a place for each pin, where it has some, and a bit.
abbrev pub is_row_of : ℕ → List (List ℕ) → Bool
is_row_of pins row =
    if pins == 0 then length row == 1 && is_bit (last_of row)
    else length row == 2 && length (word_at row 0) == pins && list_all is_place (word_at row 0) && is_bit (last_of row)

-- the output of a row
abbrev pub output_of : List (List ℕ) → Bool
output_of row = bytes_eq (last_of row) (codes "1")

abbrev pub differs : Bool → Bool → Bool
differs true b = not b
differs false b = b

-- `first` is the output of the first row of the same gate.
abbrev pub fault_in_row : ℕ → Bool → List (List ℕ) → Option BlifKind
fault_in_row pins first row =
    if not (is_row_of pins row) then Some BadRow else if differs first (output_of row) then Some MixedRows else None

abbrev pub at_line : Line → Option BlifKind → Option Faulty
at_line line fault = option_map (λ kind. (line.number, kind)) fault

-- the first fault among rows of a gate with so many pins
unfoldable pub fault_in_rows : ℕ → Bool → List Line → Option Faulty
fault_in_rows pins first [] = None
fault_in_rows pins first (row ∷ rows) = option_or (at_line row (fault_in_row pins first row.words)) (fault_in_rows pins first rows)

-- The rows of a gate all have the same output, which says what they list. Without rows the gate is 0.
abbrev pub is_on : List Line → Bool
is_on [] = true
is_on (row ∷ rows) = output_of row.words

abbrev pub misplaced_first : List Line → Option Faulty
misplaced_first [] = None
misplaced_first (row ∷ rows) = Some (row.number, Misplaced)

-- Rows belong to a `.names`; after any other statement they are misplaced.
abbrev pub fault_after_head : Keyword → List (List ℕ) → List Line → Option Faulty
fault_after_head Names ws rows = fault_in_rows (length ws - 1) (is_on rows) rows
fault_after_head _ ws rows = misplaced_first rows

-- ---- the first fault of the lines

-- the first fault of a statement and its rows
unfoldable pub fault_in_block : Earlier → Block → Option Faulty
fault_in_block before block =
    option_or (at_line block.head (fault_in_head (keyword_in block.head) before (further block.head)))
    (fault_after_head (keyword_in block.head) (further block.head) block.rows)

-- `before` are the lines of the statements before these.
unfoldable pub fault_in_blocks : List Line → List Block → Option Faulty
fault_in_blocks before [] = None
fault_in_blocks before (block ∷ blocks) =
    option_or (fault_in_block (earlier before) block) (fault_in_blocks (before ++ block.head ∷ []) blocks)

-- Rows before any statement are misplaced.
abbrev pub fault_of_lines : List Line → Option Faulty
fault_of_lines lines = option_or (misplaced_first (take_while is_row lines)) (fault_in_blocks [] (blocks_of lines))

-- ---- what statements say

abbrev pub place_of : ℕ → Place
place_of b = if b == 48 then Zero else if b == 49 then One else Any

-- the places of a row: its first word, and none where that is its output
abbrev pub places_of : List (List ℕ) → List Place
places_of row = if length row == 1 then [] else map place_of (word_at row 0)

abbrev pub cover_of : List Line → Rows
cover_of rows = record { on = is_on rows; rows = map (λ row. places_of row.words) rows }

-- an initial value `2` counts as 0
abbrev pub init_of : List (List ℕ) → Bool
init_of ws = bytes_eq (last_of ws) (codes "1")

abbrev pub edge_of : List ℕ → Edge
edge_of word = if bytes_eq word (codes "re") then Rise else Fall

abbrev pub control_named : Option (List ℕ × List ℕ) → Option Control
control_named control = option_map (λ words. record { name = words.1; edge = edge_of words.0 }) control

abbrev pub told_in : Keyword → List (List ℕ) → List Line → Option Told
told_in Inputs ws rows = Some (inputs ws)
told_in Outputs ws rows = Some (outputs ws)
told_in Clock ws rows = Some (clock ws)
told_in Names ws rows = Some (gate (but_last ws) (last_of ws) (cover_of rows))
told_in Latch ws rows = Some (latch (word_at ws 0) (word_at ws 1) (init_of ws) (control_named (control_in ws)))
told_in _ ws rows = None

abbrev pub telling_in : Block → Option Telling
telling_in block =
    option_map (λ told. record { line = block.head.number; what = told }) (told_in (keyword_in block.head) (further block.head) block.rows)

-- the statements of a text
abbrev pub body_of : List Line → List Telling
body_of lines = filter_map telling_in (blocks_of lines)

-- the lines of the statements
abbrev pub heads_of : List Block → List Line
heads_of blocks = map (λ block. block.head) blocks
