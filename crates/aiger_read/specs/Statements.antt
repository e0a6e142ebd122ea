-- The counted lines: what the line at a place has to be, what it says, and its fault.
use Rattle.std.specs.Prelude.{ℕ, ◌+◌, ◌*◌, ◌/◌, ◌%◌, Bool, true, false, not, ◌&&◌, ◌||◌, ◌==◌, nat_lt, nat_le, if◌then◌else◌, List, [], ◌∷◌, map, length, take, slice_index, flat_map, Option, None, Some}
use Rattle.std.specs.List.{list_any, range_with_len}
use Rattle.aiger_read.specs.declared.fault.AigerKind.{AigerKind}
use Rattle.aiger_read.specs.declared.fault.AigerKind.TheVariants.{BadLine, BadLiteral, Repeated, BadReset, UnknownInit}
use Rattle.aiger_read.specs.declared.header.Header.{Header}
use Rattle.aiger_read.specs.declared.statement.Role.{Role}
use Rattle.aiger_read.specs.declared.statement.Role.TheVariants as role
use Rattle.aiger_read.specs.declared.statement.Statement.{Statement}
use Rattle.aiger_read.specs.declared.statement.Statement.TheVariants.{Input, Latch, Output, And}
use Rattle.aiger_read.specs.Lines.{line_at, numbers_on}

-- What the line at a place, counted from 0 at the header, has to be: first the inputs, then the latches, the outputs, the ands.
unfoldable pub role_at : Header → ℕ → Role
role_at h place =
    if nat_le place h.inputs then role.Input else
    if nat_le place (h.inputs + h.latches) then role.Latch else
    if nat_le place (h.inputs + h.latches + h.outputs) then role.Output else role.And

-- ---- what a line says

-- A literal is a variable, or its negation where it is odd. The variable 0 is the constant.
abbrev pub variable_of : ℕ → ℕ
variable_of literal = literal / 2

-- What the numbers of a line say. A missing reset is 0.
abbrev pub statement_in : Role → List ℕ → Statement
statement_in role.Input numbers = Input (slice_index numbers 0)
statement_in role.Latch numbers =
    Latch (record { literal = slice_index numbers 0; next = slice_index numbers 1; reset = slice_index numbers 2 == 1 })
statement_in role.Output numbers = Output (slice_index numbers 0)
statement_in role.And numbers =
    And (record { literal = slice_index numbers 0; left = slice_index numbers 1; right = slice_index numbers 2 })

-- The variables that a statement defines.
abbrev pub defines : Statement → List ℕ
defines (Input literal) = variable_of literal ∷ []
defines (Latch l) = variable_of l.literal ∷ []
defines (Output literal) = []
defines (And a) = variable_of a.literal ∷ []

abbrev pub defined_in : List Statement → List ℕ
defined_in body = flat_map defines body

abbrev pub statement_at : Header → List (List ℕ) → ℕ → Statement
statement_at h lines place = statement_in (role_at h place) (numbers_on (line_at lines place))

-- What so many of the counted lines say, from the first on.
unfoldable pub statements : Header → List (List ℕ) → ℕ → List Statement
statements h lines many = map (statement_at h lines) (range_with_len 1 many)

-- ---- faults

abbrev pub is_defining : Role → Bool
is_defining role.Output = false
is_defining _ = true

abbrev pub takes : Role → ℕ → Bool
takes role.Input many = many == 1
takes role.Latch many = many == 2 || many == 3
takes role.Output many = many == 1
takes role.And many = many == 3

-- The literals of a line: all its numbers, but for a reset.
abbrev pub literals_on : Role → List ℕ → List ℕ
literals_on role.Latch numbers = take 2 numbers
literals_on _ numbers = numbers

-- A literal is past the last variable.
abbrev pub has_literal_past : Header → Role → List ℕ → Bool
has_literal_past h role numbers = list_any (λ literal. nat_lt (2 * h.variables + 1) literal) (literals_on role numbers)

-- Whether a literal cannot be defined since it is negated or the constant.
abbrev pub is_indefinable : ℕ → Bool
is_indefinable literal = literal % 2 == 1 || literal == 0

abbrev pub has_bad_literal : Header → Role → List ℕ → Bool
has_bad_literal h role numbers = has_literal_past h role numbers || (is_defining role && is_indefinable (slice_index numbers 0))

-- A variable that was defined before is defined again.
abbrev pub repeats : List ℕ → Role → List ℕ → Bool
repeats before role numbers = is_defining role && list_any (λ v. variable_of (slice_index numbers 0) == v) before

abbrev pub has_reset : Role → List ℕ → Bool
has_reset role.Latch numbers = length numbers == 3
has_reset _ numbers = false

-- A reset to the latch's own literal says that any value may come first.
abbrev pub has_unknown_reset : Role → List ℕ → Bool
has_unknown_reset role numbers = has_reset role numbers && slice_index numbers 2 == slice_index numbers 0

abbrev pub has_bad_reset : Role → List ℕ → Bool
has_bad_reset role numbers =
    has_reset role numbers && not (nat_le (slice_index numbers 2) 1) && not (slice_index numbers 2 == slice_index numbers 0)

-- The fault of a line by its numbers, where these variables were defined before.
unfoldable pub fault_in_line : Header → List ℕ → Role → List ℕ → Option AigerKind
fault_in_line h before role numbers =
    if not (takes role (length numbers)) then Some BadLine else
    if has_bad_literal h role numbers then Some BadLiteral else
    if repeats before role numbers then Some Repeated else
    if has_bad_reset role numbers then Some BadReset else
    if has_unknown_reset role numbers then Some UnknownInit else None
