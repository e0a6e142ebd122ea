-- The first fault of the lines of a text.
use Rattle.std.specs.Prelude.{◌≡◌, ℕ, ◌+◌, ◌-◌, ◌<◌, ◌==◌, nat_lt, nat_le, if◌then◌else◌, List, length, Option, None, Some}
use Rattle.aiger_read.specs.declared.fault.AigerKind.{AigerKind}
use Rattle.aiger_read.specs.declared.fault.AigerKind.TheVariants.{Ending}
use Rattle.aiger_read.specs.declared.header.Header.{Header}
use Rattle.aiger_read.specs.Lines.{line_at, numbers_on}
use Rattle.aiger_read.specs.Header.{header_numbers, fault_in_header, header_of, counted}
use Rattle.aiger_read.specs.Statements.{role_at, statements, defined_in, fault_in_line}
use Rattle.aiger_read.specs.Symbols.{symbol_lines, fault_among_symbols}

-- a fault and its line
abbrev pub Faulty : Type 0
Faulty = ℕ × AigerKind

-- The fault at the place of a counted line, behind the lines before it.
unfoldable pub fault_at_counted : Header → List (List ℕ) → ℕ → Option AigerKind
fault_at_counted h lines place =
    if nat_lt place (length lines)
    then fault_in_line h (defined_in (statements h lines (place - 1))) (role_at h place) (numbers_on (line_at lines place))
    else Some Ending

-- The fault at a place, counted from 0: of the header, of a counted line, or of a symbol.
unfoldable pub fault_at : List (List ℕ) → ℕ → Option AigerKind
fault_at lines place =
    if place == 0 then fault_in_header (header_numbers (line_at lines 0)) else
    if nat_le place (counted (header_of lines)) then fault_at_counted (header_of lines) lines place else
    fault_among_symbols (header_of lines) (symbol_lines (header_of lines) lines) (place - 1 - counted (header_of lines))

-- No line has a fault.
pub record AreLawful (lines : List (List ℕ)) : Type 0 where
  pub each : (place : ℕ) → fault_at lines place ≡ None

-- The first fault of the lines: no place before has one. Lines are counted from 1.
pub record IsFirstFault (lines : List (List ℕ)) (fault : Faulty) : Type 0 where
  pub place : ℕ
  pub numbered : fault.0 ≡ 1 + place
  pub here : fault_at lines place ≡ Some fault.1
  pub before : (other : ℕ) → other < place → fault_at lines other ≡ None
