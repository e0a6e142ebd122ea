-- The circuit and the first fault of an AIGER text.
use Rattle.std.specs.Prelude.{◌≡◌, ◌⊎◌, ℕ, ◌+◌, Bool, not, ◌&&◌, ◌==◌, nat_lt, if◌then◌else◌, List, [], ◌∷◌, length, position, Option, None, Some, option_map, MatchOption}
use Rattle.std.specs.List.{list_any}
use Rattle.std.specs.Option.{option_or}
use Rattle.tm_circuit.specs.Plain.{Plain}
use Rattle.tm_circuit.specs.Chain.{HasCircle}
use Rattle.blif_read.specs.declared.Limits.{Limits}
use Rattle.aiger_read.specs.declared.fault.AigerFault.{AigerFault}
use Rattle.aiger_read.specs.declared.fault.AigerFault.TheVariants.{Text, NoMemory}
use Rattle.aiger_read.specs.declared.fault.AigerKind.TheVariants.{Undriven, TooManySignals, Loop}
use Rattle.aiger_read.specs.declared.statement.Statement.{Statement}
use Rattle.aiger_read.specs.declared.statement.Statement.TheVariants.{Input, Latch, Output, And}
use Rattle.aiger_read.specs.Lines.{lines_of}
use Rattle.aiger_read.specs.Header.{header_of, counted}
use Rattle.aiger_read.specs.Statements.{variable_of, statements, defined_in}
use Rattle.aiger_read.specs.Symbols.{symbol_lines, names_given}
use Rattle.aiger_read.specs.Faults.{Faulty, AreLawful, IsFirstFault}
use Rattle.aiger_read.specs.Circuit.{sections_in, circuit_of}

-- What the counted lines say.
unfoldable pub body_of : List (List ℕ) → List Statement
body_of lines = statements (header_of lines) lines (counted (header_of lines))

-- The circuit that lines spell.
unfoldable pub spelled_by : Limits → List (List ℕ) → Plain
spelled_by limits lines =
    circuit_of limits.name (header_of lines) (names_given (header_of lines) (symbol_lines (header_of lines) lines))
    (sections_in (body_of lines))

-- ---- faults of the whole

-- The literals that a statement uses.
abbrev pub uses : Statement → List ℕ
uses (Input literal) = []
uses (Latch l) = l.next ∷ []
uses (Output literal) = literal ∷ []
uses (And a) = a.left ∷ a.right ∷ []

-- A literal of a variable that is none of these and not the constant.
abbrev pub is_undriven : List ℕ → ℕ → Bool
is_undriven variables literal = not (variable_of literal == 0) && not (list_any (λ v. variable_of literal == v) variables)

abbrev pub uses_undriven : List ℕ → Statement → Bool
uses_undriven variables s = list_any (is_undriven variables) (uses s)

-- The least line that uses a variable which no line defines. The first counted line is line 2.
abbrev pub undriven_line : List Statement → Option ℕ
undriven_line body = option_map (λ k. k + 2) (position (uses_undriven (defined_in body)) body)

-- The fault of the whole but for circles, where at most `limit` signals are allowed.
unfoldable pub fault_in_whole : ℕ → List Statement → ℕ → Option Faulty
fault_in_whole limit body signals =
    option_or (option_map (λ line. (line, Undriven)) (undriven_line body)) (if nat_lt limit signals then Some (0, TooManySignals) else None)

abbrev pub whole_fault : Limits → List (List ℕ) → Option Faulty
whole_fault limits lines = fault_in_whole limits.signals (body_of lines) (length (spelled_by limits lines).drives)

-- ---- answers

-- The circuit of lines: no line is at fault, nor the whole, the lines spell it, and no gates read one another in a circle.
pub record IsCircuitOfLines (limits : Limits) (lines : List (List ℕ)) (c : Plain) : Type 0 where
  pub lawful : AreLawful lines
  pub whole : whole_fault limits lines ≡ None
  pub spelled : c ≡ spelled_by limits lines
  pub open_ended : ¬ HasCircle c.drives

-- The circuit of a text.
abbrev pub IsCircuitOf : Limits → List ℕ → Plain → Type 0
IsCircuitOf limits text c = IsCircuitOfLines limits (lines_of text) c

-- The circuit that the lines spell has a circle.
abbrev pub HasLoop : Limits → List (List ℕ) → Faulty → Type 0
HasLoop limits lines fault = (fault ≡ (0, Loop)) × HasCircle (spelled_by limits lines).drives

abbrev pub IsWholeFault : Limits → List (List ℕ) → Faulty → Type 0
IsWholeFault limits lines fault = MatchOption (whole_fault limits lines) (HasLoop limits lines fault) (λ first. fault ≡ first)

-- The first fault of lines: of a line, or else of the whole.
abbrev pub IsFaultOfLines : Limits → List (List ℕ) → Faulty → Type 0
IsFaultOfLines limits lines fault = IsFirstFault lines fault ⊎ (AreLawful lines × IsWholeFault limits lines fault)

-- The first fault of a text.
abbrev pub IsFaultOf : Limits → List ℕ → Faulty → Type 0
IsFaultOf limits text fault = IsFaultOfLines limits (lines_of text) fault

-- A fact about the fault that a call answers. Want of memory says nothing of the text.
abbrev pub OnText : AigerFault → (Faulty → Type 0) → Type 0
OnText (Text line kind) P = P (line, kind)
OnText NoMemory P = Unit {0}
