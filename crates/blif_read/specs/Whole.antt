-- The circuit of a unit that places no model, and the first fault of its statements: the last of four passes.
use Rattle.std.specs.Prelude.{◌≡◌, ℕ, Bool, true, false, not, ◌&&◌, ◌||◌, if◌then◌else◌, nat_lt, List, [], ◌∷◌, ◌++◌, Option, None, Some, length, option_map, option_to_list, slice_get, bytes_eq, flat_map, MatchOption}
use Rattle.std.specs.List.{list_any}
use Rattle.std.specs.Option.{option_or}
use Rattle.tm_circuit.specs.declared.parts.Edge.{Edge}
use Rattle.tm_circuit.specs.declared.parts.Edge.TheVariants.{Rise, Fall}
use Rattle.tm_circuit.specs.Plain.{Plain}
use Rattle.blif_unit.specs.declared.fault.BlifKind.{BlifKind}
use Rattle.blif_unit.specs.declared.fault.BlifKind.TheVariants.{LongName, RepeatedDriver, ManyClocks}
use Rattle.blif_unit.specs.declared.limits.Limits.{Limits}
use Rattle.blif_unit.specs.declared.unit.Control.{Control}
use Rattle.blif_unit.specs.Fault.{Faulty}
use Rattle.blif_unit.specs.Fit.{names_told}
use Rattle.blif_unit.specs.Unit.{Told, Telling, Model, latch, drivers_told, clocks_told, over, repeats, differ}
use Rattle.blif_circuit.specs.Circuit.{clock_name, IsCircuitOfModel, IsFaultOfModel}

-- ---- clocks

-- the control, or the lack of one, that a statement has as a latch
abbrev pub controls_told : Told → List (Option Control)
controls_told (latch next name init control) = control ∷ []
controls_told _ = []

-- What the rules ask of the statements before one: the names driven, the first clock name, and the control of the first latch.
pub record Before : Type 0 where
  pub drivers : List (List ℕ)
  pub clock : Option (List ℕ)
  pub control : Option (Option Control)

abbrev pub before : List Telling → Before
before body = record {
  drivers = over drivers_told body;
  clock = clock_name body;
  control = slice_get (flat_map (λ t. controls_told t.what) body) 0;
}

abbrev pub same_edge : Edge → Edge → Bool
same_edge Rise Rise = true
same_edge Fall Fall = true
same_edge _ _ = false

abbrev pub are_same_controls : Option Control → Option Control → Bool
are_same_controls None None = true
are_same_controls (Some a) (Some b) = same_edge a.edge b.edge && bytes_eq a.name b.name
are_same_controls _ _ = false

-- a control that is not that of the first latch, where there was one
abbrev pub is_another_control : Option (Option Control) → Option Control → Bool
is_another_control None control = false
is_another_control (Some first) control = not (are_same_controls first control)

-- A second different clock name, or a latch whose control is not that of the first latch.
abbrev pub brings_other_clock : Before → Told → Bool
brings_other_clock seen told =
    differ (option_to_list seen.clock ++ clocks_told told) || list_any (is_another_control seen.control) (controls_told told)

-- ---- faults

-- The first rule that a statement breaks after those before it, where a name may have so many bytes.
abbrev pub fault_in_statement : ℕ → Before → Told → Option BlifKind
fault_in_statement name seen told =
    if list_any (λ n. nat_lt name (length n)) (names_told told) then Some LongName else
    if repeats seen.drivers (drivers_told told) then Some RepeatedDriver else
    if brings_other_clock seen told then Some ManyClocks else None

-- `done` are the statements before these.
unfoldable pub fault_in_statements : ℕ → List Telling → List Telling → Option Faulty
fault_in_statements name done [] = None
fault_in_statements name done (t ∷ ts) =
    option_or (option_map (λ kind. (t.line, kind)) (fault_in_statement name (before done) t.what))
    (fault_in_statements name (done ++ t ∷ []) ts)

-- The circuit of a unit: no statement is at fault, nor are the statements as a whole.
pub record IsCircuitOfUnit (limits : Limits) (m : Model) (c : Plain) : Type 0 where
  pub lawful : fault_in_statements limits.name [] m.body ≡ None
  pub circuit : IsCircuitOfModel limits.signals m c

-- The first fault of a unit: of one statement in order, or else of the statements as a whole.
abbrev pub IsFaultOfUnit : Limits → Model → Faulty → Type 0
IsFaultOfUnit limits m fault =
    MatchOption (fault_in_statements limits.name [] m.body) (IsFaultOfModel limits.signals m fault) (λ first. fault ≡ first)
