-- The circuit that the statements of a model spell, and the first fault of the statements as a whole.
use Rattle.std.specs.Prelude.{◌≡◌, ℕ, Bool, false, not, ◌||◌, if◌then◌else◌, nat_lt, List, [], ◌∷◌, ◌++◌, Option, None, Some, length, map, filter, min, position, option_map, option_to_list, slice_get, bytes_eq, flat_map, MatchOption}
use Rattle.std.specs.List.{list_any}
use Rattle.std.specs.Option.{option_or}
use Rattle.tm_bits.specs.Rows.{Rows}
use Rattle.tm_circuit.specs.declared.parts.Clock.{Clock}
use Rattle.tm_circuit.specs.declared.parts.Edge.{Edge}
use Rattle.tm_circuit.specs.Plain.{Plain, Drive}
use Rattle.tm_circuit.specs.Plain as plain
use Rattle.tm_circuit.specs.Chain.{HasCircle}
use Rattle.blif_unit.specs.declared.fault.BlifKind.{BlifKind}
use Rattle.blif_unit.specs.declared.fault.BlifKind.TheVariants.{Undriven, GatedClock, ClockAsData, TooManySignals, Loop}
use Rattle.blif_unit.specs.Unit as told
pub use Rattle.blif_unit.specs.Fault.{Faulty}
use Rattle.blif_unit.specs.Unit.{Told, Telling, Model, inputs_told, outputs_told, latch_told, gate_told, drivers_told, uses_told, clocks_told, control_told, over}

-- ---- the clock

-- The clock's name. Where it is brought several times it is the same each time.
abbrev pub clock_name : List Telling → Option (List ℕ)
clock_name body = slice_get (over clocks_told body) 0

abbrev pub is_named : Option (List ℕ) → List ℕ → Bool
is_named None n = false
is_named (Some name) n = bytes_eq n name

abbrev pub is_clock : List Telling → List ℕ → Bool
is_clock body n = is_named (clock_name body) n

abbrev pub declared_told : Told → List (List ℕ)
declared_told (told.clock names) = names
declared_told _ = []

abbrev pub edges_of : List Telling → List Edge
edges_of body = flat_map (λ t. option_to_list (option_map (λ control. control.edge) (control_told t.what))) body

-- The clock: the edge of the latches that name it, whether a `.clock` declares it, and its place among all names of inputs.
abbrev pub clock_in : List Telling → Option Clock
clock_in body = option_map (λ n. record {
  name = n;
  edge = slice_get (edges_of body) 0;
  declared = list_any (bytes_eq n) (over declared_told body);
  place = position (bytes_eq n) (over inputs_told body);
}) (clock_name body)

-- ---- signals and what drives them

-- the inputs: the clock is none
abbrev pub inputs_of : List Telling → List (List ℕ)
inputs_of body = filter (λ n. not (is_clock body n)) (over inputs_told body)

-- The signals in order: the inputs, the latches, the gates, each in the order of the text.
abbrev pub names_of : List Telling → List (List ℕ)
names_of body = inputs_of body ++ over latch_told body ++ over gate_told body

-- What drives a signal, by the names of what it reads. None stands for a number that is no signal.
pub data Reading : Type 0 where
  input : Reading
  latch : Option (List ℕ) → Bool → Reading
  gate : List (Option (List ℕ)) → Rows → Reading

-- a drive in these names
abbrev pub reading : List (List ℕ) → Drive → Reading
reading names plain.input = input
reading names (plain.latch next init) = latch (slice_get names next) init
reading names (plain.gate pins cover) = gate (map (slice_get names) pins) cover

abbrev pub latches_read : Told → List Reading
latches_read (told.latch next name init control) = latch (Some next) init ∷ []
latches_read _ = []

abbrev pub gates_read : Told → List Reading
gates_read (told.gate pins name cover) = gate (map Some pins) cover ∷ []
gates_read _ = []

-- What the statements say of each signal, in the order of the signals.
abbrev pub readings_of : List Telling → List Reading
readings_of body = map (λ _. input) (inputs_of body) ++ flat_map (λ t. latches_read t.what) body ++ flat_map (λ t. gates_read t.what) body

-- The circuit is what the model's statements spell: each use of a name is the signal with that name.
pub record IsSpelled (m : Model) (c : Plain) : Type 0 where
  pub model : c.model ≡ m.name
  pub clock : c.clock ≡ clock_in m.body
  pub names : c.names ≡ names_of m.body
  pub drives : map (reading c.names) c.drives ≡ readings_of m.body
  pub outputs : map (slice_get c.names) c.outputs ≡ map Some (over outputs_told m.body)

-- ---- faults

-- The fault of the first statement of which some name passes the test.
abbrev pub first_with : (Told → List (List ℕ)) → (List ℕ → Bool) → BlifKind → List Telling → Option Faulty
first_with names test kind [] = None
first_with names test kind (t ∷ body) = if list_any test (names t.what) then Some (t.line, kind) else first_with names test kind body

-- The less of a number and another, if there is one, and the least of some numbers.
abbrev pub less_of : ℕ → Option ℕ → ℕ
less_of n None = n
less_of n (Some m) = min n m

abbrev pub least : List ℕ → Option ℕ
least [] = None
least (n ∷ ns) = Some (less_of n (least ns))

-- the lines of the statements of which some name passes the test
abbrev pub lines_with : (Told → List (List ℕ)) → (List ℕ → Bool) → List Telling → List ℕ
lines_with names test body = map (λ t. t.line) (filter (λ t. list_any test (names t.what)) body)

-- The fault of the least of these lines. In a flat unit lines don't rise.
abbrev pub least_with : (Told → List (List ℕ)) → (List ℕ → Bool) → BlifKind → List Telling → Option Faulty
least_with names test kind body = option_map (λ line. (line, kind)) (least (lines_with names test body))

abbrev pub is_driven : List Telling → List ℕ → Bool
is_driven body n = list_any (bytes_eq n) (over drivers_told body)

-- outputs of latches and gates
abbrev pub made_told : Told → List (List ℕ)
made_told told = latch_told told ++ gate_told told

-- The first fault of the names, in this order, where at most `limit` signals are allowed.
abbrev pub fault_in_names : ℕ → List Telling → Option Faulty
fault_in_names limit body =
    option_or (least_with uses_told (λ n. not (is_driven body n || is_clock body n)) Undriven body)
    (option_or (first_with made_told (is_clock body) GatedClock body)
    (option_or (least_with uses_told (is_clock body) ClockAsData body)
    (if nat_lt limit (length (names_of body)) then Some (0, TooManySignals) else None)))

-- The circuit of a model: no name is at fault, the statements spell it, and no gates read one another in a circle.
pub record IsCircuitOfModel (limit : ℕ) (m : Model) (c : Plain) : Type 0 where
  pub lawful : fault_in_names limit m.body ≡ None
  pub spelled : IsSpelled m c
  pub open_ended : ¬ HasCircle c.drives

-- The circuit that the statements spell has a circle.
abbrev pub HasLoop : Model → Faulty → Type 0
HasLoop m fault = (fault ≡ (0, Loop)) × ((c : Plain) × IsSpelled m c × HasCircle c.drives)

-- The first fault of a model's statements as a whole.
abbrev pub IsFaultOfModel : ℕ → Model → Faulty → Type 0
IsFaultOfModel limit m fault = MatchOption (fault_in_names limit m.body) (HasLoop m fault) (λ first. fault ≡ first)
