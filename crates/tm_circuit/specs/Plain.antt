-- A circuit as plain lists over its signals, whatever room its vectors have to spare.
use Rattle.std.specs.Prelude.{ℕ, Bool, true, false, List, map, max, Option, [], ◌∷◌, length, count_by, slice_index_or}
use Rattle.tm_bits.specs.Rows.{Rows}
use Rattle.tm_circuit.specs.declared.parts.Clock.{Clock}
use Rattle.tm_circuit.specs.declared.parts.Driver.{Driver}
use Rattle.tm_circuit.specs.declared.parts.Driver.TheVariants.{Input, Latch, Gate}

-- What drives a signal: an input, a latch by its next signal from an initial value, or a gate by a cover of its pins.
pub data Drive : Type 0 where
  input : Drive
  latch : ℕ → Bool → Drive
  gate : List ℕ → Rows → Drive

-- A driver as a drive.
abbrev pub drive_of : Driver → Drive
drive_of Input = input
drive_of (Latch next init) = latch next init
drive_of (Gate pins cover) = gate pins.items cover

-- A circuit: its names and drives are lists over its signals, inputs first, then latches, then gates.
pub record Plain : Type 0 where
  pub model : List ℕ
  pub clock : Option Clock
  pub names : List (List ℕ)
  pub drives : List Drive
  pub outputs : List ℕ

-- What drives a signal, read by a number: past the end a latch that feeds itself.
abbrev pub drive_in : List Drive → ℕ → Drive
drive_in drives s = slice_index_or drives s (latch s false)

-- What drives a signal of a circuit.
abbrev pub drive : Plain → ℕ → Drive
drive c s = drive_in c.drives s

-- The kind of a drive.
abbrev pub is_input : Drive → Bool
is_input input = true
is_input (latch next init) = false
is_input (gate pins cover) = false

abbrev pub is_latch : Drive → Bool
is_latch input = false
is_latch (latch next init) = true
is_latch (gate pins cover) = false

abbrev pub is_gate : Drive → Bool
is_gate input = false
is_gate (latch next init) = false
is_gate (gate pins cover) = true

-- The numbers of inputs, of latches and of gates.
abbrev pub input_count : List Drive → ℕ
input_count drives = count_by is_input drives

abbrev pub latch_count : List Drive → ℕ
latch_count drives = count_by is_latch drives

abbrev pub gate_count : List Drive → ℕ
gate_count drives = count_by is_gate drives

-- The signals that a gate reads; an input and a latch read none in the same step.
abbrev pub pins_of : Drive → List ℕ
pins_of input = []
pins_of (latch next init) = []
pins_of (gate pins cover) = pins

-- The greatest of some numbers, 0 where there is none.
abbrev pub greatest : List ℕ → ℕ
greatest [] = 0
greatest (x ∷ xs) = max x (greatest xs)

-- The greatest number of pins of a gate, 0 without gates.
abbrev pub widest : List Drive → ℕ
widest drives = greatest (map (λ d. length (pins_of d)) drives)
