-- The mapped circuit of a mapping: one signal for each input, each needed register and each table.
use Rattle.std.specs.Prelude.{◌≡◌, ℕ, zero, suc, ◌<◌, ◌||◌, Bool, true, List, [], ◌++◌, map, length, Option, None, Some, is_some, slice_get, slice_index_or, Contains, if◌then◌else◌}
use Rattle.std.specs.Fmt.{decimal}
use Rattle.tm_bits.specs.Rows.{Rows, holds}
use Rattle.tm_bits.specs.Tables.{bit_of, row_number, minterms, AreValuesAt}
use Rattle.tm_circuit.specs.declared.parts.Clock.{Clock}
use Rattle.tm_circuit.specs.Plain.{Plain, Drive, input, latch, gate, drive, input_count}
use Rattle.tm_circuit.specs.Trace.{ObeysAlways}
use Rattle.tm_init.specs.Paths.{zeros}
use Rattle.tm_parts.specs.Fits.{plus}
use Rattle.tm_parts.specs.Runs.{joiner_of}
use Rattle.tm_unroll.specs.declared.node.Node.{Node}
use Rattle.tm_unroll.specs.Nodes.{node_at}
use Rattle.tm_unroll.specs.Mappings.{Table, root}
use Rattle.tm_cone.specs.Cones.{IsFunctionOf}
use Rattle.tm_mapped.specs.Needed.{AreRegisters, nodes_of}

-- ---- what drives a signal of the mapped circuit

-- A signal of the mapped circuit stands for a node, as its number in the list of nodes.
abbrev pub StandsFor : List Node → ℕ → Node → Type 0
StandsFor nodes i x = slice_get nodes i ≡ Some x

-- The bit that a gate has at a step where the inputs are 0.
abbrev pub IsFirstBit : Plain → ℕ → ℕ → Bool → Type 0
IsFirstBit c g step bit = (t : ℕ → ℕ → Bool) → ObeysAlways c zeros t → t g step ≡ bit

-- What drives a register, by the drive of the node's signal: the register of a latch has the latch's initial value and stands behind
-- the latch's next; that of a gate has the gate's bit at the step of its advance where the inputs are 0, and stands behind the gate
-- one advance further.
abbrev pub IsRegisterDrive : Plain → List Node → Drive → Node → Drive → Type 0
IsRegisterDrive c nodes input x d = ⊥
IsRegisterDrive c nodes (latch next init) x d = (j : ℕ) × StandsFor nodes j (node_at 0 next) × (d ≡ latch j init)
IsRegisterDrive c nodes (gate pins cover) x d =
    (j : ℕ) × ((init : Bool) × StandsFor nodes j (node_at (suc x.advance) x.signal) × IsFirstBit c x.signal x.advance init
    × (d ≡ latch j init))

-- Which covers may stand for the words of a table with so many inputs.
abbrev pub CoverRule : Type 1
CoverRule = ℕ → List ℕ → Rows → Type 0

-- One row for each row of value 1, in ascending order, without `-`.
abbrev pub BySingleRows : CoverRule
BySingleRows inputs words cover = cover ≡ record { on = true; rows = minterms inputs words }

-- Any cover that has the value of the words on each row.
abbrev pub ByValues : CoverRule
ByValues inputs words cover = AreValuesAt (holds cover) inputs words

-- What drives the signal of a table: a gate whose pins stand for the leaves, in their order, with a cover of the table's function.
pub record IsTableDrive (Covers : CoverRule) (c : Plain) (nodes : List Node) (t : Table) (d : Drive) : Type 0 where
  pub pins : List ℕ
  pub cover : Rows
  pub words : List ℕ
  pub is : d ≡ gate pins cover
  pub leaves : map (λ p. slice_get nodes p) pins ≡ map (λ x. Some x) t.leaves
  pub function : IsFunctionOf c.drives t (λ bits. bit_of words (row_number bits))
  pub covers : Covers (length t.leaves) words cover

-- ---- names and the clock

-- The name of a node: the signal's own at advance 0, and further on the signal's, the joiner and the advance.
abbrev pub node_name_at : Plain → ℕ → ℕ → List ℕ
node_name_at c s zero = slice_index_or c.names s []
node_name_at c s (suc less) = slice_index_or c.names s [] ++ joiner_of plus c ++ decimal (suc less)

abbrev pub node_name : Plain → Node → List ℕ
node_name c x = node_name_at c x.signal x.advance

-- A clock that drives no latch has no edge; it stays where it was declared or had a place.
abbrev pub idle_clock : Clock → Option Clock
idle_clock clock =
    if clock.declared || is_some clock.place
    then Some (record { name = clock.name; declared = true; place = clock.place; edge = None }) else None

abbrev pub idle_clock_of : Option Clock → Option Clock
idle_clock_of None = None
idle_clock_of (Some clock) = idle_clock clock

-- The clock of a circuit that has so many latches.
abbrev pub clock_for : ℕ → Option Clock → Option Clock
clock_for zero clock = idle_clock_of clock
clock_for (suc more) clock = clock

-- ---- the mapped circuit

-- The mapped circuit of a mapping, where covers of tables go by a rule.
pub record IsMappedBy (Covers : CoverRule) (c : Plain) (tables : List Table) (mapped : Plain) : Type 0 where
  pub registers : List Node
  pub are : AreRegisters c tables registers
  pub model : mapped.model ≡ c.model
  pub clock : mapped.clock ≡ clock_for (length registers) c.clock
  pub names : mapped.names ≡ map (node_name c) (nodes_of c registers tables)
  pub signals : length mapped.drives ≡ length (nodes_of c registers tables)
  pub inputs : (i : ℕ) → i < input_count c.drives → drive mapped i ≡ input
  pub latches : (i : ℕ) (x : Node) → Contains registers x → StandsFor (nodes_of c registers tables) i x
      → IsRegisterDrive c (nodes_of c registers tables) (drive c x.signal) x (drive mapped i)
  pub gates : (i : ℕ) (t : Table) → Contains tables t → StandsFor (nodes_of c registers tables) i (root t)
      → IsTableDrive Covers c (nodes_of c registers tables) t (drive mapped i)
  pub outputs : map (λ o. slice_get (nodes_of c registers tables) o) mapped.outputs ≡ map (λ s. Some (node_at 0 s)) c.outputs

-- The mapped circuit of a mapping.
abbrev pub IsMapped : Plain → List Table → Plain → Type 0
IsMapped c tables mapped = IsMappedBy BySingleRows c tables mapped
