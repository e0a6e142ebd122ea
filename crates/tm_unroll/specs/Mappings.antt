-- Mappings as lists of tables, and which of them are lawful.
--
-- The definitions have a base, which is the advance that stands for the present, and a need, which is the least lag that
-- the source gate of an output must have. With base 0 and no need they are those of a mapping that moves registers forward
-- alone, and have short names; a greater base leaves room for lags below the present.
use Rattle.std.specs.Prelude.{◌≡◌, ℕ, ◌<◌, ◌≤◌, List, map, length, Contains, AllPairs}
use Rattle.tm_circuit.specs.Plain.{Plain, Drive, input, latch, gate, drive_in}
use Rattle.tm_circuit.specs.Chain.{IsGate}
use Rattle.tm_circuit.specs.Source.{IsSource}
use Rattle.tm_circuit.specs.declared.sources.Source.TheVariants.{Gate}
use Rattle.tm_unroll.specs.declared.node.Node.{Node}
use Rattle.tm_unroll.specs.declared.node.Lut.{Lut}
use Rattle.tm_unroll.specs.declared.node.Mapping.{Mapping}
use Rattle.tm_unroll.specs.Nodes.{node_at, IsBefore}
use Rattle.tm_unroll.specs.Walks.{Covers}

-- A table: it gives its gate's value as many steps ahead as its lag says, from its leaves.
pub record Table : Type 0 where
  pub gate : ℕ
  pub lag : ℕ
  pub leaves : List Node

-- A table as plain numbers and lists, whatever room its leaves have to spare.
abbrev pub table_of : Lut → Table
table_of lut = record { gate = lut.gate; lag = lut.lag; leaves = lut.leaves.items }

-- The tables of a mapping.
abbrev pub tables_of : Mapping → List Table
tables_of mapping = map table_of mapping.luts.items

-- The node that a table gives.
abbrev pub root : Table → Node
root t = node_at t.lag t.gate

-- The kinds of leaves of a table with a lag, by the drive of the signal: a gate at most as far ahead as the table, an input
-- at most at the base, and a latch at advance 0.
abbrev pub IsLeafOf : ℕ → Drive → ℕ → ℕ → Type 0
IsLeafOf base input lag advance = advance ≤ base
IsLeafOf base (latch next init) lag advance = advance ≡ 0
IsLeafOf base (gate pins cover) lag advance = advance ≤ lag

-- A leaf of a table with a lag: its signal is one of the circuit, and it is of such a kind.
pub record IsLeaf (base : ℕ) (drives : List Drive) (lag : ℕ) (x : Node) : Type 0 where
  pub signal : x.signal < length drives
  pub kind : IsLeafOf base (drive_in drives x.signal) lag x.advance

-- A table's leaves are few, ascend strictly in the order of nodes, and are leaves.
pub record HasLeaves (base : ℕ) (drives : List Drive) (k : ℕ) (t : Table) : Type 0 where
  pub few : length t.leaves ≤ k
  pub ascending : AllPairs IsBefore t.leaves
  pub leaves : (x : Node) → Contains t.leaves x → IsLeaf base drives t.lag x

-- Some table of the gate has at least this lag.
abbrev pub HasTable : List Table → ℕ → ℕ → Type 0
HasTable tables g lag = (t : Table) × Contains tables t × (t.gate ≡ g) × (lag ≤ t.lag)

-- The source of a signal, where it is a gate, has a table of at least this lag.
abbrev pub HasSourceTable : List Drive → List Table → ℕ → ℕ → Type 0
HasSourceTable drives tables s lag = (g : ℕ) → IsSource drives s (Gate g) → HasTable tables g lag

-- What a leaf asks of the tables, by the drive of its signal: a gate a table of its own of at least the leaf's advance, a
-- latch a table of its source, where that is a gate, and an input nothing.
abbrev pub IsServedOf : Drive → List Drive → List Table → Node → Type 0
IsServedOf input drives tables x = Unit {0}
IsServedOf (latch next init) drives tables x = HasSourceTable drives tables x.signal 0
IsServedOf (gate pins cover) drives tables x = HasTable tables x.signal x.advance

-- The tables serve each leaf of a table.
abbrev pub AreServed : List Drive → List Table → List Node → Type 0
AreServed drives tables leaves = (x : Node) → Contains leaves x → IsServedOf (drive_in drives x.signal) drives tables x

-- A table of a lawful mapping, but for its place among the others.
pub record IsLawfulTable (base : ℕ) (drives : List Drive) (k d : ℕ) (tables : List Table) (t : Table) : Type 0 where
  pub gate : IsGate drives t.gate
  pub lag : t.lag ≤ d
  pub leaves : HasLeaves base drives k t
  pub covers : Covers drives t.leaves (root t)
  pub served : AreServed drives tables t.leaves

-- A lawful mapping: the gates of its tables ascend strictly, each table is lawful, and the source of each output, where it
-- is a gate, has a table of at least the lag that the output needs.
pub record IsLawfulFrom (base : ℕ) (need : ℕ → ℕ) (c : Plain) (k d : ℕ) (tables : List Table) : Type 0 where
  pub ascending : AllPairs (λ t u. t.gate < u.gate) tables
  pub each : (t : Table) → Contains tables t → IsLawfulTable base c.drives k d tables t
  pub outputs : (s : ℕ) → Contains c.outputs s → HasSourceTable c.drives tables s (need s)

-- A lawful mapping that moves registers forward alone.
abbrev pub IsLawful : Plain → ℕ → ℕ → List Table → Type 0
IsLawful c k d tables = IsLawfulFrom 0 (λ _. 0) c k d tables
