-- Two-way mappings as lists of tables with amounts from `-back` to `d`, and which of them are lawful. An amount is how many steps
-- ahead a table gives its gate's value: above 0 registers move forward over it, below 0 backward.
use Rattle.std.specs.Prelude.{◌≡◌, ℕ, ◌<◌, ◌≤◌, ℤ, pos, neg_ℤ, ◌≤ℤ◌, List, length, Contains, AllPairs}
use Rattle.tm_circuit.specs.Plain.{Plain, Drive, input, latch, gate, drive_in}
use Rattle.tm_circuit.specs.Chain.{IsGate}
use Rattle.tm_circuit.specs.Source.{IsSource, back as signal_behind}
use Rattle.tm_circuit.specs.declared.sources.Source.TheVariants.{Gate}
use Rattle.tm_unroll.specs.Latches.{LeadsToGate}
use Rattle.two_way.specs.declared.answer.TwoNode.{TwoNode}
use Rattle.two_way.specs.declared.answer.TwoLut.{TwoLut}
use Rattle.two_way.specs.Nodes.{floor, node_at, IsBefore}
use Rattle.two_way.specs.Walks.{Covers}

-- A table: it gives its gate's value as many steps ahead as its lag says, from its leaves.
pub record TwoTable : Type 0 where
  pub gate : ℕ
  pub lag : ℤ
  pub leaves : List TwoNode

-- A table as plain numbers and lists, whatever room its leaves have to spare.
abbrev pub table_of : TwoLut → TwoTable
table_of lut = record { gate = lut.gate; lag = lut.lag; leaves = lut.leaves.items }

-- The node that a table gives.
abbrev pub root : TwoTable → TwoNode
root t = node_at t.lag t.gate

-- The kinds of leaves of a table with a lag, by the drive of the signal: an input that is not ahead of the present, a latch at the
-- least advance, and a gate at most as far ahead as the table.
abbrev pub IsLeafOf : ℕ → Drive → ℤ → ℤ → Type 0
IsLeafOf back input lag advance = advance ≤ℤ pos 0
IsLeafOf back (latch next init) lag advance = advance ≡ floor back
IsLeafOf back (gate pins cover) lag advance = advance ≤ℤ lag

-- A leaf of a table with a lag: its signal is one of the circuit, and it is of such a kind.
pub record IsLeaf (back : ℕ) (drives : List Drive) (lag : ℤ) (x : TwoNode) : Type 0 where
  pub signal : x.signal < length drives
  pub kind : IsLeafOf back (drive_in drives x.signal) lag x.advance

-- Some table of the gate has at least this lag.
abbrev pub HasTable : List TwoTable → ℕ → ℤ → Type 0
HasTable tables g lag = (t : TwoTable) × Contains tables t × (t.gate ≡ g) × (lag ≤ℤ t.lag)

-- What a leaf asks of the tables, by the drive of its signal: a gate a table of its own of at least the leaf's advance, a latch a
-- table of its source, where that is a gate, at any lag, and an input nothing.
abbrev pub IsServedOf : ℕ → Drive → List Drive → List TwoTable → TwoNode → Type 0
IsServedOf back input drives tables x = Unit {0}
IsServedOf back (latch next init) drives tables x = (g : ℕ) → IsSource drives x.signal (Gate g) → HasTable tables g (floor back)
IsServedOf back (gate pins cover) drives tables x = HasTable tables x.signal x.advance

-- A table of a lawful two-way mapping, but for its place among the others.
pub record IsLawfulTable (back : ℕ) (drives : List Drive) (k d : ℕ) (tables : List TwoTable) (t : TwoTable) : Type 0 where
  pub gate : IsGate drives t.gate
  pub least : floor back ≤ℤ t.lag
  pub most : t.lag ≤ℤ pos d
  pub few : length t.leaves ≤ k
  pub ascending : AllPairs IsBefore t.leaves
  pub leaves : (x : TwoNode) → Contains t.leaves x → IsLeaf back drives t.lag x
  pub covers : Covers back drives t.leaves (root t)
  pub served : (x : TwoNode) → Contains t.leaves x → IsServedOf back (drive_in drives x.signal) drives tables x

-- A lawful two-way mapping: the gates of its tables ascend strictly, and each table is lawful. Where latches lead from an output
-- down to a gate, the output counted, that gate has a table that lies behind by no more steps than there are latches; where the
-- output is a gate itself, one that does not lie behind. All tables lie behind by no more than `back`, so that beyond that many
-- latches any table does.
pub record IsTwoWay (c : Plain) (k d back : ℕ) (tables : List TwoTable) : Type 0 where
  pub ascending : AllPairs (λ t u. t.gate < u.gate) tables
  pub each : (t : TwoTable) → Contains tables t → IsLawfulTable back c.drives k d tables t
  pub outputs : (s latches : ℕ) → Contains c.outputs s → LeadsToGate c.drives s latches
      → HasTable tables (signal_behind c.drives latches s) (neg_ℤ (pos latches))
