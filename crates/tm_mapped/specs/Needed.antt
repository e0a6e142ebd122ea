-- The nodes that the mapped circuit of a mapping needs, and which of them are registers.
use Rattle.std.specs.Prelude.{◌≡◌, ◌↔◌, ℕ, suc, ◌<◌, Bool, List, ◌++◌, map, Contains, AllPairs}
use Rattle.std.specs.List.{range_with_len}
use Rattle.tm_circuit.specs.Plain.{Plain, Drive, input, latch, gate, drive, input_count}
use Rattle.tm_unroll.specs.declared.node.Node.{Node}
use Rattle.tm_unroll.specs.Nodes.{node_at, IsBefore}
use Rattle.tm_unroll.specs.Mappings.{Table, root}

-- The gate has a table, whose lag is greater than an advance.
abbrev pub HasTablePast : List Table → ℕ → ℕ → Type 0
HasTablePast tables g advance = (t : Table) × Contains tables t × (t.gate ≡ g) × (advance < t.lag)

-- The needed nodes, as the least set that has: each output at advance 0; the root and the leaves of each table; one advance further
-- of a needed gate node below the lag of the gate's table; and the next of a needed latch at advance 0.
pub data IsNeeded (c : Plain) (tables : List Table) : Node → Type 0 where
  output : (s : ℕ) → Contains c.outputs s → IsNeeded c tables (node_at 0 s)
  of_root : (t : Table) → Contains tables t → IsNeeded c tables (root t)
  of_leaf : (t : Table) (x : Node) → Contains tables t → Contains t.leaves x → IsNeeded c tables x
  further : (g advance : ℕ) → HasTablePast tables g advance → IsNeeded c tables (node_at advance g)
      → IsNeeded c tables (node_at (suc advance) g)
  of_next : (q next : ℕ) (init : Bool) → drive c q ≡ latch next init → IsNeeded c tables (node_at 0 q) → IsNeeded c tables (node_at 0 next)

-- The kinds of nodes that are registers where they are needed, by the drive of the signal: a latch at advance 0, and a gate below
-- the lag of its table.
abbrev pub MayBeRegister : Drive → List Table → Node → Type 0
MayBeRegister input tables x = ⊥
MayBeRegister (latch next init) tables x = x.advance ≡ 0
MayBeRegister (gate pins cover) tables x = HasTablePast tables x.signal x.advance

-- A needed node that is a register.
pub record IsRegister (c : Plain) (tables : List Table) (x : Node) : Type 0 where
  pub needed : IsNeeded c tables x
  pub kind : MayBeRegister (drive c x.signal) tables x

-- The registers, each once, by signal and then by advance.
pub record AreRegisters (c : Plain) (tables : List Table) (registers : List Node) : Type 0 where
  pub ascending : AllPairs IsBefore registers
  pub each : (x : Node) → Contains registers x ↔ IsRegister c tables x

-- The nodes that the signals of the mapped circuit stand for, in their order: the inputs, the registers, and the roots of the tables.
abbrev pub nodes_of : Plain → List Node → List Table → List Node
nodes_of c registers tables = map (λ s. node_at 0 s) (range_with_len 0 (input_count c.drives)) ++ (registers ++ map root tables)
