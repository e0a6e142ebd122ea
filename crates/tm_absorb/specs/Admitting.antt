-- Which tables can be absorbed, reader by reader: the leaves of a mapping's tables are grouped by the gates that are their sources.
use Rattle.std.specs.Prelude.{◌≡◌, ℕ, List, Contains}
use Rattle.tm_circuit.specs.Plain.{Plain, Drive}
use Rattle.tm_circuit.specs.Source.{IsSource}
use Rattle.tm_circuit.specs.declared.sources.Source.TheVariants.{Gate}
use Rattle.tm_unroll.specs.declared.node.Node.{Node}
use Rattle.tm_unroll.specs.Mappings.{Table, root}
use Rattle.tm_absorb.specs.Absorbing.{Reads, IsNewSet}

-- A leaf is the root of a table, or its source is not the gate of the table.
abbrev pub IsRootOrOther : List Drive → Table → Node → Type 0
IsRootOrOther drives t x = IsSource drives x.signal (Gate t.gate) → x ≡ root t

-- A table looks at the gate of another one only as the root of the other: each leaf whose source is the gate is this root.
abbrev pub LooksAtRoot : List Drive → Table → Table → Type 0
LooksAtRoot drives t u = (x : Node) → Contains u.leaves x → IsRootOrOther drives t x

-- A table has room for another one: where it reads it, it has a new set.
abbrev pub HasRoom : ℕ → Table → Table → Type 0
HasRoom k t u = Reads u t → (new : List Node) × IsNewSet k t u new

-- A table can take in another one, or has nothing to do with it.
pub record Admits (drives : List Drive) (k : ℕ) (t u : Table) : Type 0 where
  pub looks : LooksAtRoot drives t u
  pub room : HasRoom k t u

-- Some output has a gate as its source.
abbrev pub IsOutputGate : Plain → ℕ → Type 0
IsOutputGate c g = (s : ℕ) × Contains c.outputs s × IsSource c.drives s (Gate g)

-- A table of a mapping can go: no output needs it, and each table admits it.
pub record CanGo (c : Plain) (k : ℕ) (tables : List Table) (t : Table) : Type 0 where
  pub table : Contains tables t
  pub inner : ¬ IsOutputGate c t.gate
  pub each : (u : Table) → Contains tables u → Admits c.drives k t u

-- The gate of a table, and the gates that are the sources of its leaves, stand in a queue.
pub record IsQueued (drives : List Drive) (queue : List ℕ) (t : Table) : Type 0 where
  pub gate : Contains queue t.gate
  pub leaves : (g : ℕ) (x : Node) → Contains t.leaves x → IsSource drives x.signal (Gate g) → Contains queue g
