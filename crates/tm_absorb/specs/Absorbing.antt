-- Tables that fit into all their readers, and mappings from which these have gone.
use Rattle.std.specs.Prelude.{◌≡◌, ◌≢◌, ◌⊎◌, ℕ, zero, suc, ◌<◌, ◌≤◌, List, Contains, AllPairs, IsTrue}
use Rattle.tm_circuit.specs.Plain.{Plain, drive_in, is_latch}
use Rattle.tm_circuit.specs.Source.{IsSource}
use Rattle.tm_circuit.specs.declared.sources.Source.TheVariants.{Gate}
use Rattle.tm_unroll.specs.declared.node.Node.{Node}
use Rattle.tm_unroll.specs.Mappings.{Table, root}
use Rattle.tm_unroll.specs.Replaced.{IsReplacement}

-- A table reads another: it has the root of the other as a leaf.
abbrev pub Reads : Table → Table → Type 0
Reads u t = Contains u.leaves (root t)

-- A node is a leaf of some table.
abbrev pub IsLeafIn : List Table → Node → Type 0
IsLeafIn tables x = (u : Table) × Contains tables u × Contains u.leaves x

-- The new set of a reader of a table, in ascending order: its other leaves together with the leaves of the table. There are at
-- most `k` of them.
abbrev pub IsNewSet : ℕ → Table → Table → List Node → Type 0
IsNewSet k t u new = IsReplacement k u.leaves (root t) t.leaves new

-- A table of a mapping is absorbable: its gate is the source of no output, and of no latch that is a leaf of a table; each leaf
-- that is its gate is at the table's lag; and each reader has a new set.
pub record IsAbsorbable (c : Plain) (k : ℕ) (tables : List Table) (t : Table) : Type 0 where
  pub table : Contains tables t
  pub inner : (s : ℕ) → Contains c.outputs s → ¬ IsSource c.drives s (Gate t.gate)
  pub unlatched : (x : Node) → IsLeafIn tables x → IsTrue (is_latch (drive_in c.drives x.signal))
      → ¬ IsSource c.drives x.signal (Gate t.gate)
  pub at_lag : (x : Node) → IsLeafIn tables x → x.signal ≡ t.gate → x.advance ≡ t.lag
  pub fits : (u : Table) → Contains tables u → Reads u t → (new : List Node) × IsNewSet k t u new

-- No table is absorbable.
abbrev pub HasNoAbsorbable : Plain → ℕ → List Table → Type 0
HasNoAbsorbable c k tables = (t : Table) → ¬ IsAbsorbable c k tables t

-- The absorbable table of the least gate.
pub record IsFirstAbsorbable (c : Plain) (k : ℕ) (tables : List Table) (t : Table) : Type 0 where
  pub absorbable : IsAbsorbable c k tables t
  pub first : (u : Table) → IsAbsorbable c k tables u → t.gate ≤ u.gate

-- A reader of a table takes it in: it keeps its gate and its lag, and its leaves are its new set.
pub record TakesIn (k : ℕ) (t old new : Table) : Type 0 where
  pub reads : Reads old t
  pub gate : new.gate ≡ old.gate
  pub lag : new.lag ≡ old.lag
  pub leaves : IsNewSet k t old new.leaves

-- What becomes of a table where another is absorbed: a reader takes it in, and what is no reader stays.
abbrev pub Becomes : ℕ → Table → Table → Table → Type 0
Becomes k t old new = TakesIn k t old new ⊎ (¬ Reads old t × (new ≡ old))

-- A table is absorbed: it goes, and each other table stays or takes it in.
pub record Absorbs (k : ℕ) (t : Table) (old new : List Table) : Type 0 where
  pub ascending : AllPairs (λ u v. u.gate < v.gate) new
  pub goes_on : (u : Table) → Contains old u → u ≢ t → (v : Table) × Contains new v × Becomes k t u v
  pub comes_from : (v : Table) → Contains new v → (u : Table) × Contains old u × (u ≢ t) × Becomes k t u v

-- The absorbable table of the least gate is absorbed, so many times.
abbrev pub AbsorbsFirst : Plain → ℕ → ℕ → List Table → List Table → Type 0
AbsorbsFirst c k zero old new = new ≡ old
AbsorbsFirst c k (suc times) old new =
    (t : Table) × (between : List Table) × IsFirstAbsorbable c k old t × Absorbs k t old between × AbsorbsFirst c k times between new

-- The absorbed mapping: what is left when the absorbable table of the least gate is absorbed again and again until there is none.
pub record IsAbsorbed (c : Plain) (k : ℕ) (old new : List Table) : Type 0 where
  pub times : ℕ
  pub absorbs : AbsorbsFirst c k times old new
  pub none : HasNoAbsorbable c k new
