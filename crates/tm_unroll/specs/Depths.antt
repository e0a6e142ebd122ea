-- Depths of tables, worked out lag by lag, and within a lag in the order of the circuit's gates.
use Rattle.std.specs.Prelude.{◌≡◌, ◌≢◌, ◌⊎◌, ℕ, suc, ◌<◌, ◌≤◌, List, length, Option, Some, None, slice_get, slice_index, slice_index_or, slice_set, All, Contains, map}
use Rattle.tm_circuit.specs.Plain.{Plain}
use Rattle.tm_unroll.specs.declared.node.Node.{Node}
use Rattle.tm_unroll.specs.declared.node.Lut.{Lut}
use Rattle.tm_unroll.specs.Mappings.{Table, table_of, root, IsLawful}
use Rattle.tm_unroll.specs.Falls.{height}

-- The tables of a list in code.
abbrev pub tables_in : List Lut → List Table
tables_in luts = map table_of luts

-- A lawful mapping, for some number of leaves and for lags of at most 8.
pub record IsMapping (c : Plain) (tables : List Table) : Type 0 where
  pub k : ℕ
  pub d : ℕ
  pub near : d ≤ 8
  pub lawful : IsLawful c k d tables

-- The places of the first tables, by the signals of their gates; none for any other signal.
pub record ArePlacesOf (tables : List Table) (signals count : ℕ) (places : List (Option ℕ)) : Type 0 where
  pub sized : length places ≡ signals
  pub points : (s place : ℕ) → slice_index_or places s None ≡ Some place
      → (t : Table) × (slice_get tables place ≡ Some t) × (t.gate ≡ s)
  pub all : (place : ℕ) (t : Table) → place < count → slice_get tables place ≡ Some t
      → slice_index_or places t.gate None ≡ Some place

-- The places of all tables.
abbrev pub ArePlaces : List Table → ℕ → List (Option ℕ) → Type 0
ArePlaces tables signals places = ArePlacesOf tables signals (length tables) places

-- The leaves of all tables are signals below a number.
abbrev pub HaveLeavesBelow : List Table → ℕ → Type 0
HaveLeavesBelow tables signals = (t : Table) → Contains tables t → All (λ x. x.signal < signals) t.leaves

-- No table has a node as its root.
abbrev pub HasNoRoot : List Table → Node → Type 0
HasNoRoot tables x = (t : Table) → Contains tables t → root t ≢ x

-- The table at a place has a node as its root.
pub record IsRootAt (tables : List Table) (x : Node) (place : ℕ) : Type 0 where
  pub table : Table
  pub at : slice_get tables place ≡ Some table
  pub is : root table ≡ x

-- The depth of a table, where depths stand by the signals of the gates.
abbrev pub depth_in : List ℕ → Table → ℕ
depth_in depths t = slice_index depths t.gate

-- Depths that can grow by 1 and still fit.
abbrev pub HaveRoom : List Table → List ℕ → Type 0
HaveRoom tables depths = (t : Table) → Contains tables t → depth_in depths t < 4294967295

-- The greatest depth of the tables whose roots are among some leaves, 0 where there is none.
pub record IsDeepest (tables : List Table) (depths : List ℕ) (leaves : List Node) (most : ℕ) : Type 0 where
  pub above : (t : Table) → Contains tables t → Contains leaves (root t) → depth_in depths t ≤ most
  pub reached : (most ≡ 0) ⊎ ((t : Table) × Contains tables t × Contains leaves (root t) × (depth_in depths t ≡ most))

-- A table is one deeper than the deepest of its leaves.
pub record IsDeep (tables : List Table) (depths : List ℕ) (t : Table) : Type 0 where
  pub most : ℕ
  pub deepest : IsDeepest tables depths t.leaves most
  pub deeper : depth_in depths t ≡ suc most

-- The table with a node as its root is set one deeper than the deepest of its leaves.
pub record Deepens (tables : List Table) (x : Node) (old new : List ℕ) (t : Table) : Type 0 where
  pub stands : Contains tables t
  pub is : root t ≡ x
  pub most : ℕ
  pub deepest : IsDeepest tables old t.leaves most
  pub sets : new ≡ slice_set old x.signal (suc most)

-- The turn of a node: the depth of the table with it as its root is set, and where there is none nothing changes.
abbrev pub AddsNode : List Table → Node → List ℕ → List ℕ → Type 0
AddsNode tables x old new = (HasNoRoot tables x × (new ≡ old)) ⊎ ((t : Table) × Deepens tables x old new t)

-- The tables whose turn is over at a lag after some gates: those of less lag, and those of this lag at these gates.
abbrev pub IsDone : ℕ → List ℕ → Table → Type 0
IsDone lag seen t = (t.lag < lag) ⊎ ((t.lag ≡ lag) × Contains seen t.gate)

-- The depths at a lag after some gates. No depth is above the height of the table's root.
pub record HasDepths (c : Plain) (tables : List Table) (lag : ℕ) (seen : List ℕ) (depths : List ℕ) : Type 0 where
  pub sized : length depths ≡ length c.drives
  pub low : (t : Table) → Contains tables t → depth_in depths t ≤ suc (height c (root t))
  pub done : (t : Table) → Contains tables t → IsDone lag seen t → IsDeep tables depths t
