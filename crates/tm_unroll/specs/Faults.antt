-- The first fault of a mapping that is not lawful, in the order in which its tables and outputs are tested.
use Rattle.std.specs.Prelude.{◌≡◌, ◌⊎◌, ℕ, suc, ◌<◌, ◌≤◌, List, length, Option, Some, slice_get, MatchOption}
use Rattle.tm_circuit.specs.Plain.{Plain}
use Rattle.tm_circuit.specs.Chain.{IsGate}
use Rattle.tm_unroll.specs.declared.node.MappingFault.{MappingFault}
use Rattle.tm_unroll.specs.declared.node.MapWhy.{MapWhy}
use Rattle.tm_unroll.specs.declared.node.MapWhy.TheVariants.{Lag, Leaves, Uncovered, Unserved, Output}
use Rattle.tm_unroll.specs.Walks.{Covers}
use Rattle.tm_unroll.specs.Mappings.{Table, root, HasLeaves, AreServed, HasSourceTable, IsLawfulFrom, IsLawful}

-- The first test of the table at a place: its gate is a gate, and greater than that of the table just before it, and its
-- lag is allowed.
pub record HasLawfulRoot (c : Plain) (d : ℕ) (tables : List Table) (place : ℕ) (t : Table) : Type 0 where
  pub gate : IsGate c.drives t.gate
  pub after : (before : ℕ) (b : Table) → place ≡ suc before → slice_get tables before ≡ Some b → b.gate < t.gate
  pub lag : t.lag ≤ d

-- The table at a place passes all its tests.
pub record Passes (base : ℕ) (c : Plain) (k d : ℕ) (tables : List Table) (place : ℕ) (t : Table) : Type 0 where
  pub placed : HasLawfulRoot c d tables place t
  pub leaves : HasLeaves base c.drives k t
  pub covers : Covers c.drives t.leaves (root t)
  pub served : AreServed c.drives tables t.leaves

-- The tables at the places below one pass all their tests.
abbrev pub PassBelow : ℕ → Plain → ℕ → ℕ → List Table → ℕ → Type 0
PassBelow base c k d tables places =
    (place : ℕ) (t : Table) → place < places → slice_get tables place ≡ Some t → Passes base c k d tables place t

-- The table at a place fails by a test, after it has passed those before.
abbrev pub FailsBy : MapWhy → ℕ → Plain → ℕ → ℕ → List Table → ℕ → Table → Type 0
FailsBy Lag base c k d tables place t = ¬ HasLawfulRoot c d tables place t
FailsBy Leaves base c k d tables place t = HasLawfulRoot c d tables place t × ¬ HasLeaves base c.drives k t
FailsBy Uncovered base c k d tables place t =
    HasLawfulRoot c d tables place t × HasLeaves base c.drives k t × ¬ Covers c.drives t.leaves (root t)
FailsBy Unserved base c k d tables place t =
    HasLawfulRoot c d tables place t × HasLeaves base c.drives k t × Covers c.drives t.leaves (root t)
    × ¬ AreServed c.drives tables t.leaves
FailsBy Output base c k d tables place t = ⊥

-- A table is the first that fails. Entries count from 1.
pub record IsTableFault (base : ℕ) (c : Plain) (k d : ℕ) (tables : List Table) (fault : MappingFault) : Type 0 where
  pub place : ℕ
  pub table : Table
  pub entry : fault.entry ≡ suc place
  pub at : slice_get tables place ≡ Some table
  pub before : PassBelow base c k d tables place
  pub fails : FailsBy fault.why base c k d tables place table

-- The outputs at the places below one have the tables that they need.
abbrev pub AreGivenBelow : (ℕ → ℕ) → Plain → List Table → ℕ → Type 0
AreGivenBelow need c tables places =
    (place s : ℕ) → place < places → slice_get c.outputs place ≡ Some s → HasSourceTable c.drives tables s (need s)

-- All tables pass, and an output is the first whose source gate has no table of the lag that it needs. Its entry is its
-- place among the outputs, counted from 1.
pub record IsOutputFault (base : ℕ) (need : ℕ → ℕ) (c : Plain) (k d : ℕ) (tables : List Table) (fault : MappingFault) : Type 0 where
  pub why : fault.why ≡ Output
  pub passed : PassBelow base c k d tables (length tables)
  pub place : ℕ
  pub output : ℕ
  pub entry : fault.entry ≡ suc place
  pub at : slice_get c.outputs place ≡ Some output
  pub before : AreGivenBelow need c tables place
  pub fails : ¬ HasSourceTable c.drives tables output (need output)

-- The first fault of a mapping: table by table, and then the outputs.
abbrev pub IsFirstFaultFrom : ℕ → (ℕ → ℕ) → Plain → ℕ → ℕ → List Table → MappingFault → Type 0
IsFirstFaultFrom base need c k d tables fault =
    IsTableFault base c k d tables fault ⊎ IsOutputFault base need c k d tables fault

-- The first fault of a mapping that moves registers forward alone.
abbrev pub IsFirstFault : Plain → ℕ → ℕ → List Table → MappingFault → Type 0
IsFirstFault c k d tables fault = IsFirstFaultFrom 0 (λ _. 0) c k d tables fault

-- The answer for a mapping: none where it is lawful, and otherwise its first fault.
abbrev pub IsJudged : Plain → ℕ → ℕ → List Table → Option MappingFault → Type 0
IsJudged c k d tables answer = MatchOption answer (IsLawful c k d tables) (λ fault. IsFirstFault c k d tables fault)

-- A mapping has at most one first fault, and none where it is lawful.
pub record HasOneFault (base : ℕ) (need : ℕ → ℕ) (c : Plain) (k d : ℕ) (tables : List Table) : Type 0 where
  pub lawful_has_none : (fault : MappingFault) → IsLawfulFrom base need c k d tables
      → ¬ IsFirstFaultFrom base need c k d tables fault
  pub one : (fault other : MappingFault) → IsFirstFaultFrom base need c k d tables fault
      → IsFirstFaultFrom base need c k d tables other → fault ≡ other
