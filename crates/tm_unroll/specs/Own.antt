-- The mapping in which each gate is its own table, at lag 0 or at the lag of a base.
use Rattle.std.specs.Prelude.{◌≡◌, ◌↔◌, ℕ, ◌<◌, List, Contains, AllPairs}
use Rattle.tm_circuit.specs.Plain.{Plain, Drive, drive_in, pins_of}
use Rattle.tm_circuit.specs.Chain.{IsGate, IsPeriod}
use Rattle.tm_unroll.specs.declared.node.Node.{Node}
use Rattle.tm_unroll.specs.Nodes.{IsBefore}
use Rattle.tm_unroll.specs.Mappings.{Table, IsLawful, IsLawfulFrom}
use Rattle.tm_unroll.specs.Chains.{HasChainsWithin}
use Rattle.tm_unroll.specs.Latches.{behind_latches}

-- The table of a gate with these pins: at lag 0, its leaves are its distinct pins at advance 0, in order.
pub record IsOwnTable (pins : List ℕ) (t : Table) : Type 0 where
  pub lag : t.lag ≡ 0
  pub ascending : AllPairs IsBefore t.leaves
  pub leaves : (x : Node) → Contains t.leaves x ↔ ((x.advance ≡ 0) × Contains pins x.signal)

-- The tables are those of all gates, in ascending order.
pub record IsOwnMapping (drives : List Drive) (tables : List Table) : Type 0 where
  pub ascending : AllPairs (λ t u. t.gate < u.gate) tables
  pub gates : (g : ℕ) → IsGate drives g ↔ ((t : Table) × Contains tables t × (t.gate ≡ g))
  pub own : (t : Table) → Contains tables t → IsOwnTable (pins_of (drive_in drives t.gate)) t

-- There is such a mapping, and it is lawful and has no longer chains than the circuit.
pub record OwnTablesServe (c : Plain) (k d : ℕ) : Type 0 where
  pub some : (tables : List Table) × IsOwnMapping c.drives tables
  pub lawful : (tables : List Table) → IsOwnMapping c.drives tables → IsLawful c k d tables
  pub within : (tables : List Table) (p : ℕ) → IsOwnMapping c.drives tables → IsPeriod c p → HasChainsWithin tables p

-- The table of a gate with these pins at the lag of the base: its leaves are the distinct nodes behind the latches at its
-- pins, in order.
pub record IsOwnTableFrom (base : ℕ) (drives : List Drive) (pins : List ℕ) (t : Table) : Type 0 where
  pub lag : t.lag ≡ base
  pub ascending : AllPairs IsBefore t.leaves
  pub leaves : (x : Node) → Contains t.leaves x ↔ ((p : ℕ) × Contains pins p × (behind_latches drives base p ≡ x))

-- The tables are those of all gates, in ascending order.
pub record IsOwnMappingFrom (base : ℕ) (drives : List Drive) (tables : List Table) : Type 0 where
  pub ascending : AllPairs (λ t u. t.gate < u.gate) tables
  pub gates : (g : ℕ) → IsGate drives g ↔ ((t : Table) × Contains tables t × (t.gate ≡ g))
  pub own : (t : Table) → Contains tables t → IsOwnTableFrom base drives (pins_of (drive_in drives t.gate)) t

-- There is such a mapping, and it is lawful and has no longer chains than the circuit.
pub record OwnTablesServeFrom (base : ℕ) (need : ℕ → ℕ) (c : Plain) (k d : ℕ) : Type 0 where
  pub some : (tables : List Table) × IsOwnMappingFrom base c.drives tables
  pub lawful : (tables : List Table) → IsOwnMappingFrom base c.drives tables → IsLawfulFrom base need c k d tables
  pub within : (tables : List Table) (p : ℕ) → IsOwnMappingFrom base c.drives tables → IsPeriod c p → HasChainsWithin tables p
