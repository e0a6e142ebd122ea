-- The registers of a mapped circuit, told by two numbers for each signal: they stand at the advances from a least one to before an end.
use Rattle.std.specs.Prelude.{◌≡◌, ◌↔◌, ℕ, zero, suc, ◌-◌, ◌<◌, ◌≤◌, Bool, List, [], ◌++◌, map, length, slice_index, Contains}
use Rattle.std.specs.List.{range_with_len}
use Rattle.tm_bits.specs.Limits.{most_inputs}
use Rattle.tm_circuit.specs.Plain.{Plain, Drive, input, latch, gate, drive}
use Rattle.tm_unroll.specs.declared.node.Node.{Node}
use Rattle.tm_unroll.specs.Nodes.{node_at}
use Rattle.tm_unroll.specs.Mappings.{Table, IsLawful}
use Rattle.tm_mapped.specs.Needed.{HasTablePast, IsNeeded, MayBeRegister}

-- A lawful mapping with at most 8 leaves to a table and lags of at most 8.
pub record IsSmallMapping (c : Plain) (tables : List Table) : Type 0 where
  pub k : ℕ
  pub d : ℕ
  pub few : k ≤ most_inputs
  pub near : d ≤ 8
  pub lawful : IsLawful c k d tables

-- ---- registers

-- The registers of a signal, by advance.
abbrev pub registers_at : List ℕ → List ℕ → ℕ → List Node
registers_at lows ends s = map (λ a. node_at a s) (range_with_len (slice_index lows s) (slice_index ends s - slice_index lows s))

-- The registers of the first signals, so many, by signal and then by advance.
abbrev pub registers_before : List ℕ → List ℕ → ℕ → List Node
registers_before lows ends zero = []
registers_before lows ends (suc s) = registers_before lows ends s ++ registers_at lows ends s

-- ---- where registers end

-- The advance before which a signal may have registers, by its drive: none for an input, 0 alone for a latch, and for a gate those
-- below the lag of its table.
abbrev pub IsEnd : Drive → List Table → ℕ → ℕ → Type 0
IsEnd input tables s end = end ≡ 0
IsEnd (latch next init) tables s end = end ≡ 1
IsEnd (gate pins cover) tables s end = (a : ℕ) → HasTablePast tables s a ↔ (a < end)

-- The same for each signal.
pub record AreEnds (c : Plain) (tables : List Table) (ends : List ℕ) : Type 0 where
  pub sized : length ends ≡ length c.drives
  pub each : (s : ℕ) → s < length c.drives → IsEnd (drive c s) tables s (slice_index ends s)

-- ---- where registers begin

-- A node is at or past the least advance of its signal.
abbrev pub IsPast : List ℕ → Node → Type 0
IsPast lows x = slice_index lows x.signal ≤ x.advance

-- Least advances that go on behind latches: where a latch is at its least advance at 0, so is its next.
pub record AreLows (c : Plain) (lows : List ℕ) : Type 0 where
  pub sized : length lows ≡ length c.drives
  pub latches : (q next : ℕ) (init : Bool) → q < length c.drives → drive c q ≡ latch next init → slice_index lows q ≤ 1
  pub closed : (q next : ℕ) (init : Bool) → q < length c.drives → drive c q ≡ latch next init → slice_index lows q ≡ 0
      → slice_index lows next ≡ 0

-- What may be a register and is past the least advance of its signal is needed.
abbrev pub AreNeeded : Plain → List Table → List ℕ → Type 0
AreNeeded c tables lows =
    (x : Node) → x.signal < length c.drives → IsPast lows x → MayBeRegister (drive c x.signal) tables x → IsNeeded c tables x

-- Some nodes are past least advances that have fallen, and no further than these nodes need.
pub record Lowers (c : Plain) (nodes : List Node) (old new : List ℕ) : Type 0 where
  pub falls : (s : ℕ) → slice_index new s ≤ slice_index old s
  pub reached : (x : Node) → Contains nodes x → IsPast new x
  pub needed : (tables : List Table) → ((x : Node) → Contains nodes x → IsNeeded c tables x) → AreNeeded c tables old
      → AreNeeded c tables new

-- The least advances at which signals have registers.
pub record AreLeast (c : Plain) (tables : List Table) (ends lows : List ℕ) : Type 0 where
  pub chained : AreLows c lows
  pub within : (s : ℕ) → slice_index lows s ≤ slice_index ends s
  pub reached : (x : Node) → IsNeeded c tables x → IsPast lows x
  pub needed : AreNeeded c tables lows
