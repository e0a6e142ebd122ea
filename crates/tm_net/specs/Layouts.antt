-- Numbers of the signals of a mapped circuit.
use Rattle.std.specs.Prelude.{◌≡◌, ◌≢◌, ℕ, suc, ◌+◌, ◌-◌, ◌^◌, ◌<◌, ◌≤◌, nat_lt, List, length, Some, slice_get, slice_index, Contains, if◌then◌else◌}
use Rattle.tm_circuit.specs.Plain.{Plain, Drive, input, latch, gate, drive, input_count}
use Rattle.tm_unroll.specs.declared.node.Node.{Node}
use Rattle.tm_unroll.specs.Mappings.{Table}
use Rattle.tm_net.specs.declared.layout.Layout.{Layout}
use Rattle.tm_net.specs.Registers.{registers_before, IsPast, AreEnds, AreLows, AreLeast}

-- The number of each signal's first register, after the inputs and the registers of the signals before it, and at the end the number
-- after all registers.
pub record AreFirsts (inputs : ℕ) (lows ends : List ℕ) (signals : ℕ) (firsts : List ℕ) : Type 0 where
  pub sized : length firsts ≡ suc signals
  pub each : (s : ℕ) → s ≤ signals → slice_index firsts s ≡ inputs + length (registers_before lows ends s)

-- The numbers of roots, from a first one on, by the signals of the gates; other signals keep their own.
pub record AreTops (tables : List Table) (first signals : ℕ) (tops : List ℕ) : Type 0 where
  pub sized : length tops ≡ signals
  pub own : (s : ℕ) → s < signals → ((t : Table) → Contains tables t → t.gate ≢ s) → slice_index tops s ≡ s
  pub roots : (i : ℕ) (t : Table) → slice_get tables i ≡ Some t → slice_index tops t.gate ≡ first + i

-- The registers of a layout.
abbrev pub registers_of : Plain → Layout → List Node
registers_of c layout = registers_before layout.lows.items layout.ends.items (length c.drives)

-- The layout of a mapping.
pub record IsLayout (c : Plain) (tables : List Table) (layout : Layout) : Type 0 where
  pub ends : AreEnds c tables layout.ends.items
  pub least : AreLeast c tables layout.ends.items layout.lows.items
  pub firsts : AreFirsts (input_count c.drives) layout.lows.items layout.ends.items (length c.drives) layout.firsts.items
  pub tops : AreTops tables (input_count c.drives + length (registers_of c layout)) (length c.drives) layout.tops.items

-- The number of a node: of a register where it is before the end of its signal's registers, else of an input or a root.
abbrev pub number_in : Layout → Node → ℕ
number_in layout x =
    if nat_lt x.advance (slice_index layout.ends.items x.signal)
    then slice_index layout.firsts.items x.signal + (x.advance - slice_index layout.lows.items x.signal)
    else slice_index layout.tops.items x.signal

-- Lists of one length, with numbers that can grow by an advance.
pub record HasRoom (layout : Layout) : Type 0 where
  pub ends : length layout.ends.items ≡ length layout.lows.items
  pub firsts : length layout.lows.items < length layout.firsts.items
  pub tops : length layout.tops.items ≡ length layout.lows.items
  pub room : (s : ℕ) → slice_index layout.firsts.items s + 256 ≤ 2 ^ 32

-- A node that has a number.
pub record IsNumbered (layout : Layout) (x : Node) : Type 0 where
  pub signal : x.signal < length layout.lows.items
  pub past : IsPast layout.lows.items x

-- Where registers end by the drive of the signal, with an end of at most `most` for a gate.
abbrev pub IsEndWithin : Drive → ℕ → ℕ → Type 0
IsEndWithin input most end = end ≡ 0
IsEndWithin (latch next init) most end = end ≡ 1
IsEndWithin (gate pins cover) most end = end ≤ most

-- A layout over the signals of a circuit, whose gates have registers below the advance `most` alone.
pub record FitsCircuit (c : Plain) (most : ℕ) (layout : Layout) : Type 0 where
  pub near : most ≤ 8
  pub room : HasRoom layout
  pub lows : AreLows c layout.lows.items
  pub within : (s : ℕ) → slice_index layout.lows.items s ≤ slice_index layout.ends.items s
  pub ends : (s : ℕ) → s < length c.drives → IsEndWithin (drive c s) most (slice_index layout.ends.items s)
