-- The parts of a mapped circuit as they are made, by a layout.
use Rattle.std.specs.Prelude.{◌≡◌, ℕ, suc, ◌<◌, ◌≤◌, Bool, false, List, map, length, slice_index, Contains}
use Rattle.tm_bits.specs.Limits.{most_inputs}
use Rattle.tm_bits.specs.Tables.{bit_of, row_number}
use Rattle.tm_circuit.specs.declared.parts.LatchPart.{LatchPart}
use Rattle.tm_circuit.specs.declared.parts.GatePart.{GatePart}
use Rattle.tm_circuit.specs.Plain.{Plain, Drive, input, latch, gate, drive}
use Rattle.tm_circuit.specs.Chain.{IsGate}
use Rattle.tm_init.specs.Starts.{Bits, bit_in, AreFirstSteps}
use Rattle.tm_parts.specs.Fits.{plus}
use Rattle.tm_parts.specs.Runs.{joiner_of}
use Rattle.tm_unroll.specs.declared.node.Node.{Node}
use Rattle.tm_unroll.specs.Nodes.{node_at}
use Rattle.tm_unroll.specs.Walks.{Covers}
use Rattle.tm_unroll.specs.Mappings.{Table, root}
use Rattle.tm_cone.specs.Cones.{IsFunctionOf}
use Rattle.tm_mapped.specs.Mapped.{node_name, BySingleRows}
use Rattle.tm_net.specs.declared.layout.Layout.{Layout}
use Rattle.tm_net.specs.declared.plan.Plan.{Plan}
use Rattle.tm_net.specs.Layouts.{IsLayout, number_in, IsNumbered, FitsCircuit}

-- ---- what all parts are made with

-- A plan for the mapped circuit of a circuit.
pub record IsPlan (c : Plain) (plan : Plan) : Type 0 where
  pub layout : FitsCircuit c plan.starts.steps plan.layout
  pub joiner : plan.joiner.items ≡ joiner_of plus c
  pub starts : length plan.starts.bytes ≡ length c.drives

-- The plan of a mapping: first bits are kept for the steps below each lag.
pub record IsPlanOf (c : Plain) (tables : List Table) (plan : Plan) : Type 0 where
  pub layout : IsLayout c tables plan.layout
  pub fits : IsPlan c plan
  pub first : AreFirstSteps c plan.starts.steps plan.starts
  pub lags : (t : Table) → Contains tables t → t.lag ≤ plan.starts.steps

-- ---- registers

-- A node at which its signal has a register.
pub record IsRegisterIn (layout : Layout) (x : Node) : Type 0 where
  pub numbered : IsNumbered layout x
  pub before : x.advance < slice_index layout.ends.items x.signal

-- What a register stands behind, by the drive of its signal.
abbrev pub behind : Drive → Node → Node
behind input x = x
behind (latch next init) x = node_at 0 next
behind (gate pins cover) x = node_at (suc x.advance) x.signal

-- The initial value of a register, by the drive of its signal.
abbrev pub first_bit : Drive → Bits → Node → Bool
first_bit input starts x = false
first_bit (latch next init) starts x = init
first_bit (gate pins cover) starts x = bit_in starts.bytes x.signal x.advance

-- The latch that a register is.
abbrev pub register_part : Plain → Layout → Bits → Node → LatchPart
register_part c layout starts x = record {
  name = node_name c x;
  next = number_in layout (behind (drive c x.signal) x);
  init = first_bit (drive c x.signal) starts x;
}

-- ---- tables

-- A table that can be made into a gate.
pub record IsTableIn (c : Plain) (layout : Layout) (t : Table) : Type 0 where
  pub gate : IsGate c.drives t.gate
  pub near : t.lag ≤ 8
  pub few : length t.leaves ≤ most_inputs
  pub covers : Covers c.drives t.leaves (root t)
  pub leaves : (x : Node) → Contains t.leaves x → IsNumbered layout x

-- The gate that a table is.
pub record IsGatePart (c : Plain) (layout : Layout) (t : Table) (part : GatePart) : Type 0 where
  pub words : List ℕ
  pub name : part.name ≡ node_name c (root t)
  pub pins : part.pins.items ≡ map (number_in layout) t.leaves
  pub function : IsFunctionOf c.drives t (λ bits. bit_of words (row_number bits))
  pub cover : BySingleRows (length t.leaves) words part.cover
