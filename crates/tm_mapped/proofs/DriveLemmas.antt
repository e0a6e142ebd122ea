-- What drives each signal of a mapped circuit.
use Rattle.std.proofs.Common.{◌≡◌, ℕ, suc, ◌<◌, inl, inr, Bool, false, List, length, Some, None, slice_get, refl, sym, ◌∙◌, ap, arith}
use Rattle.std.specs.Prelude.{Contains}
use Rattle.std.proofs.lemmas.Bool.{cases_lt}
use Rattle.std.proofs.lemmas.List.{get_or_past}
use Rattle.std.proofs.lemmas.Option.{slice_get_past}
use Rattle.tm_circuit.specs.Plain.{Plain, Drive, input, latch, gate, drive, input_count}
use Rattle.tm_unroll.specs.declared.node.Node.{Node}
use Rattle.tm_unroll.specs.Nodes.{node_at}
use Rattle.tm_unroll.specs.Mappings.{Table, root}
use Rattle.tm_unroll.proofs.ListLemmas.{contains-at, some-at}
use Rattle.tm_mapped.specs.Needed.{HasTablePast, MayBeRegister, nodes_of}
use Rattle.tm_mapped.specs.Mapped.{IsFirstBit, IsRegisterDrive, CoverRule, IsTableDrive, IsMappedBy}
use Rattle.tm_mapped.proofs.NodeLemmas.{AtPlace, at_input, at_register, at_root, node_cases}

-- A register that is kept: it stands for a latch, and its next for the latch's next.
pub record IsKept (c : Plain) (nodes : List Node) (x : Node) (d : Drive) : Type 0 where
  pub next : ℕ
  pub init : Bool
  pub place : ℕ
  pub was : drive c x.signal ≡ latch next init
  pub now : x.advance ≡ 0
  pub stands : slice_get nodes place ≡ Some (node_at 0 next)
  pub is : d ≡ latch place init

-- A register that is moved: it stands for a gate below the lag of its table, and its next for the gate one advance further.
pub record IsMoved (c : Plain) (nodes : List Node) (tables : List Table) (x : Node) (d : Drive) : Type 0 where
  pub init : Bool
  pub place : ℕ
  pub past : HasTablePast tables x.signal x.advance
  pub stands : slice_get nodes place ≡ Some (node_at (suc x.advance) x.signal)
  pub first : IsFirstBit c x.signal x.advance init
  pub is : d ≡ latch place init

-- What drives a signal: it is an input, a register that is kept or moved, a table, or no signal of the circuit.
pub data IsDriven (Covers : CoverRule) (c : Plain) (registers : List Node) (tables : List Table) (mapped : Plain) (i : ℕ) : Type 0 where
  as_input : i < input_count c.drives → slice_get (nodes_of c registers tables) i ≡ Some (node_at 0 i) → drive mapped i ≡ input
      → IsDriven Covers c registers tables mapped i
  as_kept : (x : Node) → slice_get (nodes_of c registers tables) i ≡ Some x → IsKept c (nodes_of c registers tables) x (drive mapped i)
      → IsDriven Covers c registers tables mapped i
  as_moved : (x : Node) → slice_get (nodes_of c registers tables) i ≡ Some x → IsMoved c (nodes_of c registers tables) tables x (drive mapped i)
      → IsDriven Covers c registers tables mapped i
  as_table : (t : Table) → Contains tables t → slice_get (nodes_of c registers tables) i ≡ Some (root t)
      → IsTableDrive Covers c (nodes_of c registers tables) t (drive mapped i) → IsDriven Covers c registers tables mapped i
  as_none : slice_get (nodes_of c registers tables) i ≡ None → drive mapped i ≡ latch i false → IsDriven Covers c registers tables mapped i

module _ (Covers : CoverRule) (c : Plain) (tables : List Table) (mapped : Plain) (by : IsMappedBy Covers c tables mapped) where
  register_driven : (i : ℕ) (x : Node) (d : Drive) → slice_get (nodes_of c by.registers tables) i ≡ Some x → drive c x.signal ≡ d → MayBeRegister d tables x
      → IsRegisterDrive c (nodes_of c by.registers tables) d x (drive mapped i) → IsDriven Covers c by.registers tables mapped i
  register_driven i x input at is kind driven = absurd kind
  register_driven i x (latch next init) at is kind (j, stands, driven) =
      as_kept x at (record { next = next; init = init; place = j; was = is; now = kind; stands = stands; is = driven })
  register_driven i x (gate pins cover) at is kind (j, (init, stands, first, driven)) =
      as_moved x at (record { init = init; place = j; past = kind; stands = stands; first = first; is = driven })

  at_place : (i : ℕ) (x : Node) → slice_get (nodes_of c by.registers tables) i ≡ Some x → AtPlace (input_count c.drives) by.registers tables i x
      → IsDriven Covers c by.registers tables mapped i
  at_place i x at (at_input low is) = as_input low (at ∙ ap Some (sym is)) (by.inputs i low)
  at_place i x at (at_register j there register) =
      let stands = contains-at by.registers j x register in
      register_driven i x (drive c x.signal) at refl ((by.are.each x).0 stands).kind (by.latches i x stands at)
  at_place i x at (at_root j t there among is) =
      let stands = contains-at tables j t among in
      let here = at ∙ ap Some (sym is) in
      as_table t stands here (by.gates i t stands here)

  pub driven_as : (i : ℕ) → IsDriven Covers c by.registers tables mapped i
  driven_as i =
      elim (cases_lt i (length (nodes_of c by.registers tables))) [
        | inl within ↦
            let (x, at) = some-at (nodes_of c by.registers tables) i within in
            at_place i x at (node_cases c by.registers tables i x at)
        | inr past ↦
            as_none (slice_get_past (nodes_of c by.registers tables) i past)
            (get_or_past mapped.drives i (latch i false) (let e = by.signals in omega (arith, e, past)))
      ]
