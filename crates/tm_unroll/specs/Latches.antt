-- The nodes behind latches, and the lag that an output needs of its source.
use Rattle.std.specs.Prelude.{ℕ, zero, suc, ◌<◌, ◌≤◌, List, Contains, IsTrue}
use Rattle.tm_circuit.specs.Plain.{Plain, Drive, input, latch, gate, drive_in, is_latch}
use Rattle.tm_circuit.specs.Chain.{IsGate}
use Rattle.tm_circuit.specs.Source.{back}
use Rattle.tm_unroll.specs.declared.node.Node.{Node}
use Rattle.tm_unroll.specs.Nodes.{node_at}

-- Where a node leads: a latch further, to its next; an input and a gate stay.
abbrev pub behind_of : Drive → Node → (ℕ → Node) → Node
behind_of input x further = x
behind_of (latch next init) x further = further next
behind_of (gate pins cover) x further = x

-- The node to which latches lead from a signal at an advance, with one advance less for each: a gate, an input, or a latch
-- at advance 0.
abbrev pub behind_latches : List Drive → ℕ → ℕ → Node
behind_latches drives zero s = node_at 0 s
behind_latches drives (suc less) s = behind_of (drive_in drives s) (node_at (suc less) s) (λ next. behind_latches drives less next)

-- The lag that an output needs of its source: the base less the number of latches from the output down to the source, the
-- output counted, and not below 0.
abbrev pub need_of : ℕ → Plain → ℕ → ℕ
need_of base c s = (behind_latches c.drives base s).advance

-- So many latches lead from a signal down to a gate, the signal counted.
pub record LeadsToGate (drives : List Drive) (s latches : ℕ) : Type 0 where
  pub passes : (n : ℕ) → n < latches → IsTrue (is_latch (drive_in drives (back drives n s)))
  pub arrives : IsGate drives (back drives latches s)

-- No output needs a lag above the base.
abbrev pub NeedAtMost : ℕ → (ℕ → ℕ) → Plain → Type 0
NeedAtMost base need c = (s : ℕ) → Contains c.outputs s → need s ≤ base
