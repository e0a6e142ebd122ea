-- The function of a table: what its gate comes to, ahead by its lag, from the bits of its leaves.
use Rattle.std.specs.Prelude.{◌≡◌, ℕ, zero, suc, Bool, List, map, Contains}
use Rattle.tm_bits.specs.Rows.{holds}
use Rattle.tm_circuit.specs.Plain.{Drive, input, latch, gate, drive_in}
use Rattle.tm_unroll.specs.declared.node.Node.{Node}
use Rattle.tm_unroll.specs.Nodes.{node_at}
use Rattle.tm_unroll.specs.Mappings.{Table, root}

-- The bit that a node asks for, by the drive of its signal, where `bits` has the bits of the nodes: a gate the value of its cover
-- on its pins at the same advance, a latch at a positive advance the bit of its next one advance less. An end keeps its own bit.
abbrev pub asked_of : Drive → ℕ → (Node → Bool) → Bool → Bool
asked_of input advance bits own = own
asked_of (latch next init) zero bits own = own
asked_of (latch next init) (suc less) bits own = bits (node_at less next)
asked_of (gate pins cover) advance bits own = holds cover (map (λ p. bits (node_at advance p)) pins)

-- Bits of all nodes, in which each node that is none of the leaves has the bit that it asks for. Leaves and ends may have any bits.
abbrev pub Evaluates : List Drive → List Node → (Node → Bool) → Type 0
Evaluates drives leaves bits =
    (x : Node) → (Contains leaves x → ⊥) → bits x ≡ asked_of (drive_in drives x.signal) x.advance bits (bits x)

-- The function of a table: whatever bits the nodes have, the root has the function's value at the bits of the leaves.
abbrev pub IsFunctionOf : List Drive → Table → (List Bool → Bool) → Type 0
IsFunctionOf drives t f = (bits : Node → Bool) → Evaluates drives t.leaves bits → bits (root t) ≡ f (map bits t.leaves)
