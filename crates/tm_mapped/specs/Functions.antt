-- What the bits of the leaves tell.
use Rattle.std.specs.Prelude.{◌≡◌, Bool, List, Contains, length}
use Rattle.tm_circuit.specs.Plain.{Drive}
use Rattle.tm_unroll.specs.declared.node.Node.{Node}
use Rattle.tm_unroll.specs.Mappings.{Table}
use Rattle.tm_cone.specs.Cones.{Evaluates, IsFunctionOf}

-- The bits of the leaves tell the bit of a node: in any two assignments in which each node that is none of the leaves has the bit
-- that it asks for, and which agree on the leaves, the node has the same bit.
abbrev pub HasOneValue : List Drive → List Node → Node → Type 0
HasOneValue drives leaves x =
    (bits others : Node → Bool) → Evaluates drives leaves bits → Evaluates drives leaves others
    → ((y : Node) → Contains leaves y → bits y ≡ others y) → bits x ≡ others x

-- A table has a function, and any two are the same on bits of the leaves' number.
pub record HasOneFunction (drives : List Drive) (t : Table) : Type 0 where
  pub some : (f : List Bool → Bool) × IsFunctionOf drives t f
  pub one : (f g : List Bool → Bool) → IsFunctionOf drives t f → IsFunctionOf drives t g → (bits : List Bool)
      → length bits ≡ length t.leaves → f bits ≡ g bits
