-- Walks over two-way nodes, reached nodes, and covers of a node.
use Rattle.std.specs.Prelude.{ℕ, List, [], ◌∷◌, Contains, IsTrue}
use Rattle.tm_circuit.specs.Plain.{Drive}
use Rattle.two_way.specs.declared.answer.TwoNode.{TwoNode}
use Rattle.two_way.specs.Nodes.{reads, is_end}

-- A walk from a node, as the list of its nodes after the first: each node reads the next one, and the last is an end.
abbrev pub IsWalk : ℕ → List Drive → TwoNode → List TwoNode → Type 0
IsWalk back drives x [] = IsTrue (is_end back drives x)
IsWalk back drives x (y ∷ rest) = Contains (reads back drives x) y × IsWalk back drives y rest

-- Reads lead from a node over some nodes to `y`, in at least one step.
abbrev pub LeadsTo : ℕ → List Drive → TwoNode → List TwoNode → TwoNode → Type 0
LeadsTo back drives x [] y = Contains (reads back drives x) y
LeadsTo back drives x (z ∷ through) y = Contains (reads back drives x) z × LeadsTo back drives z through y

-- The node `y` is reached from `x` by at least one step.
abbrev pub IsReached : ℕ → List Drive → TwoNode → TwoNode → Type 0
IsReached back drives x y = (through : List TwoNode) × LeadsTo back drives x through y

-- The leaves cover a node: every walk from it meets a leaf after its first node, and each leaf is reached from it by at least one
-- step.
pub record Covers (back : ℕ) (drives : List Drive) (leaves : List TwoNode) (x : TwoNode) : Type 0 where
  pub met : (walk : List TwoNode) → IsWalk back drives x walk → (y : TwoNode) × Contains walk y × Contains leaves y
  pub reached : (y : TwoNode) → Contains leaves y → IsReached back drives x y
