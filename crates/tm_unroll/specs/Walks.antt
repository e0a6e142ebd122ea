-- Walks along reads to an end, reached nodes, and covers of a node.
use Rattle.std.specs.Prelude.{List, [], ◌∷◌, Contains, IsTrue}
use Rattle.tm_circuit.specs.Plain.{Drive}
use Rattle.tm_unroll.specs.declared.node.Node.{Node}
use Rattle.tm_unroll.specs.Nodes.{reads, is_end}

-- A walk from a node, as the list of its nodes after the first: each node reads the next one, and the last is an end.
abbrev pub IsWalk : List Drive → Node → List Node → Type 0
IsWalk drives x [] = IsTrue (is_end drives x)
IsWalk drives x (y ∷ rest) = Contains (reads drives x) y × IsWalk drives y rest

-- Reads lead from a node over some nodes to `y`, in at least one step.
abbrev pub LeadsTo : List Drive → Node → List Node → Node → Type 0
LeadsTo drives x [] y = Contains (reads drives x) y
LeadsTo drives x (z ∷ through) y = Contains (reads drives x) z × LeadsTo drives z through y

-- The node `y` is reached from `x` by at least one step.
abbrev pub IsReached : List Drive → Node → Node → Type 0
IsReached drives x y = (through : List Node) × LeadsTo drives x through y

-- Some node of a list is a leaf.
abbrev pub MeetsLeaf : List Node → List Node → Type 0
MeetsLeaf leaves nodes = (y : Node) × Contains nodes y × Contains leaves y

-- The leaves cover a node: every walk from it meets a leaf after its first node, and each leaf is reached from it by at
-- least one step.
pub record Covers (drives : List Drive) (leaves : List Node) (x : Node) : Type 0 where
  pub met : (walk : List Node) → IsWalk drives x walk → MeetsLeaf leaves walk
  pub reached : (y : Node) → Contains leaves y → IsReached drives x y
