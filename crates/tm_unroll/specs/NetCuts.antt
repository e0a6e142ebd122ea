-- What a net must keep, and what the walks and cuts of an unrolled net are in walks and covers of nodes.
use Rattle.std.specs.Prelude.{◌≡◌, ◌≢◌, ℕ, ◌<◌, ◌≤◌, Bool, true, List, length, Contains, AllPairs}
use Rattle.tm_circuit.specs.Plain.{Plain, Drive}
use Rattle.tm_flow.specs.Nets.{Shape, IsIndexWalk, nodes_of}
use Rattle.tm_unroll.specs.declared.node.Node.{Node}
use Rattle.tm_unroll.specs.Walks.{IsWalk, Covers}

-- The laws of a net, for every value that may name a node: what is read has a smaller rank, each rank is below the bound,
-- and an end reads nothing.
pub record KeepsNetLaws {T : Type 0} (n : Shape T) : Type 0 where
  pub falls : (x : T) (i : ℕ) → i < n.reads x → n.rank (n.read x i) < n.rank x
  pub below : (x : T) → n.rank x < n.bound
  pub stops : (x : T) → n.is_end x ≡ true → n.reads x ≡ 0

-- A value names a node of the unrolled net: its signal is one of the circuit, and its advance is at most the greatest.
pub record IsNode (most : ℕ) (c : Plain) (x : Node) : Type 0 where
  pub signal : x.signal < length c.drives
  pub advance : x.advance ≤ most

-- The index walks of a net from a node are the walks of nodes from it: the indices of each lead to the nodes of a walk, and
-- each walk is one to which indices lead.
pub record HasWalksOf (n : Shape Node) (drives : List Drive) (x : Node) : Type 0 where
  pub nodes : (is : List ℕ) → IsIndexWalk n x is → IsWalk drives x (nodes_of n x is)
  pub indices : (walk : List Node) → IsWalk drives x walk → (is : List ℕ) × IsIndexWalk n x is × (nodes_of n x is ≡ walk)

-- At most k different nodes that cover x, each one of the net that may be cut.
pub record IsCoverBy (most : ℕ) (c : Plain) (may_cut : Node → Bool) (x : Node) (k : ℕ) (nodes : List Node) : Type 0 where
  pub few : length nodes ≤ k
  pub distinct : AllPairs (λ a b. a ≢ b) nodes
  pub within : (y : Node) → Contains nodes y → IsNode most c y
  pub may_be_cut : (y : Node) → Contains nodes y → may_cut y ≡ true
  pub covers : Covers c.drives nodes x

-- No cover of a node has at most k leaves that may all be cut.
abbrev pub HasNoCoverBy : Plain → (Node → Bool) → Node → ℕ → Type 0
HasNoCoverBy c may_cut x k =
    (leaves : List Node) → length leaves ≤ k → ((y : Node) → Contains leaves y → may_cut y ≡ true) → Covers c.drives leaves x → ⊥
