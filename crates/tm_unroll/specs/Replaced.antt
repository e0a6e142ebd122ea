-- Covers whose leaves are replaced by covers of them. For a cover neither the order of leaves nor a repetition counts; the
-- leaves of a table stand once each, in strictly ascending order.
use Rattle.std.specs.Prelude.{◌≢◌, ◌↔◌, ◌⊎◌, ℕ, ◌<◌, ◌≤◌, List, length, take, drop, Option, Some, Contains, AllPairs}
use Rattle.tm_circuit.specs.Plain.{Drive}
use Rattle.tm_unroll.specs.declared.node.Node.{Node}
use Rattle.tm_unroll.specs.Nodes.{IsBefore}
use Rattle.tm_unroll.specs.Walks.{IsReached, Covers}

-- Two lists have the same nodes.
abbrev pub HaveSameNodes : List Node → List Node → Type 0
HaveSameNodes nodes others = (z : Node) → Contains nodes z ↔ Contains others z

-- A list has the leaves of another but y, some others in the place of y, and no more.
pub record Replaces (leaves : List Node) (y : Node) (others new : List Node) : Type 0 where
  pub nodes : (z : Node) → Contains new z ↔ ((Contains leaves z × (z ≢ y)) ⊎ Contains others z)

-- Each leaf stays, or all nodes of some cover of it stand in its place; and what is new is reached from some leaf.
pub record ReplacesEach (drives : List Drive) (leaves new : List Node) : Type 0 where
  pub each : (y : Node) → Contains leaves y
      → Contains new y ⊎ ((others : List Node) × Covers drives others y × ((z : Node) → Contains others z → Contains new z))
  pub only : (z : Node) → Contains new z → Contains leaves z ⊎ ((y : Node) × Contains leaves y × IsReached drives y z)

-- The nodes of a list, each once and in strictly ascending order.
pub record IsInOrder (nodes ordered : List Node) : Type 0 where
  pub ascending : AllPairs IsBefore ordered
  pub few : length ordered ≤ length nodes
  pub same : HaveSameNodes nodes ordered

-- At most k leaves in strictly ascending order, with one replaced by some others.
pub record IsReplacement (k : ℕ) (leaves : List Node) (y : Node) (others new : List Node) : Type 0 where
  pub ascending : AllPairs IsBefore new
  pub few : length new ≤ k
  pub replaces : Replaces leaves y others new

-- With one leaf replaced by some others there are more than k leaves.
abbrev pub ReplacesBeyond : ℕ → List Node → Node → List Node → Type 0
ReplacesBeyond k leaves y others = (new : List Node) → Replaces leaves y others new → k < length new

-- At most k nodes in strictly ascending order: those of a list, and added ones.
pub record Joins (added : Node → Type 0) (k : ℕ) (old new : List Node) : Type 0 where
  pub ascending : AllPairs IsBefore new
  pub few : length new ≤ k
  pub nodes : (z : Node) → Contains new z ↔ (Contains old z ⊎ added z)

-- Together with the added ones the nodes of a list are more than k.
abbrev pub JoinsBeyond : (Node → Type 0) → ℕ → List Node → Type 0
JoinsBeyond added k old = (all : List Node) → ((z : Node) → Contains old z ⊎ added z → Contains all z) → k < length all

-- A node of a list, and not the one that is left out.
abbrev pub IsTaken : Option Node → List Node → Node → Type 0
IsTaken but nodes z = Contains nodes z × (but ≢ Some z)

-- The nodes of a list in front of a place stand before a node, and the others do not.
pub record PartsAt (nodes : List Node) (x : Node) (place : ℕ) : Type 0 where
  pub within : place ≤ length nodes
  pub front : (y : Node) → Contains (take place nodes) y → IsBefore y x
  pub back : (y : Node) → Contains (drop place nodes) y → ¬ IsBefore y x
