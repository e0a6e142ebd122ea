-- The bits of nodes on 256 rows at once, and the nodes between a root and its leaves.
use Rattle.std.specs.Prelude.{◌≡◌, ◌⊎◌, ℕ, ◌<◌, ◌==◌, ◌&&◌, Bool, false, List, [], length, map, take, Some, slice_get, unwrap_or, Contains, IsSome}
use Rattle.indexmap.specs.IndexMap.{IndexMap, get}
use Rattle.tm_bits.specs.Tables.{bit_of, row_number}
use Rattle.tm_circuit.specs.Plain.{Drive}
use Rattle.tm_unroll.specs.declared.node.Node.{Node}
use Rattle.tm_unroll.specs.Nodes.{reads, is_end}
use Rattle.tm_unroll.specs.Walks.{IsWalk, MeetsLeaf}
use Rattle.tm_cone.specs.Cones.{Evaluates}

-- Four words that have on each of 256 rows the bit that a function has there.
pub record HaveBits (words : List ℕ) (bit : ℕ → Bool) : Type 0 where
  pub each : (row : ℕ) → row < 256 → bit_of words row ≡ bit row

-- The bits that nodes have on a row, where each node has words.
abbrev pub bits_on : ℕ → (Node → List ℕ) → Node → Bool
bits_on row words x = bit_of (words x) row

-- The bits that some lists of words have on a row, in order.
abbrev pub bits_in : ℕ → List (List ℕ) → List Bool
bits_in row each = map (λ words. bit_of words row) each

-- Nodes are equal where their parts are.
abbrev pub node_eq : Node → Node → Bool
node_eq x y = (x.signal == y.signal) && (x.advance == y.advance)

-- The words that a map has for a node, none where it has no entry.
abbrev pub words_in : {S : Type 0} → IndexMap Node (List ℕ) S → Node → List ℕ
words_in values x = unwrap_or (get node_eq values x) []

-- A map has words for each of some nodes.
abbrev pub HasWordsFor : {S : Type 0} → IndexMap Node (List ℕ) S → List Node → Type 0
HasWordsFor values nodes = (x : Node) → Contains nodes x → IsSome (get node_eq values x)

-- The words have the bit of a node on the row that the bits of the leaves name, whatever bits the nodes have.
pub record HasValue (drives : List Drive) (leaves : List Node) (x : Node) (words : List ℕ) : Type 0 where
  pub at : (bits : Node → Bool) → Evaluates drives leaves bits → bit_of words (row_number (map bits leaves)) ≡ bits x

-- All that a node reads is among some nodes.
abbrev pub HasReadsIn : List Drive → List Node → Node → Type 0
HasReadsIn drives nodes x = (y : Node) → Contains (reads drives x) y → Contains nodes y

-- Each walk from a node meets a leaf after its first node. Such a node is no end.
abbrev pub IsGuarded : List Drive → List Node → Node → Type 0
IsGuarded drives leaves x = (walk : List Node) → IsWalk drives x walk → MeetsLeaf leaves walk

-- Nodes from a root down to leaves: they are signals, the root is among them, and each is a leaf, or no end and all that it reads
-- is among them too.
pub record IsCone (drives : List Drive) (leaves : List Node) (root : Node) (nodes : List Node) : Type 0 where
  pub root_in : Contains nodes root
  pub signals : (x : Node) → Contains nodes x → x.signal < length drives
  pub closed : (x : Node) → Contains nodes x → Contains leaves x ⊎ ((is_end drives x ≡ false) × HasReadsIn drives nodes x)

-- Nodes that can be worked out in their order: each is a leaf, or no end and all that it reads stands before it.
pub record IsInOrder (drives : List Drive) (leaves nodes : List Node) : Type 0 where
  pub signals : (x : Node) → Contains nodes x → x.signal < length drives
  pub ready : (i : ℕ) (x : Node) → slice_get nodes i ≡ Some x
      → Contains leaves x ⊎ ((is_end drives x ≡ false) × HasReadsIn drives (take i nodes) x)

-- A map has the words of each of some nodes.
pub record AreValues {S : Type 0} (drives : List Drive) (leaves nodes : List Node) (values : IndexMap Node (List ℕ) S) : Type 0 where
  pub known : HasWordsFor values nodes
  pub right : (x : Node) → Contains nodes x → HasValue drives leaves x (words_in values x)
