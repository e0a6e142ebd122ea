-- Searches from the root of a table along reads, before its leaves and behind them.
use Rattle.std.specs.Prelude.{◌≡◌, ◌≢◌, ◌⊎◌, ◌+◌, ◌<◌, false, List, [], length, Option, None, Some, Contains, AllPairs}
use Rattle.tm_circuit.specs.Plain.{Plain, Drive}
use Rattle.tm_unroll.specs.declared.node.Node.{Node}
use Rattle.tm_unroll.specs.declared.cover.Search.{Search}
use Rattle.tm_unroll.specs.Nodes.{reads, is_end}
use Rattle.tm_unroll.specs.Walks.{IsWalk, IsReached, MeetsLeaf}
use Rattle.tm_unroll.specs.Falls.{IsLower}

-- The nodes that a search has met.
abbrev pub met_by : Search → List Node
met_by s = s.met.keys

-- The nodes that a search has still to go through.
abbrev pub left_by : Search → List Node
left_by s = s.stack.items

-- A search has met some nodes more, and those that it had not met before are left.
pub record MeetsMore (nodes : List Node) (old new : Search) : Type 0 where
  pub root : new.root ≡ old.root
  pub kept : (x : Node) → Contains (met_by old) x → Contains (met_by new) x
  pub met : (x : Node) → Contains nodes x → Contains (met_by new) x
  pub only : (x : Node) → Contains (met_by new) x → Contains (met_by old) x ⊎ Contains nodes x
  pub fresh : (x : Node) → Contains (met_by new) x → Contains (met_by old) x ⊎ Contains (left_by new) x
  pub stays : (x : Node) → Contains (left_by old) x → Contains (left_by new) x
  pub left : (x : Node) → Contains (left_by new) x → Contains (left_by old) x ⊎ Contains nodes x
  pub apart : AllPairs (λ a b. a ≢ b) (met_by old) → AllPairs (λ a b. a ≢ b) (met_by new)
  pub balanced : length (met_by new) + length (left_by old) ≡ length (met_by old) + length (left_by new)

-- A search has met all that a node reads.
abbrev pub HasMetReads : List Drive → Search → Node → Type 0
HasMetReads drives s x = (y : Node) → Contains (reads drives x) y → Contains (met_by s) y

-- A search at its start: it has met what its root reads, and all of this is left. The root is a signal and no end.
pub record IsStart (drives : List Drive) (s : Search) : Type 0 where
  pub root : s.root.signal < length drives
  pub goes_on : is_end drives s.root ≡ false
  pub first : HasMetReads drives s s.root
  pub only : (x : Node) → Contains (met_by s) x → Contains (reads drives s.root) x
  pub all : (x : Node) → Contains (met_by s) x → Contains (left_by s) x
  pub left : (x : Node) → Contains (left_by s) x → Contains (met_by s) x
  pub apart : AllPairs (λ a b. a ≢ b) (met_by s)

-- What a search has met is reached from its root, which is a signal; what the root reads is met; and what is left is met.
pub record IsSearch (drives : List Drive) (s : Search) : Type 0 where
  pub root : s.root.signal < length drives
  pub first : HasMetReads drives s s.root
  pub reached : (x : Node) → Contains (met_by s) x → IsReached drives s.root x
  pub left : (x : Node) → Contains (left_by s) x → Contains (met_by s) x
  pub apart : AllPairs (λ a b. a ≢ b) (met_by s)

-- A search that has gone through all nodes before the leaves: each walk from its root meets a leaf, and what it has met are
-- leaves and nodes of which it has met all that they read.
pub record IsBeforeLeaves (drives : List Drive) (leaves : List Node) (s : Search) : Type 0 where
  pub search : IsSearch drives s
  pub empty : left_by s ≡ []
  pub guarded : (walk : List Node) → IsWalk drives s.root walk → MeetsLeaf leaves walk
  pub gone : (x : Node) → Contains (met_by s) x → Contains leaves x ⊎ HasMetReads drives s x

-- The leaves that were met are left again.
pub record TakesUp (leaves : List Node) (old new : Search) : Type 0 where
  pub root : new.root ≡ old.root
  pub met : met_by new ≡ met_by old
  pub stays : (x : Node) → Contains (left_by old) x → Contains (left_by new) x
  pub taken : (x : Node) → Contains leaves x → Contains (met_by old) x → Contains (left_by new) x
  pub left : (x : Node) → Contains (left_by new) x → Contains (left_by old) x ⊎ Contains (met_by old) x

-- The lowest of the leaves that a search has not met, in the pair of advance and rank: no other is lower.
pub record IsLowestMissing (c : Plain) (leaves : List Node) (s : Search) (floor : Node) : Type 0 where
  pub leaf : Contains leaves floor
  pub missing : ¬ Contains (met_by s) floor
  pub lowest : (x : Node) → Contains leaves x → ¬ Contains (met_by s) x → ¬ IsLower c x floor

-- A search that has gone on from what an earlier one had met, down to a floor: what it has met reads nothing that it has not
-- met, but for nodes that the floor is not lower than. These can't reach the floor, nor a node that is no lower, since nodes
-- become lower along reads.
pub record HasGoneDownTo (c : Plain) (floor : Node) (old new : Search) : Type 0 where
  pub search : IsSearch c.drives new
  pub root : new.root ≡ old.root
  pub kept : (x : Node) → Contains (met_by old) x → Contains (met_by new) x
  pub closed : (x : Node) → Contains (met_by new) x → IsLower c floor x → HasMetReads c.drives new x

-- The lower of two nodes, where there is a first one.
abbrev pub IsLowerOf : Plain → Option Node → Node → Node → Type 0
IsLowerOf c None second lower = lower ≡ second
IsLowerOf c (Some first) second lower =
    ((lower ≡ first) × ¬ IsLower c second first) ⊎ ((lower ≡ second) × IsLower c second first)
