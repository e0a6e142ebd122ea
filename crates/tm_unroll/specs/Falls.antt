-- How nodes fall along reads: the advance never rises, and where it stays the rank of the signal falls.
use Rattle.std.specs.Prelude.{◌≡◌, ◌≢◌, ◌⊎◌, ℕ, suc, ◌+◌, ◌*◌, ◌<◌, ◌≤◌, List, length, Contains, AllPairs}
use Rattle.tm_circuit.specs.Plain.{Plain, gate_count}
use Rattle.tm_circuit.specs.Chain.{rank}
use Rattle.tm_unroll.specs.declared.node.Node.{Node}
use Rattle.tm_unroll.specs.Nodes.{reads}
use Rattle.tm_unroll.specs.Walks.{IsWalk}
use Rattle.tm_unroll.specs.Mappings.{Table}
use Rattle.tm_unroll.specs.Chains.{IsChain}

-- The pair of advance and rank is lower, by the advance first.
abbrev pub IsLower : Plain → Node → Node → Type 0
IsLower c y x = (y.advance < x.advance) ⊎ ((y.advance ≡ x.advance) × (rank c y.signal < rank c x.signal))

-- The most steps that a walk from a node can have: the number of gates and one more for each advance, and the rank.
abbrev pub height : Plain → Node → ℕ
height c x = x.advance * suc (gate_count c.drives) + rank c x.signal

-- Along reads nodes become lower, so that every walk ends.
pub record WalksFall (c : Plain) : Type 0 where
  pub falls : (x y : Node) → Contains (reads c.drives x) y → IsLower c y x
  pub short : (x : Node) (walk : List Node) → IsWalk c.drives x walk → length walk ≤ height c x

-- No chain of the tables meets a table twice.
abbrev pub HasNoRepeats : List Table → Type 0
HasNoRepeats tables = (chain : List Table) → IsChain tables chain → AllPairs (λ t u. t ≢ u) chain
