-- A net as contracts see it, and its walks. A net is any directed graph that is asked node by node.
use Rattle.std.specs.Prelude.{◌≡◌, ℕ, ◌<◌, Bool, true, List, [], ◌∷◌}

-- What a net answers of each of its nodes, as functions.
pub record Shape (T : Type 0) : Type 0 where
  pub reads : T → ℕ
  pub read : T → ℕ → T
  pub is_end : T → Bool
  pub may_cut : T → Bool
  pub rank : T → ℕ
  pub bound : ℕ

-- the indices lead from x along reads, each within what its node reads
abbrev pub IsPath : {T : Type 0} → Shape T → T → List ℕ → Type 0
IsPath n x [] = Unit {0}
IsPath n x (i ∷ is) = (i < n.reads x) × IsPath n (n.read x i) is

-- the indices lead from x to an end
abbrev pub IsIndexWalk : {T : Type 0} → Shape T → T → List ℕ → Type 0
IsIndexWalk n x [] = n.is_end x ≡ true
IsIndexWalk n x (i ∷ is) = (i < n.reads x) × IsIndexWalk n (n.read x i) is

-- the nodes that the indices lead to from x, without x itself
abbrev pub nodes_of : {T : Type 0} → Shape T → T → List ℕ → List T
nodes_of n x [] = []
nodes_of n x (i ∷ is) = n.read x i ∷ nodes_of n (n.read x i) is

-- the node that the indices lead to from x
abbrev pub node_after : {T : Type 0} → Shape T → T → List ℕ → T
node_after n x [] = x
node_after n x (i ∷ is) = node_after n (n.read x i) is

-- reads lead from x to v, in any number of steps
abbrev pub Reaches : {T : Type 0} → Shape T → T → T → Type 0
Reaches n x v = (is : List ℕ) × IsPath n x is × (node_after n x is ≡ v)
