-- Cuts of a net, the walks that refute a cut, and the half of Menger's theorem that makes them a refutation.
use Rattle.std.specs.Prelude.{◌≡◌, ℕ, ◌+◌, ◌≤◌, ◌⊎◌, true, false, List, [], ◌∷◌, length}
use Rattle.tm_flow.specs.Lists.{Has, Each, AreApart}
use Rattle.tm_flow.specs.Nets.{Shape, IsPath, IsIndexWalk, nodes_of}

-- every walk from x to an end has one of these nodes after x
abbrev pub MeetsAllWalks : {T : Type 0} → Shape T → T → List T → Type 0
MeetsAllWalks {T} n x nodes = (is : List ℕ) → IsIndexWalk n x is → (v : T) × Has nodes v × Has (nodes_of n x is) v

-- at most k different nodes, each reached from x and each one that may be cut, which cover x
pub record IsCut {T : Type 0} (n : Shape T) (x : T) (k : ℕ) (nodes : List T) : Type 0 where
  pub few : length nodes ≤ k
  pub apart : AreApart nodes
  pub may_be_cut : (v : T) → Has nodes v → n.may_cut v ≡ true
  pub reached : (v : T) → Has nodes v → (is : List ℕ) × IsPath n x is × Has (nodes_of n x is) v
  pub covers : MeetsAllWalks n x nodes

-- no node that may be cut stands on two of the walks
abbrev pub AreDisjoint : {T : Type 0} → Shape T → T → List (List ℕ) → Type 0
AreDisjoint n x [] = Unit {0}
AreDisjoint {T} n x (w ∷ ws) =
    ((u : List ℕ) (v : T) → Has ws u → n.may_cut v ≡ true → Has (nodes_of n x w) v → Has (nodes_of n x u) v → ⊥) × AreDisjoint n x ws

-- walks to ends that share no node that may be cut
pub record AreFlow {T : Type 0} (n : Shape T) (x : T) (ws : List (List ℕ)) : Type 0 where
  pub walks : Each (IsIndexWalk n x) ws
  pub disjoint : AreDisjoint n x ws

-- one walk to an end with no node that may be cut
pub record IsFree {T : Type 0} (n : Shape T) (x : T) (w : List ℕ) : Type 0 where
  pub walk : IsIndexWalk n x w
  pub uncut : (v : T) → Has (nodes_of n x w) v → n.may_cut v ≡ false

-- what no cut of at most k nodes can go with: a free walk, or k + 1 walks that share no node that may be cut
abbrev pub IsBarrier : {T : Type 0} → Shape T → T → ℕ → List (List ℕ) → Type 0
IsBarrier n x k ws = ((w : List ℕ) × (ws ≡ w ∷ []) × IsFree n x w) ⊎ ((length ws ≡ k + 1) × AreFlow n x ws)

-- a barrier leaves no cover by at most k nodes that may be cut
abbrev pub BarrierExcludesCovers : {T : Type 0} → Shape T → Type 0
BarrierExcludesCovers {T} n =
    (x : T) (k : ℕ) (walks : List (List ℕ)) (nodes : List T)
    → IsBarrier n x k walks
    → length nodes ≤ k
    → ((v : T) → Has nodes v → n.may_cut v ≡ true)
    → MeetsAllWalks n x nodes
    → ⊥
