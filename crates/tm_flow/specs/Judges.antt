-- What is wrong with walks that are no barrier, in the order of the test.
use Rattle.std.specs.Prelude.{◌≡◌, ℕ, ◌+◌, ◌<◌, ◌⊎◌, true, List, [], ◌∷◌, length}
use Rattle.tm_flow.specs.Lists.{Has, Each, At}
use Rattle.tm_flow.specs.Nets.{Shape, IsIndexWalk, nodes_of}
use Rattle.tm_flow.specs.declared.judge.WalkFault.{WalkFault}
use Rattle.tm_flow.specs.declared.judge.WalkFault.TheVariants.{TooFew, Path, Shared}

-- as many walks as a barrier has
abbrev pub AreEnough : ℕ → List (List ℕ) → Type 0
AreEnough k ws = (length ws ≡ 1) ⊎ (length ws ≡ k + 1)

-- one of the lists of indices does not lead from x to an end
abbrev pub HasNoWalk : {T : Type 0} → Shape T → T → List (List ℕ) → Type 0
HasNoWalk n x ws = (w : List ℕ) × Has ws w × ¬ IsIndexWalk n x w

-- v stands on the walk, where there is one
abbrev pub IsOnTheWalk : {T : Type 0} → Shape T → T → List (List ℕ) → T → Type 0
IsOnTheWalk n x ws v = (w : List ℕ) × (ws ≡ w ∷ []) × Has (nodes_of n x w) v

-- v stands on two of the walks
abbrev pub IsOnTwoWalks : {T : Type 0} → Shape T → T → List (List ℕ) → T → Type 0
IsOnTwoWalks n x ws v =
    (i j : ℕ) × (u w : List ℕ) × (i < j) × At ws i u × At ws j w × Has (nodes_of n x u) v × Has (nodes_of n x w) v

-- a node that may be cut stands on the walk where there is one, or on two of the walks; the root x is on none
abbrev pub HasShared : {T : Type 0} → Shape T → T → List (List ℕ) → Type 0
HasShared {T} n x ws = (v : T) × (n.may_cut v ≡ true) × (IsOnTheWalk n x ws v ⊎ IsOnTwoWalks n x ws v)

-- the first fault of walks that are no barrier of x for k: each is looked for only where there is none before it
abbrev pub IsWalkFault : {T : Type 0} → Shape T → T → ℕ → List (List ℕ) → WalkFault → Type 0
IsWalkFault n x k ws TooFew = ¬ AreEnough k ws
IsWalkFault n x k ws Path = AreEnough k ws × HasNoWalk n x ws
IsWalkFault n x k ws Shared = AreEnough k ws × Each (IsIndexWalk n x) ws × HasShared n x ws

-- the nodes that are held, after some nodes are taken in turn: those that may be cut are held, and none of these was held before
pub record Takes {T : Type 0} (n : Shape T) (nodes held taken : List T) : Type 0 where
  pub stays : (v : T) → Has held v → Has taken v
  pub takes : (v : T) → Has nodes v → n.may_cut v ≡ true → Has taken v
  pub only : (v : T) → Has taken v → Has held v ⊎ (Has nodes v × (n.may_cut v ≡ true))
  pub fresh : (v : T) → Has nodes v → n.may_cut v ≡ true → ¬ Has held v

-- one of the nodes may be cut and is held already
abbrev pub Clashes : {T : Type 0} → Shape T → List T → List T → Type 0
Clashes {T} n nodes held = (v : T) × Has nodes v × (n.may_cut v ≡ true) × Has held v
