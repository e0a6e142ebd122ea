-- Laws of barriers, over any net: where they stay barriers, and how they are inherited from a node that is read.
use Rattle.std.specs.Prelude.{◌≡◌, ℕ, ◌<◌, true, false, List, [], ◌∷◌, map}
use Rattle.tm_flow.specs.Nets.{Shape}
use Rattle.tm_flow.specs.Cuts.{IsBarrier}

-- the second net has the reads and the ends of the first, and each of its nodes that may be cut may be cut in the first
pub record CutsAtMost {T : Type 0} (n m : Shape T) : Type 0 where
  pub reads : (x : T) → m.reads x ≡ n.reads x
  pub read : (x : T) (i : ℕ) → i < n.reads x → m.read x i ≡ n.read x i
  pub ends : (x : T) → m.is_end x ≡ n.is_end x
  pub cuts : (x : T) → m.may_cut x ≡ true → n.may_cut x ≡ true

-- each barrier of the first net is one of the second
abbrev pub KeepsBarriers : {T : Type 0} → Shape T → Shape T → Type 0
KeepsBarriers {T} n m = (x : T) (k : ℕ) (walks : List (List ℕ)) → IsBarrier n x k walks → IsBarrier m x k walks

-- a barrier of a node that may not be cut is one of each reader of the node, with the index of the read before each walk
abbrev pub InheritsBarriers : {T : Type 0} → Shape T → Type 0
InheritsBarriers {T} n =
    (x y : T) (i k : ℕ) (walks : List (List ℕ))
    → i < n.reads x
    → n.read x i ≡ y
    → n.may_cut y ≡ false
    → IsBarrier n y k walks
    → IsBarrier n x k (map (λ w. i ∷ w) walks)

-- an end that may not be cut makes the one step to it a barrier of each reader
abbrev pub UncutEndsBar : {T : Type 0} → Shape T → Type 0
UncutEndsBar {T} n =
    (x y : T) (i k : ℕ)
    → i < n.reads x
    → n.read x i ≡ y
    → n.may_cut y ≡ false
    → n.is_end y ≡ true
    → IsBarrier n x k ((i ∷ []) ∷ [])
