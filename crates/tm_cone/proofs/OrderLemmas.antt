-- Nodes with their heights, sorted.
use Rattle.std.proofs.Common.{◌≡◌, ℕ, zero, suc, ◌<◌, ◌≤◌, inl, inr, List, [], ◌∷◌, map, length, get_or, take, false, Some, refl, sym, ◌∙◌, ap, subst, arith}
use Rattle.std.specs.Prelude.{All, Contains, slice_get}
use Rattle.std.specs.List.Sorted.{IsPermutation, IsNonDecreasingBy}
use Rattle.std.proofs.lemmas.Bool.{cases_lt}
use Rattle.std.proofs.lemmas.List.Elements.{Contains-get_or}
use Rattle.std.proofs.lemmas.List.Sorted.{IsPermutation-map, IsPermutation-sym, Contains-permutation}
use Rattle.tm_circuit.specs.Plain.{Plain, Drive}
use Rattle.tm_circuit.specs.Sound.{IsSound}
use Rattle.tm_unroll.specs.declared.node.Node.{Node}
use Rattle.tm_unroll.specs.Nodes.{reads, is_end}
use Rattle.tm_unroll.specs.Falls.{height}
use Rattle.tm_unroll.proofs.ListLemmas.{contains-at, at-within, place-of}
use Rattle.tm_unroll.proofs.ReadLemmas.{height_falls}
use Rattle.tm_cone.specs.declared.nodes.Step.{Step}
use Rattle.tm_cone.specs.Values.{IsCone, IsInOrder, HasReadsIn}
use Rattle.tm_cone.specs.Searches.{AscendInHeight}

-- The nodes of steps.
abbrev pub nodes_in : List Step → List Node
nodes_in steps = map (λ (s : Step). s.node) steps

-- The nodes of a cone are signals, read from its list by a slice.
pub all_signals : (drives : List Drive) (leaves : List Node) (root : Node) (nodes slice : List Node) → IsCone drives leaves root nodes → slice ≡ nodes
    → All (λ x. x.signal < length drives) slice
all_signals drives leaves root nodes slice cone same k d inside =
    cone.signals (get_or slice k d) (subst (λ (l : List Node). Contains l (get_or slice k d)) same (Contains-get_or slice k d inside))

-- Steps have the heights of their nodes.
pub record AreSteps (c : Plain) (nodes : List Node) (steps : List Step) : Type 0 where
  pub nodes_are : nodes_in steps ≡ nodes
  pub heights : (s : Step) → Contains steps s → s.height ≡ height c s.node

-- The place of a node in what it was made from.
at-unmap : {A B : Type 0} (f : A → B) (xs : List A) (i : ℕ) (y : B) → slice_get (map f xs) i ≡ Some y → (x : A) × (slice_get xs i ≡ Some x) × (f x ≡ y)
at-unmap f [] i y is = cc
at-unmap f (x ∷ xs) zero y is = (x, refl, cc)
at-unmap f (x ∷ xs) (suc i) y is = at-unmap f xs i y is

at-index : {A : Type 0} (xs : List A) (i : ℕ) (x d : A) → slice_get xs i ≡ Some x → get_or xs i d ≡ x
at-index [] i x d is = cc
at-index (y ∷ xs) zero x d is = cc
at-index (y ∷ xs) (suc i) x d is = at-index xs i x d is

-- The sorted steps have the same nodes.
pub sorted_nodes : (c : Plain) (nodes : List Node) (steps sorted : List Step) → AreSteps c nodes steps → IsPermutation steps sorted → IsPermutation nodes (nodes_in sorted)
sorted_nodes c nodes steps sorted are moved = subst (λ (l : List Node). IsPermutation l (nodes_in sorted)) are.nodes_are (IsPermutation-map (λ (s : Step). s.node) steps sorted moved)

-- Their nodes ascend in height.
pub sorted_ascend : (c : Plain) (nodes : List Node) (steps sorted : List Step) → AreSteps c nodes steps → IsPermutation steps sorted → IsNonDecreasingBy (λ (s : Step). s.height) sorted
    → AscendInHeight c (nodes_in sorted)
sorted_ascend c nodes steps sorted are moved ascend = record {
  each = λ i j x y low at_i at_j.
      let one = at-unmap (λ (s : Step). s.node) sorted i x at_i in
      let other = at-unmap (λ (s : Step). s.node) sorted j y at_j in
      let rises : (get_or sorted i one.0).height ≤ (get_or sorted j one.0).height = ascend i j one.0 low (at-within sorted j other.0 other.1) in
      let first : (get_or sorted i one.0).height ≡ height c x = ap (λ (s : Step). s.height) (at-index sorted i one.0 one.0 one.1) ∙ high one.0 i one.1 ∙ ap (height c) one.2 in
      let second : (get_or sorted j one.0).height ≡ height c y = ap (λ (s : Step). s.height) (at-index sorted j other.0 one.0 other.1) ∙ high other.0 j other.1 ∙ ap (height c) other.2 in
      omega arith;
}
  where
    high : (s : Step) (i : ℕ) → slice_get sorted i ≡ Some s → s.height ≡ height c s.node
    high s i at = are.heights s (Contains-permutation sorted steps s (IsPermutation-sym steps sorted moved) (contains-at sorted i s at))

-- What stands before a place is among the first ones.
contains-take : {A : Type 0} (xs : List A) (j i : ℕ) (y : A) → j < i → slice_get xs j ≡ Some y → Contains (take i xs) y
contains-take xs j zero y low is = absurd (omega arith)
contains-take [] j (suc i) y low is = cc
contains-take (x ∷ xs) zero (suc i) y low is = (0, omega arith, cc)
contains-take (x ∷ xs) (suc j) (suc i) y low is = let (k, inside, here) = contains-take xs j i y (omega arith) is in (suc k, omega arith, here)

-- Each of them comes after all that it reads.
pub cone_in_order : (c : Plain) → IsSound c → (leaves : List Node) (root : Node) (nodes ordered : List Node) → IsCone c.drives leaves root nodes → IsPermutation nodes ordered
    → AscendInHeight c ordered → IsInOrder c.drives leaves ordered
cone_in_order c sound leaves root nodes ordered cone moved ascend = record {
  signals = λ x h. cone.signals x (back x h);
  ready = λ i x at. elim (cone.closed x (back x (contains-at ordered i x at))) [
    | inl leaf ↦ inl leaf
    | inr goes ↦ inr (goes.0, λ y read. before i x at y read (place-of ordered y (Contains-permutation nodes ordered y moved (goes.1 y read))))
  ];
}
  where
    back : (x : Node) → Contains ordered x → Contains nodes x
    back x h = Contains-permutation ordered nodes x (IsPermutation-sym nodes ordered moved) h

    before : (i : ℕ) (x : Node) → slice_get ordered i ≡ Some x → (y : Node) → Contains (reads c.drives x) y → (j : ℕ) × (slice_get ordered j ≡ Some y) → Contains (take i ordered) y
    before i x at y read (j, there) =
        elim (cases_lt j i) [
          | inl lower ↦ contains-take ordered j i y lower there
          | inr high ↦ let falls = height_falls c sound x y read in let rises = ascend.each i j x y high at there in absurd (omega arith)
        ]

-- A step at a place has the node at that place.
pub node_at_place : (steps : List Step) (i : ℕ) (s : Step) → i < length steps → s ≡ get_or steps i s → slice_get (nodes_in steps) i ≡ Some s.node
node_at_place [] i s low is = absurd (omega arith)
node_at_place (t ∷ steps) zero s low is = ap (λ (u : Step). Some u.node) (sym is)
node_at_place (t ∷ steps) (suc i) s low is = node_at_place steps i s (omega arith) is

-- A node of nodes in order that is no leaf is no end, and all that it reads stands before it.
pub node_is_ready : (drives : List Drive) (leaves nodes : List Node) (i : ℕ) (x : Node) → IsInOrder drives leaves nodes → slice_get nodes i ≡ Some x → ¬ Contains leaves x
    → (is_end drives x ≡ false) × HasReadsIn drives (take i nodes) x
node_is_ready drives leaves nodes i x order at other = elim (order.ready i x at) [ inl leaf ↦ absurd (other leaf) | inr ready ↦ ready ]
