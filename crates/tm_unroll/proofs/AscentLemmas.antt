-- Nodes that ascend, one after another.
use Rattle.std.proofs.Common.{◌≡◌, ℕ, suc, ◌+◌, ◌-◌, ◌<◌, ◌≤◌, inl, inr, List, length, get_or, Some, sym, subst, arith}
use Rattle.std.specs.Prelude.{AllPairs, slice_get}
use Rattle.std.proofs.lemmas.Bool.{cases_lt}
use Rattle.tm_unroll.specs.declared.node.Node.{Node}
use Rattle.tm_unroll.specs.Nodes.{IsBefore}
use Rattle.tm_unroll.proofs.ListLemmas.{at-read, at-within, one-at, pairs-at, pairs-from_next, before-through}

-- Each of the nodes before a place stands before the next one.
pub record AscendsTo (nodes : List Node) (place : ℕ) : Type 0 where
  pub next : (k : ℕ) (x y : Node) → suc k < place → slice_get nodes k ≡ Some x → slice_get nodes (suc k) ≡ Some y → IsBefore x y

pub ascends_first : (nodes : List Node) (place : ℕ) → place ≤ 1 → AscendsTo nodes place
ascends_first nodes place low = record { next = λ k x y inside at after. absurd (omega arith) }

-- Two nodes, one just before the other.
module _ (nodes : List Node) (place : ℕ) (x y : Node) (some : 1 ≤ place) (within : place < length nodes) (first : x ≡ get_or nodes (place - 1) x) (second : y ≡ get_or nodes place y) where
  at_first : slice_get nodes (place - 1) ≡ Some x
  at_first = at-read nodes (place - 1) x (omega arith) (sym first)

  at_second : slice_get nodes place ≡ Some y
  at_second = at-read nodes place y within (sym second)

  pub ascends_more : AscendsTo nodes place → IsBefore x y → AscendsTo nodes (place + 1)
  ascends_more before is = record {
    next = λ k u v inside at after.
        elim (cases_lt (suc k) place) [
          | inl lower ↦ before.next k u v lower at after
          | inr high ↦
              let same : k ≡ place - 1 = omega arith in
              let next : suc k ≡ place = omega arith in
              let u_is : x ≡ u = one-at nodes (place - 1) x u at_first (subst (λ n. slice_get nodes n ≡ Some u) same at) in
              let v_is : y ≡ v = one-at nodes place y v at_second (subst (λ n. slice_get nodes n ≡ Some v) next after) in
              subst (λ (w : Node). IsBefore w v) u_is (subst (λ (w : Node). IsBefore x w) v_is is)
        ];
  }

  pub descends : AllPairs IsBefore nodes → IsBefore x y
  descends pairs = pairs-at IsBefore nodes pairs (place - 1) place x y (omega arith) at_first at_second

pub ascends_all : (nodes : List Node) (place : ℕ) → AscendsTo nodes place → length nodes ≤ place → AllPairs IsBefore nodes
ascends_all nodes place to past =
    pairs-from_next IsBefore before-through nodes (λ k x y at after. to.next k x y (let within = at-within nodes (suc k) y after in omega arith) at after)
