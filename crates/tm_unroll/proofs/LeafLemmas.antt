-- Which reached nodes are leaves, and that a lawful mapping has one table for a gate.
use Rattle.std.proofs.Common.{◌≡◌, ℕ, ◌<◌, ◌≤◌, inl, inr, List, length, Some, subst, arith}
use Rattle.std.specs.Prelude.{Contains, slice_get, AllPairs}
use Rattle.std.proofs.lemmas.Bool.{cases_order}
use Rattle.tm_circuit.specs.Plain.{Plain, Drive, input, latch, gate, drive_in}
use Rattle.tm_circuit.specs.Sound.{IsSound}
use Rattle.tm_unroll.specs.declared.node.Node.{Node}
use Rattle.tm_unroll.specs.Walks.{IsReached}
use Rattle.tm_unroll.specs.Falls.{height}
use Rattle.tm_unroll.specs.Mappings.{Table, IsLeafOf, IsLeaf, IsLawfulFrom}
use Rattle.tm_unroll.specs.Leaves.{MayBeLeafOf, IsWithin}
use Rattle.tm_unroll.proofs.ListLemmas.{place-of, one-at, pairs-at}
use Rattle.tm_unroll.proofs.ReadLemmas.{reached_falls}
use Rattle.tm_unroll.proofs.CountLemmas.{reached_within}

pub reached_lower : (c : Plain) (x y : Node) → IsSound c → IsReached c.drives x y → height c y < height c x
reached_lower c x y sound way = reached_falls c sound x y way.0 way.1

pub reached_inside : (c : Plain) (x y : Node) → IsSound c → x.signal < length c.drives → IsReached c.drives x y → IsWithin (length c.drives) x y
reached_inside c x y sound inside way = let within = reached_within c sound x y way.0 way.1 inside in record { signal = within.0; advance = within.1 }

leaf_kind : (base : ℕ) (d : Drive) (lag a : ℕ) → MayBeLeafOf base d a → a ≤ lag → IsLeafOf base d lag a
leaf_kind base input lag a may ahead = may
leaf_kind base (latch next init) lag a may ahead = may
leaf_kind base (gate pins cover) lag a may ahead = ahead

pub reached_leaf : (base : ℕ) (c : Plain) (x y : Node) → IsSound c → x.signal < length c.drives → IsReached c.drives x y
    → MayBeLeafOf base (drive_in c.drives y.signal) y.advance → IsLeaf base c.drives x.advance y
reached_leaf base c x y sound inside way may =
    let within = reached_within c sound x y way.0 way.1 inside in
    record { signal = within.0; kind = leaf_kind base (drive_in c.drives y.signal) x.advance y.advance may within.1 }

more_kind : (base : ℕ) (d : Drive) (lag more a : ℕ) → IsLeafOf base d lag a → lag ≤ more → IsLeafOf base d more a
more_kind base input lag more a kind up = kind
more_kind base (latch next init) lag more a kind up = kind
more_kind base (gate pins cover) lag more a kind up = omega arith

pub more_lag : (base : ℕ) (drives : List Drive) (lag more : ℕ) (y : Node) → IsLeaf base drives lag y → lag ≤ more → IsLeaf base drives more y
more_lag base drives lag more y leaf up = record { signal = leaf.signal; kind = more_kind base (drive_in drives y.signal) lag more y.advance leaf.kind up }

-- In a list that ascends by a number of its items, two items with one number are one.
pub one_by_number : {A : Type 0} (number : A → ℕ) (xs : List A) → AllPairs (λ x y. number x < number y) xs → (x y : A) → Contains xs x → Contains xs y
    → number x ≡ number y → x ≡ y
one_by_number {A} number xs ascending x y first second same =
    let p = place-of xs x first in
    let q = place-of xs y second in
    let R : A → A → Type 0 = λ u v. number u < number v in
    elim (cases_order p.0 q.0) [
      | inl e ↦ one-at xs q.0 x y (subst (λ n. slice_get xs n ≡ Some x) e p.1) q.1
      | inr (inl before) ↦ let up = pairs-at R xs ascending p.0 q.0 x y before p.1 q.1 in absurd (omega (arith, up, same))
      | inr (inr after) ↦ let up = pairs-at R xs ascending q.0 p.0 y x after q.1 p.1 in absurd (omega (arith, up, same))
    ]

pub one_of_gate : (base : ℕ) (need : ℕ → ℕ) (c : Plain) (k d : ℕ) (tables : List Table) (t u : Table) → IsLawfulFrom base need c k d tables
    → Contains tables t → Contains tables u → t.gate ≡ u.gate → t ≡ u
one_of_gate base need c k d tables t u lawful first second same = one_by_number (λ (v : Table). v.gate) tables lawful.ascending t u first second same
