-- Chains of what is left after a table was absorbed are no longer than those before.
use Rattle.std.proofs.Common.{◌≡◌, ◌≢◌, ◌⊎◌, ℕ, suc, ◌≤◌, List, [], ◌∷◌, length, refl, sym, subst, inl, inr, arith}
use Rattle.std.specs.Prelude.{Contains}
use Rattle.tm_unroll.specs.declared.node.Node.{Node}
use Rattle.tm_unroll.specs.Mappings.{Table, root}
use Rattle.tm_unroll.specs.Chains.{IsLeafOfFirst, IsChain, HasChainsWithin}
use Rattle.tm_unroll.proofs.ReadLemmas.{same_node}
use Rattle.tm_absorb.specs.Absorbing.{Reads, TakesIn, Becomes, Absorbs}
use Rattle.tm_absorb.proofs.StepLemmas.{same_root}

-- The first of a chain became of the first of another one.
BecomesFirst : ℕ → Table → List Table → List Table → Type 0
BecomesFirst k t [] earlier = Unit {0}
BecomesFirst k t (v ∷ rest) [] = ⊥
BecomesFirst k t (v ∷ rest) (u ∷ more) = Becomes k t u v

-- A chain of the tables before that is no shorter.
record IsTraced (k : ℕ) (t : Table) (old chain : List Table) : Type 0 where
  earlier : List Table
  is : IsChain old earlier
  long : length chain ≤ length earlier
  first : BecomesFirst k t chain earlier

-- A leaf of what became of a table was a leaf before, or is a leaf of the table that was taken in.
leaf_before : (k : ℕ) (t y w : Table) → Becomes k t y w → (x : Node) → Contains w.leaves x → Contains y.leaves x ⊎ (Contains t.leaves x × Reads y t)
leaf_before k t y w becomes x leaf =
    elim becomes [
      | inl takes ↦ elim ((takes.leaves.replaces.nodes x).0 leaf) [ inl other ↦ inl other.0 | inr inside ↦ inr (inside, takes.reads) ]
      | inr stays ↦ inl (subst (λ (z : Table). Contains z.leaves x) stays.1 leaf)
    ]

module _ (k : ℕ) (t : Table) (old new : List Table) (stands : Contains old t) (absorbs : Absorbs k t old new) where
  attach : (v u : Table) (rest earlier : List Table) → IsLeafOfFirst v rest → IsChain old earlier → length rest ≤ length earlier → BecomesFirst k t rest earlier
      → Contains old u → Becomes k t u v → IsTraced k t old (v ∷ rest)
  unfolding BecomesFirst
  attach v u [] earlier leaf is long first from becomes = record { earlier = u ∷ []; is = (from, tt, tt); long = omega arith; first = becomes }
  attach v u (w ∷ rest) [] leaf is long first from becomes = absurd first
  attach v u (w ∷ rest) (y ∷ more) leaf is long first from becomes =
      let roots = same_root k t u v becomes in
      let named : root v ≡ root u = same_node (root v) (root u) roots.0 roots.1 in
      elim (leaf_before k t y w first (root u) (subst (λ (x : Node). Contains w.leaves x) named leaf)) [
        | inl direct ↦ record { earlier = u ∷ y ∷ more; is = (from, direct, is); long = omega (arith, long); first = becomes }
        | inr inside ↦ record { earlier = u ∷ t ∷ y ∷ more; is = (from, inside.0, (stands, inside.1, is)); long = omega (arith, long); first = becomes }
      ]

  traced : (chain : List Table) → IsChain new chain → IsTraced k t old chain
  unfolding BecomesFirst
  traced [] is = record { earlier = []; is = tt; long = omega arith; first = tt }
  traced (v ∷ rest) is =
      let before = traced rest is.2 in
      let from = absorbs.comes_from v is.0 in
      attach v from.0 rest before.earlier is.1 before.is before.long before.first from.1 from.3

  pub absorbs_within : (most : ℕ) → HasChainsWithin old most → HasChainsWithin new most
  absorbs_within most within chain is =
      let before = traced chain is in
      omega (arith, within before.earlier before.is, before.long)
