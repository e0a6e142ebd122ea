-- Depths of tables: where each is one more than the deepest table at a leaf, the greatest is the period.
use Rattle.std.proofs.Common.{◌≡◌, ℕ, zero, suc, ◌+◌, ◌<◌, ◌≤◌, ◌⊎◌, inl, inr, List, [], ◌∷◌, map, length, refl, sym, arith}
use Rattle.std.specs.Prelude.{Contains}
use Rattle.tm_circuit.specs.Plain.{greatest}
use Rattle.tm_circuit.proofs.ListLemmas.{contains-map, contains-unmap, greatest-above, greatest-reached}
use Rattle.tm_unroll.specs.Mappings.{Table, root}
use Rattle.tm_unroll.specs.Chains.{IsChain, HasChainsWithin, IsPeriodOf}

-- A table of depth 1, or one deeper than some table whose root is one of its leaves.
abbrev pub IsJustDeeper : List Table → (Table → ℕ) → Table → Type 0
IsJustDeeper tables depth t = (depth t ≡ 1) ⊎ ((u : Table) × Contains tables u × Contains t.leaves (root u) × (depth t ≡ suc (depth u)))

-- Depths of the tables of a mapping: each table is deeper than all tables whose roots are its leaves, and no deeper than
-- that asks for.
pub record AreDepths (tables : List Table) (depth : Table → ℕ) : Type 0 where
  pub some : (t : Table) → Contains tables t → 0 < depth t
  pub rises : (t u : Table) → Contains tables t → Contains tables u → Contains u.leaves (root t) → depth t < depth u
  pub least : (t : Table) → Contains tables t → IsJustDeeper tables depth t

module _ (tables : List Table) (depth : Table → ℕ) (are : AreDepths tables depth) where
  -- A chain is no longer than the greatest depth lets it.
  chain_low : (most : ℕ) → ((t : Table) → Contains tables t → depth t ≤ most) → (t : Table) (rest : List Table) → IsChain tables (t ∷ rest)
      → length (t ∷ rest) + depth t ≤ suc most
  chain_low most low t [] chain = let l = low t chain.0 in omega (arith, l)
  chain_low most low t (u ∷ rest) chain =
      let up = are.rises t u chain.0 chain.2.0 chain.1 in
      let ih = chain_low most low u rest chain.2 in
      omega (arith, up, ih)

  pub chains_within : (most : ℕ) → ((t : Table) → Contains tables t → depth t ≤ most) → HasChainsWithin tables most
  chains_within most low [] chain = omega arith
  chains_within most low (t ∷ rest) chain =
      let all = chain_low most low t rest chain in
      let one = are.some t chain.0 in
      omega (arith, all, one)

  -- A chain goes down from a table over as many tables as its depth says.
  chain_from : (n : ℕ) (t : Table) (rest : List Table) → depth t ≡ suc n → IsChain tables (t ∷ rest)
      → (chain : List Table) × IsChain tables chain × (length chain ≡ n + length (t ∷ rest))
  chain_from zero t rest deep chain = (t ∷ rest, chain, omega arith)
  chain_from (suc n) t rest deep chain =
      elim (are.least t chain.0) [
        | inl one ↦ absurd (omega (arith, one, deep))
        | inr (u, stands, leaf, deeper) ↦
            let more = chain_from n u (t ∷ rest) (omega (arith, deep, deeper)) (stands, leaf, chain) in
            let long = more.2 in
            (more.0, more.1, omega (arith, long))
      ]

  -- The greatest depth is the period.
  pub period_from_depths : IsPeriodOf tables (greatest (map depth tables))
  period_from_depths = record {
    reached = elim (greatest-reached (map depth tables)) [
      | inl none ↦ ([], tt, sym none)
      | inr at ↦
          let deepest = contains-unmap depth tables (greatest (map depth tables)) at in
          by_depth (greatest (map depth tables)) refl deepest.0 deepest.1 deepest.2
    ];
    greatest = chains_within (greatest (map depth tables)) (λ t stands. greatest-above (map depth tables) (depth t) (contains-map depth tables t stands));
  }
    where
      by_depth : (g : ℕ) → greatest (map depth tables) ≡ g → (t : Table) → Contains tables t → depth t ≡ g
          → (chain : List Table) × IsChain tables chain × (length chain ≡ greatest (map depth tables))
      by_depth zero is t stands deep = ([], tt, sym is)
      by_depth (suc n) is t stands deep =
          let chain = chain_from n t [] deep (stands, tt, tt) in
          let long = chain.2 in
          (chain.0, chain.1, omega (arith, long, is))
