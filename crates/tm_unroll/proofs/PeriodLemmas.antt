-- A lawful mapping has a period: its chains are no longer than its tables, and the longest is found by trying each length.
use Rattle.std.proofs.Common.{◌≡◌, ◌≢◌, ℕ, zero, suc, inl, inr, List, [], ◌∷◌, length, refl, ap, subst, arith}
use Rattle.std.specs.Prelude.{Contains}
use Rattle.std.proofs.lemmas.Bool.{cases_lt}
use Rattle.tm_circuit.specs.Plain.{Plain}
use Rattle.tm_circuit.specs.Sound.{IsSound}
use Rattle.tm_circuit.proofs.ListLemmas.{contains-cases, contains-none}
use Rattle.tm_unroll.specs.Mappings.{Table, root, IsLawfulFrom}
use Rattle.tm_unroll.specs.Chains.{IsChain, HasChainsWithin, IsPeriodOf}
use Rattle.tm_unroll.proofs.ListLemmas.{fits, apart_from_pairs}
use Rattle.tm_unroll.proofs.ChainLemmas.{no_repeats}
use Rattle.tm_unroll.proofs.ChoiceLemmas.{Holds, some_or_none, node_stands}

-- A chain begins with a table, and has so many more.
pub record Begins (tables : List Table) (more : ℕ) (t : Table) : Type 0 where
  pub rest : List Table
  pub chain : IsChain tables (t ∷ rest)
  pub sized : length rest ≡ more

-- The next table of a chain: the first table is a leaf of it, and a chain begins with it.
pub record GoesOn (tables : List Table) (more : ℕ) (t u : Table) : Type 0 where
  pub leaf : Contains u.leaves (root t)
  pub begins : Begins tables more u

module _ (tables : List Table) where
  none_longer : (more : ℕ) (t : Table) → ((u : Table) → Contains tables u → ¬ GoesOn tables more t u)
      → (rest : List Table) → IsChain tables (t ∷ rest) → length rest ≡ suc more → ⊥
  none_longer more t none [] chain sized = absurd (omega (arith, sized))
  none_longer more t none (u ∷ rest) chain sized =
      none u chain.2.0 (record { leaf = chain.1; begins = record { rest = rest; chain = chain.2; sized = omega (arith, sized) } })

  -- Whether a chain begins with a table, and has so many more.
  begins_or_not : (more : ℕ) (t : Table) → Contains tables t → Holds (Begins tables more t)
  begins_or_not zero t stands = inl (record { rest = []; chain = (stands, tt, tt); sized = refl })
  begins_or_not (suc more) t stands =
      elim (some_or_none (GoesOn tables more t) tables (λ u is. elim (node_stands u.leaves (root t)) [
        | inl leaf ↦ elim (begins_or_not more u is) [ inl begins ↦ inl (record { leaf = leaf; begins = begins }) | inr never ↦ inr (λ on. never on.begins) ]
        | inr other ↦ inr (λ on. other on.leaf)
      ])) [
        | inl (u, is, on) ↦ inl (record { rest = u ∷ on.begins.rest; chain = (stands, on.leaf, on.begins.chain); sized = ap suc on.begins.sized })
        | inr none ↦ inr (λ begins. none_longer more t none begins.rest begins.chain begins.sized)
      ]

  shorter : (most : ℕ) → HasChainsWithin tables (suc most) → ((t : Table) → Contains tables t → ¬ Begins tables most t) → HasChainsWithin tables most
  shorter most within none [] chain = omega arith
  shorter most within none (t ∷ rest) chain =
      let long = within (t ∷ rest) chain in
      elim (cases_lt (length rest) most) [
        | inl less ↦ omega (arith, less)
        | inr high ↦ absurd (none t chain.0 (record { rest = rest; chain = chain; sized = omega (arith, long, high) }))
      ]

  -- Where no chain is longer than a bound, there is a period.
  period_within : (most : ℕ) → HasChainsWithin tables most → (p : ℕ) × IsPeriodOf tables p
  period_within zero within = (0, record { reached = ([], tt, refl); greatest = within })
  period_within (suc most) within =
      elim (some_or_none (Begins tables most) tables (begins_or_not most)) [
        | inl (t, stands, begins) ↦ (suc most, record { reached = (t ∷ begins.rest, begins.chain, ap suc begins.sized); greatest = within })
        | inr none ↦ period_within most (shorter most within none)
      ]

  of_mapping : (chain : List Table) → IsChain tables chain → (t : Table) → Contains chain t → Contains tables t
  of_mapping [] chain t stands = absurd (contains-none t stands)
  of_mapping (u ∷ rest) chain t stands =
      elim (contains-cases u rest t stands) [
        | inl is ↦ subst (λ (v : Table). Contains tables v) is chain.0
        | inr later ↦ of_mapping rest chain.2 t later
      ]

pub some_period : (base : ℕ) (need : ℕ → ℕ) (c : Plain) (k d : ℕ) (tables : List Table) → IsSound c → IsLawfulFrom base need c k d tables
    → (p : ℕ) × IsPeriodOf tables p
some_period base need c k d tables sound lawful =
    period_within tables (length tables) (λ chain is.
    fits chain tables (apart_from_pairs (λ (t : Table) (u : Table). t ≢ u) chain (λ t differs. differs refl) (no_repeats base need c k d tables sound lawful chain is)) (of_mapping tables chain is))

pub same_period : (tables : List Table) (p q : ℕ) → IsPeriodOf tables p → IsPeriodOf tables q → p ≡ q
same_period tables p q h k =
    let (left, is_left, at_left) = h.reached in
    let (right, is_right, at_right) = k.reached in
    let low = k.greatest left is_left in
    let high = h.greatest right is_right in
    omega (arith, low, high, at_left, at_right)
