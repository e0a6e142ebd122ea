-- Chains of tables, and the period of a mapping.
use Rattle.std.specs.Prelude.{◌≡◌, ℕ, ◌≤◌, List, [], ◌∷◌, length, Contains}
use Rattle.tm_unroll.specs.Mappings.{Table, root}

-- The root of a table is a leaf of the first of a list, where there is one.
abbrev pub IsLeafOfFirst : Table → List Table → Type 0
IsLeafOfFirst t [] = Unit {0}
IsLeafOfFirst t (u ∷ rest) = Contains u.leaves (root t)

-- A chain: a list of tables of the mapping in which the gate and the lag of each are a leaf of the next.
abbrev pub IsChain : List Table → List Table → Type 0
IsChain tables [] = Unit {0}
IsChain tables (t ∷ rest) = Contains tables t × IsLeafOfFirst t rest × IsChain tables rest

-- No chain has more tables than `most`.
abbrev pub HasChainsWithin : List Table → ℕ → Type 0
HasChainsWithin tables most = (chain : List Table) → IsChain tables chain → length chain ≤ most

-- The period of a mapping: some chain has so many tables, and none has more.
pub record IsPeriodOf (tables : List Table) (p : ℕ) : Type 0 where
  pub reached : (chain : List Table) × IsChain tables chain × (length chain ≡ p)
  pub greatest : HasChainsWithin tables p
