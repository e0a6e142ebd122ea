-- Chains of two-way tables, and the period of a two-way mapping.
use Rattle.std.specs.Prelude.{◌≡◌, ℕ, ◌≤◌, List, [], ◌∷◌, length, Contains}
use Rattle.two_way.specs.Mappings.{TwoTable, root}

-- The root of a table is a leaf of the first of a list, where there is one.
abbrev pub IsLeafOfFirst : TwoTable → List TwoTable → Type 0
IsLeafOfFirst t [] = Unit {0}
IsLeafOfFirst t (u ∷ rest) = Contains u.leaves (root t)

-- A chain: a list of tables of the mapping in which the gate and the lag of each are a leaf of the next.
abbrev pub IsChain : List TwoTable → List TwoTable → Type 0
IsChain tables [] = Unit {0}
IsChain tables (t ∷ rest) = Contains tables t × IsLeafOfFirst t rest × IsChain tables rest

-- The period of a two-way mapping: some chain has so many tables, and none has more.
pub record IsPeriodOf (tables : List TwoTable) (p : ℕ) : Type 0 where
  pub reached : (chain : List TwoTable) × IsChain tables chain × (length chain ≡ p)
  pub greatest : (chain : List TwoTable) → IsChain tables chain → length chain ≤ p
