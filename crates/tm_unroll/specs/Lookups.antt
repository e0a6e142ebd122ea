-- What is looked up about the tables of a mapping: the greatest lag of a gate's tables.
use Rattle.std.specs.Prelude.{◌≡◌, ◌↔◌, ℕ, suc, ◌<◌, ◌≤◌, max, List, length, Option, None, Some, slice_get, slice_index_or, MatchOption}
use Rattle.tm_circuit.specs.Plain.{Plain}
use Rattle.tm_unroll.specs.declared.node.MapWhy.{MapWhy}
use Rattle.tm_unroll.specs.Mappings.{Table, HasTable, HasSourceTable}
use Rattle.tm_unroll.specs.Faults.{Passes, FailsBy, AreGivenBelow}

-- There is a greatest lag, and it is at least this one.
abbrev pub HasLag : Option ℕ → ℕ → Type 0
HasLag None lag = ⊥
HasLag (Some greatest) lag = lag ≤ greatest

-- The greatest lag with one lag more.
abbrev pub greater_lag : Option ℕ → ℕ → Option ℕ
greater_lag None lag = Some lag
greater_lag (Some greatest) lag = Some (max greatest lag)

-- For each signal below `size` the greatest lag of its tables, where it has tables.
pub record AreGreatestLags (size : ℕ) (tables : List Table) (lags : List (Option ℕ)) : Type 0 where
  pub sized : length lags ≡ size
  pub each : (s lag : ℕ) → s < size → HasLag (slice_index_or lags s None) lag ↔ HasTable tables s lag

-- The gate comes after that of the table just before a place, where there is one.
abbrev pub ComesAfter : List Table → ℕ → ℕ → Type 0
ComesAfter tables place g = (before : ℕ) (b : Table) → place ≡ suc before → slice_get tables before ≡ Some b → b.gate < g

-- The answer for the table at a place: none where it passes all tests, and otherwise the test by which it fails.
abbrev pub IsTableJudged : Plain → ℕ → ℕ → List Table → ℕ → Table → Option MapWhy → Type 0
IsTableJudged c k d tables place t answer =
    MatchOption answer (Passes 0 c k d tables place t) (λ why. FailsBy why 0 c k d tables place t)

-- The first output whose source gate has no table stands at this place.
pub record IsFirstMissing (c : Plain) (tables : List Table) (place : ℕ) : Type 0 where
  pub output : ℕ
  pub at : slice_get c.outputs place ≡ Some output
  pub before : AreGivenBelow (λ _. 0) c tables place
  pub fails : ¬ HasSourceTable c.drives tables output 0
