-- The least period that any lawful mapping has.
use Rattle.std.specs.Prelude.{ℕ, ◌≤◌, List}
use Rattle.tm_circuit.specs.Plain.{Plain}
use Rattle.tm_unroll.specs.Mappings.{Table, IsLawfulFrom}
use Rattle.tm_unroll.specs.Chains.{IsPeriodOf}

-- Some lawful mapping has this period, and none has a smaller one.
pub record IsLeastPeriodFrom (base : ℕ) (need : ℕ → ℕ) (c : Plain) (k d period : ℕ) : Type 0 where
  pub some : (tables : List Table) × IsLawfulFrom base need c k d tables × IsPeriodOf tables period
  pub none_smaller : (tables : List Table) (p : ℕ) → IsLawfulFrom base need c k d tables → IsPeriodOf tables p → period ≤ p

-- The least period of the mappings that move registers forward alone.
abbrev pub IsLeastPeriodOf : Plain → ℕ → ℕ → ℕ → Type 0
IsLeastPeriodOf c k d period = IsLeastPeriodFrom 0 (λ _. 0) c k d period
