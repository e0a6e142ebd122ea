-- What follows where a source circuit, a mapped circuit and a certificate are accepted.
use Rattle.std.specs.Prelude.{◌≡◌, ℕ, ◌+◌, ◌*◌, ◌-◌, ◌≤◌, List, [], length}
use Rattle.tm_circuit.specs.Plain.{Plain, gate_count, widest}
use Rattle.tm_circuit.specs.Chain.{IsPeriod}
use Rattle.tm_circuit.specs.Same.{IsSame}
use Rattle.tm_unroll.specs.Mappings.{Table, IsLawful}
use Rattle.tm_unroll.specs.Chains.{IsPeriodOf}
use Rattle.cert_text.specs.Certificates.{Certificate}
use Rattle.cert_check.specs.Accepted.{IsJudgedCircuit}

-- Some mapping that is lawful for the circuit over which a version judges has this period.
pub record IsReached (version : ℕ) (source : Plain) (k d period : ℕ) : Type 0 where
  pub circuit : Plain
  pub tables : List Table
  pub judged : IsJudgedCircuit version source circuit
  pub lawful : IsLawful circuit k d tables
  pub period_is : IsPeriodOf tables period

-- No mapping that is lawful for the circuit over which a version judges has a smaller period.
abbrev pub IsLeast : ℕ → Plain → ℕ → ℕ → ℕ → Type 0
IsLeast version source k d period =
    (c : Plain) (tables : List Table) (p : ℕ) → IsJudgedCircuit version source c → IsLawful c k d tables → IsPeriodOf tables p → period ≤ p

-- The mapped circuit behaves like the source, has no wider gates than tables may be, and has just the certificate's period, which is
-- the least of all lawful mappings.
pub record IsBest (source mapped : Plain) (cert : Certificate) (k d : ℕ) : Type 0 where
  pub same : IsSame source mapped
  pub narrow : widest mapped.drives ≤ k
  pub period : IsPeriod mapped cert.period
  pub reached : IsReached cert.version source k d cert.period
  pub least : IsLeast cert.version source k d cert.period

-- There are at most as many drops as gates, times the lags, times the period less one; and none where the period is at most 1.
pub record HasFewDrops (source : Plain) (cert : Certificate) (d : ℕ) : Type 0 where
  pub bound : length cert.drops ≤ gate_count source.drives * ((d + 1) * (cert.period - 1))
  pub none : cert.period ≤ 1 → cert.drops ≡ []
