-- What the parts of the mapping of a text answer.
use Rattle.std.specs.Prelude.{◌≡◌, ℕ, ◌≤◌, List}
use Rattle.tm_circuit.specs.Plain.{Plain, widest, gate_count, latch_count}
use Rattle.tm_circuit.specs.Chain.{IsPeriod}
use Rattle.tm_circuit.specs.Same.{IsSame}
use Rattle.tm_circuit.specs.Sound.{IsSound}
use Rattle.blif_read.specs.Text.{IsCircuitOf}
use Rattle.blif_write.specs.Text.{text_of}
use Rattle.tm_mapped.specs.Mapped.{CoverRule}
use Rattle.cert_text.specs.Certificates.{Certificate}
use Rattle.tm_texts.specs.Limits.{mapped_limits}
use Rattle.tm_texts.specs.Maps.{IsLeastMapped, IsCertified}

-- A sound circuit that is Same as the subject circuit and narrow enough: the mapped circuit of the certificate's mapping, with its
-- period, which no lawful mapping undercuts. The certificate shows this. Covers of tables go by a rule.
pub record IsMappedCircuit (Covers : CoverRule) (k d : ℕ) (subject circuit : Plain) (cert : Certificate) : Type 0 where
  pub sound : IsSound circuit
  pub same : IsSame subject circuit
  pub narrow : widest circuit.drives ≤ k
  pub period_is : IsPeriod circuit cert.period
  pub least : IsLeastMapped Covers k d subject cert.tables cert.period circuit
  pub certified : IsCertified k d subject circuit cert

-- The bytes are the text of a circuit, and of no other, with so many tables and registers.
pub record IsSpelled (bytes : List ℕ) (circuit : Plain) (tables registers : ℕ) : Type 0 where
  pub spelled : bytes ≡ text_of circuit
  pub of_bytes : IsCircuitOf mapped_limits bytes circuit
  pub only : (c : Plain) → IsCircuitOf mapped_limits bytes c → c ≡ circuit
  pub tables_are : gate_count circuit.drives ≡ tables
  pub registers_are : latch_count circuit.drives ≡ registers
