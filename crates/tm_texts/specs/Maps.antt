-- What a mapped text is to the text that it was made of.
use Rattle.std.specs.Prelude.{◌≡◌, ℕ, ◌≤◌, List, length}
use Rattle.tm_circuit.specs.Plain.{Plain, widest, gate_count, latch_count}
use Rattle.tm_circuit.specs.Chain.{IsPeriod}
use Rattle.tm_circuit.specs.Same.{IsSame}
use Rattle.tm_circuit.specs.Sound.{IsSound}
use Rattle.text_read.specs.Texts as input
use Rattle.blif_read.specs.Text.{IsCircuitOf}
use Rattle.blif_write.specs.Text.{text_of}
use Rattle.tm_split.specs.Limits.{most_subject_signals}
use Rattle.tm_split.specs.Subject.{subject_of}
use Rattle.tm_twins.specs.Joined.{IsJoined}
use Rattle.tm_unroll.specs.Mappings.{Table, IsLawful}
use Rattle.tm_unroll.specs.Chains.{IsPeriodOf}
use Rattle.tm_absorb.specs.Absorbing.{HasNoAbsorbable}
use Rattle.tm_mapped.specs.Mapped.{CoverRule, IsMappedBy}
use Rattle.cert_text.specs.Certificates.{Certificate, HasSpelling}
use Rattle.cert_check.specs.Accepted.{IsAccepted}
use Rattle.cert_check.specs.Claims.{HasFewDrops}
use Rattle.tm_texts.specs.Limits.{source_limits, mapped_limits}

-- A mapping of a circuit is lawful for K and D and has this period, and no lawful mapping has a smaller one. No table is left in it that
-- fits into all its readers.
pub record IsLeastMapping (c : Plain) (k d : ℕ) (mapping : List Table) (period : ℕ) : Type 0 where
  pub lawful : IsLawful c k d mapping
  pub period_is : IsPeriodOf mapping period
  pub least : (others : List Table) (other : ℕ) → IsLawful c k d others → IsPeriodOf others other → period ≤ other
  pub absorbed : HasNoAbsorbable c k mapping

-- A circuit is the mapped circuit of such a mapping of a subject circuit in which equal latches are one leaf: it is the joined circuit
-- that is mapped, and covers of tables go by a rule. The circuit tells the mapping: no other lawful one has this mapped circuit.
pub record IsLeastMapped (Covers : CoverRule) (k d : ℕ) (subject : Plain) (mapping : List Table) (period : ℕ)
    (mapped : Plain) : Type 0 where
  pub joined : Plain
  pub joined_is : IsJoined subject joined
  pub least : IsLeastMapping joined k d mapping period
  pub mapped_is : IsMappedBy Covers joined mapping mapped
  pub told : (others : List Table) → IsLawful joined k d others → IsMappedBy Covers joined others mapped → others ≡ mapping

-- A certificate of version 2 shows the checker that a circuit is the mapped circuit of its tables, and that no lawful mapping of the
-- subject circuit has a smaller period than it says. It can be spelled, and its drops are few.
pub record IsCertified (k d : ℕ) (subject mapped : Plain) (cert : Certificate) : Type 0 where
  pub version_is : cert.version ≡ 2
  pub accepted : IsAccepted subject mapped cert k d
  pub spelled : HasSpelling cert
  pub short : HasFewDrops subject cert d

-- A text that maps another one, with a certificate. The circuit of that one shows what it means: its outputs are those of its models as
-- they are nested, or the output literals. The text is the one spelling of its circuit, the only one that it has, and the circuits of the
-- two are Same. Both are sound, so that each has a trace for every list of rows, and exactly one: without that Same might say
-- nothing. The circuit written has tables of at most `k` pins, this period and these numbers of tables and registers. It is the
-- mapped circuit of the certificate's mapping, which is lawful for the subject circuit, and no lawful mapping has a smaller period.
-- Covers of tables go by a rule.
pub record Maps (Covers : CoverRule) (k d : ℕ) (text bytes : List ℕ) (cert : Certificate) (tables registers : ℕ) : Type 0 where
  pub source : Plain
  pub of_text : input.IsCircuitOf source_limits text source
  pub meaning : input.ShowsMeaning source_limits text source
  pub source_sound : IsSound source
  pub few : length (subject_of k source).drives ≤ most_subject_signals
  pub mapped : Plain
  pub spelled : bytes ≡ text_of mapped
  pub of_bytes : IsCircuitOf mapped_limits bytes mapped
  pub mapped_sound : IsSound mapped
  pub only : (c : Plain) → IsCircuitOf mapped_limits bytes c → c ≡ mapped
  pub same : IsSame source mapped
  pub narrow : widest mapped.drives ≤ k
  pub period_is : IsPeriod mapped cert.period
  pub tables_are : gate_count mapped.drives ≡ tables
  pub registers_are : latch_count mapped.drives ≡ registers
  pub least : IsLeastMapped Covers k d (subject_of k source) cert.tables cert.period mapped
  pub certified : IsCertified k d (subject_of k source) mapped cert
