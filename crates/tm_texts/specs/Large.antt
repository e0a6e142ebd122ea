-- What mapping the sample of a number comes to.
use Rattle.std.specs.Prelude.{◌≡◌, ℕ, ◌≤◌, length}
use Rattle.tm_circuit.specs.Plain.{Plain, gate_count, latch_count, widest}
use Rattle.tm_circuit.specs.Sound.{IsSound}
use Rattle.tm_parts.specs.Names.{HasNamesWithin}
use Rattle.blif_read.specs.Text.{IsCircuitOf}
use Rattle.tm_make.specs.Sample.{sample_text}
use Rattle.tm_split.specs.Limits.{most_subject_signals}
use Rattle.tm_split.specs.Subject.{subject_of}
use Rattle.tm_mapped.specs.Mapped.{BySingleRows}
use Rattle.cert_text.specs.Certificates.{Certificate}
use Rattle.tm_texts.specs.Limits.{source_limits}
use Rattle.tm_texts.specs.Mapped.{IsMappedCircuit}
use Rattle.tm_texts.specs.Sources.{IsSubject}

-- The sample text of a number has a circuit, whose subject circuit is mapped: these are the period, the numbers of tables and of
-- registers of a mapped circuit of it and the number of drops of a certificate. They are accepted for the subject circuit, and no lawful
-- mapping of it has a smaller period.
pub record IsLarge (number k d period tables registers drops : ℕ) : Type 0 where
  pub source : Plain
  pub of_sample : IsCircuitOf source_limits (sample_text number) source
  pub source_sound : IsSound source
  pub mapped : Plain
  pub cert : Certificate
  pub made : IsMappedCircuit BySingleRows k d (subject_of k source) mapped cert
  pub period_is : cert.period ≡ period
  pub tables_are : gate_count mapped.drives ≡ tables
  pub registers_are : latch_count mapped.drives ≡ registers
  pub drops_are : length cert.drops ≡ drops

-- ---- the parts of the call

-- The circuit of the sample of a number: it has as many gates as the number says, of at most two pins, and few signals.
pub record IsSample (number : ℕ) (source : Plain) : Type 0 where
  pub of_sample : IsCircuitOf source_limits (sample_text number) source
  pub sound : IsSound source
  pub names : HasNamesWithin 255 source
  pub gates : gate_count source.drives ≡ number
  pub narrow : widest source.drives ≤ 2
  pub few : length source.drives ≤ most_subject_signals

-- The subject circuit of the sample of a number: it has as many gates.
pub record IsSampleSubject (number k : ℕ) (subject : Plain) : Type 0 where
  pub source : Plain
  pub is : IsSample number source
  pub split : IsSubject k source subject
  pub gates : gate_count subject.drives ≡ number
