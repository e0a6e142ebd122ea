-- What it is to check a mapped text by a certificate: when three texts are accepted, and why they are not.
use Rattle.std.specs.Prelude.{◌≡◌, ℕ, ◌≤◌, List, length}
use Rattle.tm_circuit.specs.Plain.{Plain, widest}
use Rattle.tm_circuit.specs.Chain.{IsPeriod}
use Rattle.tm_circuit.specs.Same.{IsSame}
use Rattle.tm_circuit.specs.Sound.{IsSound}
use Rattle.blif_read.specs.declared.fault.BlifKind.{BlifKind}
use Rattle.blif_read.specs.Text.{IsCircuitOf, IsFaultOf}
use Rattle.text_read.specs.Texts as input
use Rattle.tm_split.specs.Limits.{most_subject_signals}
use Rattle.tm_split.specs.Subject.{subject_of}
use Rattle.cert_text.specs.declared.fault.CertKind.{CertKind}
use Rattle.cert_text.specs.Certificates.{Certificate, IsCertificateOf}
use Rattle.cert_text.specs.Faults.{IsFirstFault}
use Rattle.cert_check.specs.declared.verdict.Why.{Why}
use Rattle.cert_check.specs.Accepted.{IsAccepted, IsFirstFailure}
use Rattle.cert_check.specs.Claims.{IsLeast}
use Rattle.tm_texts.specs.declared.check.CheckFault.{CheckFault}
use Rattle.tm_texts.specs.declared.check.CheckFault.TheVariants.{Source, Mapped, Cert, No, NoMemory}
use Rattle.tm_texts.specs.Limits.{source_limits, mapped_limits}
use Rattle.tm_texts.specs.Sources.{IsMappable, IsBlamedAs}

-- ---- what is checked

-- The three texts have a circuit to be mapped, a circuit that may be its mapped one, and a certificate.
pub record AreChecked (k : ℕ) (source mapped cert : List ℕ) (circuit : Plain) (claimed : Plain) (certificate : Certificate) : Type 0 where
  pub of_source : input.IsCircuitOf source_limits source circuit
  pub few : length (subject_of k circuit).drives ≤ most_subject_signals
  pub of_mapped : IsCircuitOf mapped_limits mapped claimed
  pub of_cert : IsCertificateOf cert certificate

-- Three texts are accepted, with the period and the number of drops that the certificate says. The circuit of the first shows what that
-- text means. The two circuits are sound, so that
-- each has a trace for every list of rows, and they are Same; the mapped one has gates of at most `k` pins, and its period is just
-- the certificate's. No mapping that is lawful for the subject circuit, by the rule of the certificate's version, has a smaller one.
-- It does not matter how the texts were made.
pub record AreAccepted (k d : ℕ) (source mapped cert : List ℕ) (period drops : ℕ) : Type 0 where
  pub circuit : Plain
  pub claimed : Plain
  pub certificate : Certificate
  pub are : AreChecked k source mapped cert circuit claimed certificate
  pub accepted : IsAccepted (subject_of k circuit) claimed certificate k d
  pub period_is : period ≡ certificate.period
  pub drops_are : drops ≡ length certificate.drops
  pub meaning : input.ShowsMeaning source_limits source circuit
  pub source_sound : IsSound circuit
  pub mapped_sound : IsSound claimed
  pub same : IsSame circuit claimed
  pub narrow : widest claimed.drives ≤ k
  pub has_period : IsPeriod claimed period
  pub least : IsLeast certificate.version (subject_of k circuit) k d period

-- Three texts can be accepted.
pub record AreAcceptable (k d : ℕ) (source mapped cert : List ℕ) : Type 0 where
  pub circuit : Plain
  pub claimed : Plain
  pub certificate : Certificate
  pub are : AreChecked k source mapped cert circuit claimed certificate
  pub accepted : IsAccepted (subject_of k circuit) claimed certificate k d

-- ---- why three texts are not accepted: the first of these

-- The first text can be mapped, and the second has this first fault and no circuit.
pub record IsMappedFault (k : ℕ) (source mapped : List ℕ) (line : ℕ) (kind : BlifKind) : Type 0 where
  pub mappable : IsMappable k source
  pub first : IsFaultOf mapped_limits mapped (line, kind)
  pub none : (c : Plain) → ¬ IsCircuitOf mapped_limits mapped c

-- The first two texts have their circuits, and the third has this first fault.
pub record IsCertFault (k : ℕ) (source mapped cert : List ℕ) (line : ℕ) (kind : CertKind) : Type 0 where
  pub mappable : IsMappable k source
  pub claimed : Plain
  pub of_mapped : IsCircuitOf mapped_limits mapped claimed
  pub first : IsFirstFault cert line kind

-- The three texts have what is to be checked, and a test of the check fails first, at this entry and for this reason.
pub record IsNotAccepted (k d : ℕ) (source mapped cert : List ℕ) (entry : ℕ) (why : Why) : Type 0 where
  pub circuit : Plain
  pub claimed : Plain
  pub certificate : Certificate
  pub are : AreChecked k source mapped cert circuit claimed certificate
  pub fails : IsFirstFailure (subject_of k circuit) claimed certificate k d entry why

-- Why three texts are not accepted. Want of memory says nothing.
abbrev pub IsCheckFault : ℕ → ℕ → List ℕ → List ℕ → List ℕ → CheckFault → Type 0
IsCheckFault k d source mapped cert (Source line kind) = IsBlamedAs k source line kind
IsCheckFault k d source mapped cert (Mapped line kind) = IsMappedFault k source mapped line kind
IsCheckFault k d source mapped cert (Cert line kind) = IsCertFault k source mapped cert line kind
IsCheckFault k d source mapped cert (No entry why) = IsNotAccepted k d source mapped cert entry why
IsCheckFault k d source mapped cert NoMemory = Unit {0}

-- ---- the parts of the call

-- Why a text has no subject circuit. Want of memory says nothing.
abbrev pub IsSubjectFault : ℕ → List ℕ → CheckFault → Type 0
IsSubjectFault k text (Source line kind) = IsBlamedAs k text line kind
IsSubjectFault k text (Mapped line kind) = ⊥
IsSubjectFault k text (Cert line kind) = ⊥
IsSubjectFault k text (No entry why) = ⊥
IsSubjectFault k text NoMemory = Unit {0}

-- Why a text has no circuit that may be a mapped one. Want of memory says nothing.
abbrev pub IsClaimedFault : List ℕ → CheckFault → Type 0
IsClaimedFault text (Source line kind) = ⊥
IsClaimedFault text (Mapped line kind) = IsFaultOf mapped_limits text (line, kind) × ((c : Plain) → ¬ IsCircuitOf mapped_limits text c)
IsClaimedFault text (Cert line kind) = ⊥
IsClaimedFault text (No entry why) = ⊥
IsClaimedFault text NoMemory = Unit {0}

-- Why a text has no certificate. Want of memory says nothing.
abbrev pub IsSpellingFault : List ℕ → CheckFault → Type 0
IsSpellingFault text (Source line kind) = ⊥
IsSpellingFault text (Mapped line kind) = ⊥
IsSpellingFault text (Cert line kind) = IsFirstFault text line kind
IsSpellingFault text (No entry why) = ⊥
IsSpellingFault text NoMemory = Unit {0}
