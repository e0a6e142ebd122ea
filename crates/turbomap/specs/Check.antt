-- `check K D IN OUT CERT`, as a command.
use Rattle.std.specs.Prelude.{◌≡◌, ◌⊎◌, ℕ, List, [], ◌∷◌}
use Rattle.blif_read.specs.declared.fault.BlifKind.{BlifKind}
use Rattle.cert_text.specs.declared.fault.CertKind.{CertKind}
use Rattle.cert_check.specs.declared.verdict.Why.{Why}
use Rattle.tm_texts.specs.Limits.{source_bytes, mapped_bytes}
use Rattle.tm_texts.specs.Checks.{AreAccepted, AreAcceptable, IsMappedFault, IsCertFault, IsNotAccepted}
use Rattle.turbomap.specs.declared.status.Status.{Status}
use Rattle.turbomap.specs.declared.status.Status.TheVariants.{BadText, NotAccepted}
use Rattle.turbomap.specs.Command.{Write, Command, input_of}
use Rattle.turbomap.specs.Kind.{kind_name, cert_kind_name, why_name}
use Rattle.turbomap.specs.Line.{fault_line, accepted_line, not_accepted_line}
use Rattle.turbomap.specs.Map.{IsBlamedBy}

-- the mapped text of the file has a first fault, which the line says
pub record IsFaultyMapped (k : ℕ) (name source mapped : List ℕ) (status : Status) (line : List ℕ) : Type 0 where
  pub number : ℕ
  pub kind : BlifKind
  pub fault : IsMappedFault k source mapped number kind
  pub status_is : status ≡ BadText
  pub line_is : line ≡ fault_line name number (kind_name kind)

-- the certificate's text of the file has a first fault, which the line says
pub record IsFaultyCert (k : ℕ) (name source mapped cert : List ℕ) (status : Status) (line : List ℕ) : Type 0 where
  pub number : ℕ
  pub kind : CertKind
  pub fault : IsCertFault k source mapped cert number kind
  pub status_is : status ≡ BadText
  pub line_is : line ≡ fault_line name number (cert_kind_name kind)

-- the three texts are not accepted, and the line says at which entry and why
pub record IsVerdictNo (k d : ℕ) (source mapped cert : List ℕ) (status : Status) (line : List ℕ) : Type 0 where
  pub entry : ℕ
  pub why : Why
  pub not_accepted : IsNotAccepted k d source mapped cert entry why
  pub status_is : status ≡ NotAccepted
  pub line_is : line ≡ not_accepted_line entry (why_name why)

-- the line says the period and the number of drops of the certificate by which the texts are accepted
pub record IsVerdictYes (k d : ℕ) (source mapped cert : List ℕ) (lines : List (List ℕ)) : Type 0 where
  pub period : ℕ
  pub drops : ℕ
  pub accepted : AreAccepted k d source mapped cert period drops
  pub lines_are : lines ≡ accepted_line period drops ∷ []

abbrev pub CheckRefuses : ℕ → ℕ → List ℕ → List ℕ → List ℕ → List (List ℕ) → Status → List ℕ → Type 0
CheckRefuses k d input output certificate (source ∷ mapped ∷ cert ∷ []) status line =
    IsBlamedBy k input source status line
    ⊎ (IsFaultyMapped k output source mapped status line
    ⊎ (IsFaultyCert k certificate source mapped cert status line ⊎ IsVerdictNo k d source mapped cert status line))
CheckRefuses k d input output certificate texts status line = ⊥

abbrev pub CheckAccepts : ℕ → ℕ → List (List ℕ) → Type 0
CheckAccepts k d (source ∷ mapped ∷ cert ∷ []) = AreAcceptable k d source mapped cert
CheckAccepts k d texts = ⊥

-- nothing is written
abbrev pub CheckMakes : ℕ → ℕ → List (List ℕ) → List Write → List (List ℕ) → Type 0
CheckMakes k d (source ∷ mapped ∷ cert ∷ []) [] lines = IsVerdictYes k d source mapped cert lines
CheckMakes k d texts writes lines = ⊥

abbrev pub check_command : ℕ → ℕ → List ℕ → List ℕ → List ℕ → Command
check_command k d input output certificate = record {
  inputs = input_of input source_bytes ∷ input_of output mapped_bytes ∷ input_of certificate mapped_bytes ∷ [];
  outputs = [];
  Refuses = CheckRefuses k d input output certificate;
  Accepts = CheckAccepts k d;
  Makes = CheckMakes k d;
}
