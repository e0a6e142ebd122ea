-- `map K D IN OUT` and `map K D IN OUT CERT`, and the same with `prime`, as one command over a rule for the covers that are written.
use Rattle.std.specs.Prelude.{◌≡◌, ℕ, List, [], ◌∷◌, Option, None, Some}
use Rattle.prime_cover.specs.Primes.{ByPrimeRows}
use Rattle.tm_mapped.specs.Mapped.{CoverRule, BySingleRows}
use Rattle.cert_text.specs.Certificates.{Certificate, certificate_text}
use Rattle.tm_texts.specs.Limits.{source_bytes}
use Rattle.tm_texts.specs.Sources.{Blame, said_of, IsBlamed, IsMappable}
use Rattle.tm_texts.specs.Maps.{Maps}
use Rattle.turbomap.specs.declared.reading.Rows.{Rows}
use Rattle.turbomap.specs.declared.reading.Rows.TheVariants.{Single, Prime}
use Rattle.turbomap.specs.declared.status.Status.{Status}
use Rattle.turbomap.specs.declared.status.Status.TheVariants.{BadText}
use Rattle.turbomap.specs.Command.{Write, Command, input_of, write_of}
use Rattle.turbomap.specs.Kind.{text_kind_name}
use Rattle.turbomap.specs.Line.{fault_line, mapped_line}

-- the rule for covers with the rows that are asked for
abbrev pub rule_of : Rows → CoverRule
rule_of Single = BySingleRows
rule_of Prime = ByPrimeRows

-- the line that says why the text of a file is refused
abbrev pub blame_line : List ℕ → Blame → List ℕ
blame_line name blame = fault_line name (said_of blame).0 (text_kind_name (said_of blame).1)

-- the text of the file is refused for a reason that the line says
pub record IsBlamedBy (k : ℕ) (name text : List ℕ) (status : Status) (line : List ℕ) : Type 0 where
  pub blame : Blame
  pub blamed : IsBlamed k text blame
  pub status_is : status ≡ BadText
  pub line_is : line ≡ blame_line name blame

-- the files that are written: OUT, and where it is asked for CERT
abbrev pub outputs_of : List ℕ → Option (List ℕ) → List (List ℕ)
outputs_of output None = output ∷ []
outputs_of output (Some certificate) = output ∷ certificate ∷ []

-- what is written to them: OUT, and where it is asked for the certificate's text
abbrev pub mapped_writes : List ℕ → Option (List ℕ) → List ℕ → Certificate → List Write
mapped_writes output None bytes cert = write_of output bytes ∷ []
mapped_writes output (Some certificate) bytes cert = write_of output bytes ∷ write_of certificate (certificate_text cert) ∷ []

-- what is written is a text that maps the text, with covers by the rule, and its certificate where it is asked for; the line says the
-- period and the numbers of tables and registers
pub record IsMapping (Covers : CoverRule) (k d : ℕ) (output : List ℕ) (certificate : Option (List ℕ)) (text : List ℕ) (writes : List Write)
    (lines : List (List ℕ)) : Type 0 where
  pub bytes : List ℕ
  pub cert : Certificate
  pub tables : ℕ
  pub registers : ℕ
  pub maps : Maps Covers k d text bytes cert tables registers
  pub writes_are : writes ≡ mapped_writes output certificate bytes cert
  pub lines_are : lines ≡ mapped_line cert.period tables registers ∷ []

abbrev pub MapRefuses : ℕ → List ℕ → List (List ℕ) → Status → List ℕ → Type 0
MapRefuses k input (text ∷ []) status line = IsBlamedBy k input text status line
MapRefuses k input texts status line = ⊥

abbrev pub MapAccepts : ℕ → List (List ℕ) → Type 0
MapAccepts k (text ∷ []) = IsMappable k text
MapAccepts k texts = ⊥

abbrev pub MapMakes : CoverRule → ℕ → ℕ → List ℕ → Option (List ℕ) → List (List ℕ) → List Write → List (List ℕ) → Type 0
MapMakes Covers k d output certificate (text ∷ []) writes lines = IsMapping Covers k d output certificate text writes lines
MapMakes Covers k d output certificate texts writes lines = ⊥

abbrev pub map_command : CoverRule → ℕ → ℕ → List ℕ → List ℕ → Option (List ℕ) → Command
map_command Covers k d input output certificate = record {
  inputs = input_of input source_bytes ∷ [];
  outputs = outputs_of output certificate;
  Refuses = MapRefuses k input;
  Accepts = MapAccepts k;
  Makes = MapMakes Covers k d output certificate;
}
