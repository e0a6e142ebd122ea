-- A text that is to be mapped: its circuit and the subject circuit of that, or why it is refused.
use Rattle.std.specs.Prelude.{◌≡◌, ◌<◌, ◌≤◌, ℕ, List, length}
use Rattle.tm_circuit.specs.Plain.{Plain, widest}
use Rattle.tm_circuit.specs.Same.{IsSame}
use Rattle.tm_circuit.specs.Sound.{IsSound}
use Rattle.tm_parts.specs.Fits.{FitsMapping}
use Rattle.tm_split.specs.Limits.{most_subject_signals}
use Rattle.tm_split.specs.Subject.{subject_of}
use Rattle.text_read.specs.declared.fault.TextKind.{TextKind}
use Rattle.text_read.specs.Texts.{IsCircuitOf, ShowsMeaning, IsFaultOf, too_many}
use Rattle.tm_texts.specs.declared.source.MapFault.{MapFault}
use Rattle.tm_texts.specs.declared.source.MapFault.TheVariants.{Text, NoMemory}
use Rattle.tm_texts.specs.Limits.{source_limits}

-- ---- a text that can be mapped

-- The text has a circuit, whose subject circuit has at most 100,000 signals.
pub record IsMappable (k : ℕ) (text : List ℕ) : Type 0 where
  pub circuit : Plain
  pub of_text : IsCircuitOf source_limits text circuit
  pub few : length (subject_of k circuit).drives ≤ most_subject_signals

-- The circuit is the subject circuit of a text. It is Same as the text's circuit, which shows what the text means, narrow enough, and fit
-- to be mapped.
pub record IsSubjectOf (k : ℕ) (text : List ℕ) (subject : Plain) : Type 0 where
  pub source : Plain
  pub of_text : IsCircuitOf source_limits text source
  pub meaning : ShowsMeaning source_limits text source
  pub source_sound : IsSound source
  pub few : length (subject_of k source).drives ≤ most_subject_signals
  pub spelled : subject ≡ subject_of k source
  pub same : IsSame source subject
  pub sound : IsSound subject
  pub narrow : widest subject.drives ≤ k
  pub fits : FitsMapping subject

-- ---- why a text is refused

-- Why a text is refused: a fault of the text at a line, or a subject circuit with more than 100,000 signals, which is said by a kind.
pub data Blame : Type 0 where
  fault : ℕ → TextKind → Blame
  too_large : TextKind → Blame

-- The line and the kind of fault that are said.
abbrev pub said_of : Blame → ℕ × TextKind
said_of (fault line kind) = (line, kind)
said_of (too_large kind) = (0, kind)

-- The text has a circuit, the only one, whose subject circuit has more than 100,000 signals. The kind is that of texts of its kind.
pub record IsTooLarge (k : ℕ) (text : List ℕ) (kind : TextKind) : Type 0 where
  pub circuit : Plain
  pub of_text : IsCircuitOf source_limits text circuit
  pub only : (c : Plain) → IsCircuitOf source_limits text c → c ≡ circuit
  pub many : most_subject_signals < length (subject_of k circuit).drives
  pub kind_is : kind ≡ too_many text

-- The text has this first fault and no circuit.
pub record IsFaulty (text : List ℕ) (line : ℕ) (kind : TextKind) : Type 0 where
  pub first : IsFaultOf source_limits text (line, kind)
  pub none : (c : Plain) → ¬ IsCircuitOf source_limits text c

-- The text is refused for this reason.
abbrev pub IsBlamed : ℕ → List ℕ → Blame → Type 0
IsBlamed k text (fault line kind) = IsFaulty text line kind
IsBlamed k text (too_large kind) = IsTooLarge k text kind

-- The text is refused for a reason that is said by this line and kind.
pub record IsBlamedAs (k : ℕ) (text : List ℕ) (line : ℕ) (kind : TextKind) : Type 0 where
  pub blame : Blame
  pub blamed : IsBlamed k text blame
  pub said : said_of blame ≡ (line, kind)

-- Why a text has no subject circuit. Want of memory says nothing.
abbrev pub IsMapFault : ℕ → List ℕ → MapFault → Type 0
IsMapFault k text (Text line kind) = IsBlamedAs k text line kind
IsMapFault k text NoMemory = Unit {0}

-- ---- the parts of the call

-- Why a text has no circuit. Want of memory says nothing.
abbrev pub IsReadFault : List ℕ → MapFault → Type 0
IsReadFault text (Text line kind) = IsFaulty text line kind
IsReadFault text NoMemory = Unit {0}

-- The circuit is the source's subject circuit, which is Same as the source, narrow enough, not too large, and fit to be mapped.
pub record IsSubject (k : ℕ) (source subject : Plain) : Type 0 where
  pub spelled : subject ≡ subject_of k source
  pub same : IsSame source subject
  pub sound : IsSound subject
  pub narrow : widest subject.drives ≤ k
  pub few : length (subject_of k source).drives ≤ most_subject_signals
  pub fits : FitsMapping subject

-- Why the circuit of a text has no subject circuit within the limit, as a fault that is said. Want of memory says nothing.
pub record IsTooLargeAs (k : ℕ) (text : List ℕ) (source : Plain) (line : ℕ) (kind : TextKind) : Type 0 where
  pub line_is : line ≡ 0
  pub kind_is : kind ≡ too_many text
  pub many : most_subject_signals < length (subject_of k source).drives

abbrev pub IsSplitFault : ℕ → List ℕ → Plain → MapFault → Type 0
IsSplitFault k text source (Text line kind) = IsTooLargeAs k text source line kind
IsSplitFault k text source NoMemory = Unit {0}
