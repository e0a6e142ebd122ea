-- From the circuit of a text and its splitting to the subject circuit of the text.
use Rattle.std.proofs.Common.{ℕ, List, refl}
use Rattle.tm_circuit.specs.Plain.{Plain}
use Rattle.tm_circuit.specs.Sound.{IsSound}
use Rattle.text_read.specs.Texts.{IsCircuitOf, ShowsMeaning}
use Rattle.tm_texts.specs.declared.source.MapFault.{MapFault}
use Rattle.tm_texts.specs.declared.source.MapFault.TheVariants as source_fault
use Rattle.tm_texts.specs.Limits.{source_limits}
use Rattle.tm_texts.proofs.InputLemmas.{same_input}
use Rattle.tm_texts.specs.Sources.{fault, too_large, IsSubjectOf, IsMapFault, IsReadFault, IsSubject, IsSplitFault}

pub subject_of : (k : ℕ) (text : List ℕ) (source subject : Plain) → IsCircuitOf source_limits text source → ShowsMeaning source_limits text source
    → IsSound source → IsSubject k source subject → IsSubjectOf k text subject
subject_of k text source subject of_text meaning sound split = record {
  source = source;
  of_text = of_text;
  meaning = meaning;
  source_sound = sound;
  few = split.few;
  spelled = split.spelled;
  same = split.same;
  sound = split.sound;
  narrow = split.narrow;
  fits = split.fits;
}

pub split_fault : (k : ℕ) (text : List ℕ) (source : Plain) (why : MapFault) → IsCircuitOf source_limits text source → IsSplitFault k text source why
    → IsMapFault k text why
split_fault k text source (source_fault.Text line kind) of_text why = record {
  blame = too_large kind;
  blamed = record {
    circuit = source;
    of_text = of_text;
    only = λ c of_c. same_input source_limits text c source of_c of_text;
    many = why.many;
    kind_is = why.kind_is;
  };
  said = rw why.line_is refl;
}
split_fault k text source source_fault.NoMemory of_text why = tt

pub read_fault : (k : ℕ) (text : List ℕ) (why : MapFault) → IsReadFault text why → IsMapFault k text why
read_fault k text (source_fault.Text line kind) faulty = record { blame = fault line kind; blamed = faulty; said = refl }
read_fault k text source_fault.NoMemory faulty = tt
