-- From a mapped subject circuit to a mapped text.
use Rattle.std.proofs.Common.{◌≡◌, ℕ, suc, List, subst, sym, ap, ◌∙◌}
use Rattle.tm_circuit.specs.Plain.{Plain}
use Rattle.tm_circuit.proofs.Sameness.{sound_same_through}
use Rattle.tm_replay.specs.Replays.{Drop, Refutes}
use Rattle.tm_labels.specs.Settled.{Settling}
use Rattle.tm_search.specs.Least as below
use Rattle.tm_search.proofs.LeastLemmas.{refutes_from}
use Rattle.tm_mapped.specs.Mapped.{CoverRule}
use Rattle.cert_text.specs.Certificates.{Certificate}
use Rattle.cert_check.specs.Accepted.{ShowLeast}
use Rattle.tm_texts.specs.Maps.{IsLeastMapped, IsCertified, Maps}
use Rattle.tm_texts.specs.Mapped.{IsMappedCircuit, IsSpelled}
use Rattle.tm_texts.specs.Sources.{IsSubjectOf}

pub maps_of : (Covers : CoverRule) (k d : ℕ) (text bytes : List ℕ) (subject circuit : Plain) (cert : Certificate) (tables registers : ℕ) → IsSubjectOf k text subject
    → IsMappedCircuit Covers k d subject circuit cert → IsSpelled bytes circuit tables registers → Maps Covers k d text bytes cert tables registers
maps_of Covers k d text bytes subject circuit cert tables registers split made written = record {
  source = split.source;
  of_text = split.of_text;
  meaning = split.meaning;
  source_sound = split.source_sound;
  few = split.few;
  mapped = circuit;
  spelled = written.spelled;
  of_bytes = written.of_bytes;
  mapped_sound = made.sound;
  only = written.only;
  same = sound_same_through split.source subject circuit split.sound split.same made.same;
  narrow = made.narrow;
  period_is = made.period_is;
  tables_are = written.tables_are;
  registers_are = written.registers_are;
  least = subst (λ (c : Plain). IsLeastMapped Covers k d c cert.tables cert.period circuit) split.spelled made.least;
  certified = subst (λ (c : Plain). IsCertified k d c circuit cert) split.spelled made.certified;
}

-- drops of a settling that refutes the target below a period show that no lawful mapping has a smaller one
pub show_least : (c : Plain) (k d period : ℕ) (s : Settling) (drops : List Drop) → below.Refutes 0 c k d period s → drops ≡ s.drops
    → ShowLeast period c k d drops
show_least c k d period s drops is same =
    subst (λ (p : ℕ). ShowLeast p c k d drops) is.target
    (subst (λ (ds : List Drop). Refutes c k d s.target ds) (sym same) (refutes_from 0 c k d period s is))

-- the drops that were refuted by as those of a target
pub refute_target : (c : Plain) (k d period target : ℕ) (s : Settling) (drops : List Drop) → below.Refutes 0 c k d period s → drops ≡ s.drops
    → target ≡ s.target → Refutes c k d target drops
refute_target c k d period target s drops is same at =
    subst (λ (t : ℕ). Refutes c k d t drops) (sym at)
    (subst (λ (ds : List Drop). Refutes c k d s.target ds) (sym same) (refutes_from 0 c k d period s is))

-- drops that refute a target show that the period just above it is the least
pub show_above : (c : Plain) (k d period target : ℕ) (s : Settling) (drops : List Drop) → below.Refutes 0 c k d period s → target ≡ s.target
    → Refutes c k d target drops → ShowLeast period c k d drops
show_above c k d period target s drops is at refutes =
    subst (λ (p : ℕ). ShowLeast p c k d drops) (ap suc at ∙ is.target) refutes
