-- From the parts of a check to its answer.
use Rattle.std.proofs.Common.{◌≡◌, ℕ, List, length, refl, subst}
use Rattle.tm_circuit.specs.Plain.{Plain}
use Rattle.tm_circuit.specs.Sound.{IsSound}
use Rattle.tm_circuit.proofs.Sameness.{sound_same_through}
use Rattle.blif_read.specs.Text.{IsCircuitOf}
use Rattle.cert_text.specs.Certificates.{Certificate, IsCertificateOf}
use Rattle.cert_check.specs.Accepted.{IsAccepted}
use Rattle.cert_check.specs.Claims.{IsBest, IsLeast}
use Rattle.tm_texts.specs.declared.check.CheckFault.{CheckFault}
use Rattle.tm_texts.specs.declared.check.CheckFault.TheVariants as check_fault
use Rattle.tm_texts.specs.Limits.{mapped_limits}
use Rattle.tm_texts.specs.Sources.{IsSubjectOf}
use Rattle.tm_texts.specs.Checks.{AreAccepted, IsCheckFault, IsSpellingFault}

-- a certificate's fault, where the other two texts have their circuits
pub cert_fault : (k d : ℕ) (source mapped cert : List ℕ) (subject claimed : Plain) (why : CheckFault) → IsSubjectOf k source subject
    → IsCircuitOf mapped_limits mapped claimed → IsSpellingFault cert why → IsCheckFault k d source mapped cert why
cert_fault k d source mapped cert subject claimed (check_fault.Source line kind) split of_mapped is = absurd is
cert_fault k d source mapped cert subject claimed (check_fault.Mapped line kind) split of_mapped is = absurd is
cert_fault k d source mapped cert subject claimed (check_fault.Cert line kind) split of_mapped is = record {
  mappable = record { circuit = split.source; of_text = split.of_text; few = split.few };
  claimed = claimed;
  of_mapped = of_mapped;
  first = is;
}
cert_fault k d source mapped cert subject claimed (check_fault.No entry why) split of_mapped is = absurd is
cert_fault k d source mapped cert subject claimed check_fault.NoMemory split of_mapped is = tt

-- texts that are accepted
pub accepted_texts : (k d : ℕ) (source mapped cert : List ℕ) (subject claimed : Plain) (certificate : Certificate) (drops : ℕ)
    → IsSubjectOf k source subject → IsCircuitOf mapped_limits mapped claimed → IsSound claimed → IsCertificateOf cert certificate
    → IsAccepted subject claimed certificate k d → IsBest subject claimed certificate k d → drops ≡ length certificate.drops
    → AreAccepted k d source mapped cert certificate.period drops
accepted_texts k d source mapped cert subject claimed certificate drops split of_mapped sound of_cert accepted best drops_are = record {
  circuit = split.source;
  claimed = claimed;
  certificate = certificate;
  are = record { of_source = split.of_text; few = split.few; of_mapped = of_mapped; of_cert = of_cert };
  accepted = subst (λ (c : Plain). IsAccepted c claimed certificate k d) split.spelled accepted;
  period_is = refl;
  drops_are = drops_are;
  meaning = split.meaning;
  source_sound = split.source_sound;
  mapped_sound = sound;
  same = sound_same_through split.source subject claimed split.sound split.same best.same;
  narrow = best.narrow;
  has_period = best.period;
  least = subst (λ (c : Plain). IsLeast certificate.version c k d certificate.period) split.spelled best.least;
}
