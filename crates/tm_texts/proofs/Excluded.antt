-- What texts have excludes what they are refused for.
use Rattle.std.proofs.Common.{◌≡◌, ◌≤◌, ℕ, List, length, subst, sym, ◌∙◌, arith}
use Rattle.tm_circuit.specs.Plain.{Plain}
use Rattle.tm_split.specs.Limits.{most_subject_signals}
use Rattle.tm_split.specs.Subject.{subject_of}
use Rattle.blif_read.proofs.SomeCircuit.{same_circuit}
use Rattle.cert_text.specs.declared.fault.CertKind.{CertKind}
use Rattle.cert_text.specs.Certificates.{Certificate, IsCertificateOf}
use Rattle.cert_text.specs.Faults.{IsFirstFault}
use Rattle.cert_check.specs.declared.verdict.Why.{Why}
use Rattle.cert_text.proofs.LawLemmas.{not_both, one_spelling}
use Rattle.cert_check.specs.Accepted.{IsFirstFailure}
use Rattle.cert_check.specs.declared.verdict.Verdict.TheVariants.{Yes, No}
use Rattle.cert_check.proofs.VerdictLemmas.{one_verdict_lem}
use Rattle.tm_texts.specs.Limits.{source_limits, mapped_limits}
use Rattle.tm_texts.specs.Sources.{Blame, fault, too_large, IsMappable, IsBlamed}
use Rattle.tm_texts.proofs.InputLemmas.{same_input}
use Rattle.tm_texts.specs.Checks.{AreAccepted, AreAcceptable, IsNotAccepted}

-- a text that can be mapped is not blamed
pub mappable_blamed : (k : ℕ) (blame : Blame) (text : List ℕ) → IsBlamed k text blame → IsMappable k text → ⊥
mappable_blamed k (fault line kind) text blamed mappable = blamed.none mappable.circuit mappable.of_text
mappable_blamed k (too_large kind) text blamed mappable =
    let few : length (subject_of k blamed.circuit).drives ≤ most_subject_signals
    = subst (λ (c : Plain). length (subject_of k c).drives ≤ most_subject_signals) (blamed.only mappable.circuit mappable.of_text) mappable.few in
    omega (arith, few, blamed.many)

-- a text with a certificate has no fault
pub cert_faulty : (text : List ℕ) (c : Certificate) (line : ℕ) (kind : CertKind) → IsCertificateOf text c → IsFirstFault text line kind → ⊥
cert_faulty text c line kind of_text first = not_both text c line kind of_text first

-- a text has one certificate
one_certificate : (text : List ℕ) (c other : Certificate) → IsCertificateOf text c → IsCertificateOf text other → c ≡ other
one_certificate text c other is are = one_spelling c other is.spelled are.spelled (sym is.written ∙ are.written)

-- texts that can be accepted are of a source that can be mapped
pub acceptable_maps : (k d : ℕ) (source mapped cert : List ℕ) → AreAcceptable k d source mapped cert → IsMappable k source
acceptable_maps k d source mapped cert are = record { circuit = are.circuit; of_text = are.are.of_source; few = are.are.few }

-- texts that are accepted can be
pub accepted_acceptable : (k d : ℕ) (source mapped cert : List ℕ) (period drops : ℕ) → AreAccepted k d source mapped cert period drops
    → AreAcceptable k d source mapped cert
accepted_acceptable k d source mapped cert period drops are = record {
  circuit = are.circuit;
  claimed = are.claimed;
  certificate = are.certificate;
  are = are.are;
  accepted = are.accepted;
}

-- no test fails of texts that can be accepted
pub acceptable_fails : (k d : ℕ) (source mapped cert : List ℕ) (entry : ℕ) (why : Why) → 1 ≤ k → AreAcceptable k d source mapped cert
    → IsNotAccepted k d source mapped cert entry why → ⊥
acceptable_fails k d source mapped cert entry why some are fails =
    let same = same_input source_limits source fails.circuit are.circuit fails.are.of_source are.are.of_source in
    let claimed = same_circuit mapped_limits mapped fails.claimed are.claimed fails.are.of_mapped are.are.of_mapped in
    let certificate = one_certificate cert fails.certificate are.certificate fails.are.of_cert are.are.of_cert in
    let first : IsFirstFailure (subject_of k are.circuit) are.claimed are.certificate k d entry why
    = subst (λ (c : Plain). IsFirstFailure (subject_of k c) are.claimed are.certificate k d entry why) same
    (subst (λ (c : Plain). IsFirstFailure (subject_of k fails.circuit) c are.certificate k d entry why) claimed
    (subst (λ (c : Certificate). IsFirstFailure (subject_of k fails.circuit) fails.claimed c k d entry why) certificate fails.fails)) in
    let path : Yes ≡ No entry why = one_verdict_lem (subject_of k are.circuit) are.claimed are.certificate k d Yes (No entry why) some are.accepted first in
    cc
