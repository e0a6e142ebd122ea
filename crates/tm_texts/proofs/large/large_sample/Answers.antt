use Rattle.std.proofs.Common.{refl, subst, inr, arith, sym}
use Rattle.std.proofs.lemmas.List.{length-map}
use Rattle.tm_circuit.specs.Plain.{Plain}
use Rattle.tm_replay.specs.Replays.{drop_of}
use Rattle.tm_mapped.specs.Mapped.{BySingleRows}
use Rattle.cert_text.specs.Certificates.{certificate_of}
use Rattle.tm_texts.specs.Mapped.{IsMappedCircuit}
use Rattle.tm_texts.proofs.SampleLemmas.{drops_few}
use Rattle.tm_texts.proofs.large.large_sample.Goals as goal

pub map_subject-requires-clause-narrow : goal.map_subject-requires-clause-narrow
map_subject-requires-clause-narrow c = c.in_ok-subject.ensures.split.narrow

pub map_subject-requires-clause-fits : goal.map_subject-requires-clause-fits
map_subject-requires-clause-fits c = c.in_ok-subject.ensures.split.fits

pub overflow_cast-drops : goal.overflow_cast-drops
overflow_cast-drops c =
    let cert = c.in_ok-mapped.mapped.cert in
    let subject = c.in_ok-subject.ensures in
    let few = drops_few BySingleRows c.args.k c.args.d c.in_ok-subject.subject c.in_ok-mapped.mapped.circuit (certificate_of cert) subject.split.sound
    (omega (arith, subject.gates, c.requires.few)) c.requires.lags c.in_ok-mapped.ensures in
    let same = length-map cert.drops.items drop_of in
    omega (arith, few, same, cert.drops.ok.0, c.len-drops.ensures)

pub check-requires-clause-version : goal.check-requires-clause-version
check-requires-clause-version c = inr c.in_ok-mapped.ensures.certified.version_is

pub check-requires-clause-narrow : goal.check-requires-clause-narrow
check-requires-clause-narrow c = c.in_ok-subject.ensures.split.narrow

pub check-requires-clause-fits : goal.check-requires-clause-fits
check-requires-clause-fits c = c.in_ok-subject.ensures.split.fits

pub check-requires-clause-drops : goal.check-requires-clause-drops
check-requires-clause-drops c =
    let cert = c.in_ok-mapped.mapped.cert in
    let subject = c.in_ok-subject.ensures in
    let few = drops_few BySingleRows c.args.k c.args.d c.in_ok-subject.subject c.in_ok-mapped.mapped.circuit (certificate_of cert) subject.split.sound
    (omega (arith, subject.gates, c.requires.few)) c.requires.lags c.in_ok-mapped.ensures in
    let same = length-map cert.drops.items drop_of in
    omega (arith, few, same, cert.drops.ok.0)

pub returns : goal.returns
returns c =
    let cert = c.in_ok-mapped.mapped.cert in
    let subject = c.in_ok-subject.ensures in
    let same = length-map cert.drops.items drop_of in
    record {
      source = subject.source;
      of_sample = subject.is.of_sample;
      source_sound = subject.is.sound;
      mapped = c.in_ok-mapped.mapped.circuit;
      cert = certificate_of cert;
      made =
          subst (λ (circuit : Plain). IsMappedCircuit BySingleRows c.args.k c.args.d circuit c.in_ok-mapped.mapped.circuit (certificate_of cert))
          subject.split.spelled c.in_ok-mapped.ensures;
      period_is = refl;
      tables_are = sym c.gates.ensures;
      registers_are = sym c.latches.ensures;
      drops_are = omega (arith, same, cert.drops.ok.0, c.len-drops.ensures);
    }

pub unreachable-requires : goal.unreachable-requires
unreachable-requires c =
    c.one_verdict.ensures.not_both c.in_ok-subject.subject c.in_ok-mapped.mapped.circuit (certificate_of c.in_ok-mapped.mapped.cert) c.args.k c.args.d _ _
    (omega (arith, c.requires.tables.0)) c.in_ok-mapped.ensures.certified.accepted (rw c.in-No.is at c.in_ok-check.ensures)
