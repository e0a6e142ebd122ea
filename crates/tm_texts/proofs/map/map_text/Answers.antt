use Rattle.std.proofs.Common.{subst, sym}
use Rattle.tm_mapped.specs.Mapped.{BySingleRows}
use Rattle.cert_text.specs.declared.cert.Cert.{Cert}
use Rattle.cert_text.specs.Certificates.{certificate_of}
use Rattle.tm_texts.specs.Maps.{Maps}
use Rattle.tm_texts.proofs.MapLemmas.{maps_of}
use Rattle.tm_texts.proofs.map.map_text.Goals as goal

pub returns-clause-maps : goal.returns-clause-maps
returns-clause-maps c =
    let made = c.in_ok-mapped.mapped in
    let written = c.in_ok-write_mapped.ensures in
    let out = c.in_ok-write_mapped.field-0 in
    subst (λ (cert : Cert). Maps BySingleRows c.args.k c.args.d c.args.text.now out.text.items (certificate_of cert) out.tables out.registers) (sym written.cert)
    (maps_of BySingleRows c.args.k c.args.d c.args.text.now out.text.items c.in_ok-subject.subject made.circuit (certificate_of made.cert) out.tables out.registers
    c.in_ok-subject.ensures.subject c.in_ok-mapped.ensures written.spelled)

pub map_subject-requires-clause-narrow : goal.map_subject-requires-clause-narrow
map_subject-requires-clause-narrow c = c.in_ok-subject.ensures.subject.narrow

pub map_subject-requires-clause-fits : goal.map_subject-requires-clause-fits
map_subject-requires-clause-fits c = c.in_ok-subject.ensures.subject.fits
