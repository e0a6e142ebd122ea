use Rattle.std.proofs.Common.{◌≡◌, length, map, arith}
use Rattle.std.proofs.lemmas.List.{length-map}
use Rattle.std.proofs.lemmas.Result.{err_from_is_err_and}
use Rattle.tm_replay.specs.Replays.{drop_of}
use Rattle.cert_text.specs.Certificates.{certificate_of}
use Rattle.tm_texts.proofs.CertLemmas.{drops_few}
use Rattle.tm_texts.proofs.CheckLemmas.{cert_fault, accepted_texts}
use Rattle.tm_texts.proofs.check.check_texts.Goals as goal

pub returns-in_err-cert-clause-fault : goal.returns-in_err-cert-clause-fault
returns-in_err-cert-clause-fault c =
    let p = err_from_is_err_and c.from_residual-in_err-cert.result c.from_residual-in_err-cert.ensures.1 in
    rw (p.1, p.2) (cert_fault c.args.k c.args.d c.args.source.now c.args.mapped.now c.args.cert.now c.in_ok-subject.subject c.in_ok-claimed.claimed _
    c.in_ok-subject.ensures.subject c.in_ok-claimed.ensures.circuit c.in_err-cert.ensures.fault)

pub overflow_cast-drops : goal.overflow_cast-drops
overflow_cast-drops c =
    let cert = c.in_ok-cert.cert in
    let few = drops_few c.args.cert.now (certificate_of cert) c.in_ok-cert.ensures.cert in
    let same = length-map cert.drops.items drop_of in
    omega (arith, few, same, cert.drops.ok.0, c.len-drops.ensures, c.requires.cert)

pub check-requires-clause-drops : goal.check-requires-clause-drops
check-requires-clause-drops c =
    let cert = c.in_ok-cert.cert in
    let few = drops_few c.args.cert.now (certificate_of cert) c.in_ok-cert.ensures.cert in
    let same = length-map cert.drops.items drop_of in
    omega (arith, few, same, cert.drops.ok.0, c.requires.cert)

pub returns-in-Yes-clause-accepted : goal.returns-in-Yes-clause-accepted
returns-in-Yes-clause-accepted c =
    let cert = c.in_ok-cert.cert in
    let subject = c.in_ok-subject.ensures.subject in
    let accepted = rw c.in-Yes.is at c.in_ok-check.ensures in
    let best = c.accepted_is_best.ensures c.in_ok-subject.subject c.in_ok-claimed.claimed (certificate_of cert) c.args.k c.args.d subject.sound
    c.in_ok-claimed.ensures.sound accepted in
    let same = length-map cert.drops.items drop_of in
    let drops : c.len-drops.result ≡ length (map drop_of cert.drops.items) = omega (arith, same, cert.drops.ok.0, c.len-drops.ensures) in
    accepted_texts c.args.k c.args.d c.args.source.now c.args.mapped.now c.args.cert.now c.in_ok-subject.subject c.in_ok-claimed.claimed
    (certificate_of cert) c.len-drops.result subject c.in_ok-claimed.ensures.circuit c.in_ok-claimed.ensures.sound c.in_ok-cert.ensures.cert
    accepted best drops
