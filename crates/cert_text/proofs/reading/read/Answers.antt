-- A text with a certificate has no fault and no other certificate.
use Rattle.cert_text.proofs.LawLemmas.{only_answer}
use Rattle.cert_text.proofs.reading.read.Goals as goal

pub returns-clause-only : goal.returns-clause-only
returns-clause-only c = only_answer c.args.text.now c.read_parts.result c.read_parts.ensures.certificate c.read_parts.ensures.fault
