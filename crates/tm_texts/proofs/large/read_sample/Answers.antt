use Rattle.tm_texts.proofs.SampleLemmas.{sample_of, no_fault}
use Rattle.tm_texts.proofs.large.read_sample.Goals as goal

pub returns-in-Ok : goal.returns-in-Ok
returns-in-Ok c =
    sample_of c.args.number _ c.in_ok-text.text.items c.in-Ok.source c.deref.ensures.value c.in_ok-text.ensures.text c.in-Ok.ensures.circuit
    c.in_ok-text.ensures.circuit c.signals.ensures.sound

pub unreachable-requires : goal.unreachable-requires
unreachable-requires c =
    no_fault c.args.number _ c.in_ok-text.text.items c.deref.ensures.value c.in_ok-text.ensures.circuit
    (rw c.in-Err-Text.field-0-is at c.in-Err-Text.ensures.none)
