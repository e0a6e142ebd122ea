use Rattle.std.proofs.Common.{refl}
use Rattle.tm_texts.proofs.SampleLemmas.{subject_small, subject_gates}
use Rattle.tm_texts.proofs.large.sample_subject.Goals as goal

pub returns-in-Ok : goal.returns-in-Ok
returns-in-Ok c = record {
  source = c.in_ok-source.source;
  is = c.in_ok-source.ensures;
  split = record {
    spelled = c.in-Ok.ensures.subject;
    same = c.in-Ok.ensures.same;
    sound = c.in-Ok.ensures.sound;
    narrow = c.in-Ok.ensures.narrow;
    few = rw c.in-Ok.ensures.subject at c.in-Ok.ensures.few;
    fits = c.in-Ok.ensures.fits;
  };
  gates = subject_gates c.args.number c.args.k c.in_ok-source.source c.in-Ok.subject c.requires.tables.0 c.in_ok-source.ensures c.in-Ok.ensures.subject;
}

pub unreachable-requires : goal.unreachable-requires
unreachable-requires c =
    subject_small c.args.number c.args.k c.in_ok-source.source c.requires.tables.0 c.in_ok-source.ensures
    ((c.in-Err-TooManySignals.ensures.too_many).0 (rw c.in-Err-TooManySignals.field-0-is refl))

pub subject-requires-clause-names : goal.subject-requires-clause-names
subject-requires-clause-names c = c.in_ok-source.ensures.names
