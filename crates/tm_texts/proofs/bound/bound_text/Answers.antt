use Rattle.std.proofs.Common.{subst}
use Rattle.tm_circuit.specs.Plain.{Plain}
use Rattle.tm_texts.specs.Bounds.{IsBoundOf}
use Rattle.tm_texts.proofs.bound.bound_text.Goals as goal

pub returns-clause-bound : goal.returns-clause-bound
returns-clause-bound c =
    let split = c.in_ok-subject.ensures.subject in
    record {
      source = split.source;
      of_text = split.of_text;
      source_sound = split.source_sound;
      few = split.few;
      bound =
          subst (λ (subject : Plain). IsBoundOf c.args.k c.args.d c.args.b subject c.in_ok-bound_subject.field-0) split.spelled
          c.in_ok-bound_subject.ensures;
    }

pub bound_subject-requires-clause-narrow : goal.bound_subject-requires-clause-narrow
bound_subject-requires-clause-narrow c = c.in_ok-subject.ensures.subject.narrow

pub bound_subject-requires-clause-fits : goal.bound_subject-requires-clause-fits
bound_subject-requires-clause-fits c = c.in_ok-subject.ensures.subject.fits
