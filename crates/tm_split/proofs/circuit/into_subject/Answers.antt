use Rattle.std.proofs.Common.{◌≡◌, ◌<◌, ◌≤◌, length, sym, ap, subst, arith}
use Rattle.tm_circuit.specs.Plain.{Plain, widest}
use Rattle.tm_parts.specs.Fits.{FitsMapping}
use Rattle.tm_split.specs.Limits.{most_subject_signals}
use Rattle.tm_split.specs.Subject.{subject_of}
use Rattle.tm_split.proofs.Narrow.{narrow_subject}
use Rattle.tm_split.proofs.Soundness.{IsSplittable, subject_fits}
use Rattle.tm_split.proofs.circuit.into_subject.Goals as goal

pub returns-then-from-le-MOST_SUBJECT_SIGNALS-clause-subject : goal.returns-then-from-le-MOST_SUBJECT_SIGNALS-clause-subject
returns-then-from-le-MOST_SUBJECT_SIGNALS-clause-subject c =
    sym (narrow_subject c.args.k c.args.circuit c.widest.ensures.sound (omega (arith, c.widest.ensures.pins, c.if-widest-from.true)))

pub returns-then-from-le-MOST_SUBJECT_SIGNALS-clause-fits : goal.returns-then-from-le-MOST_SUBJECT_SIGNALS-clause-fits
returns-then-from-le-MOST_SUBJECT_SIGNALS-clause-fits c =
    let same : subject_of c.args.k c.args.circuit ≡ c.args.circuit
    = narrow_subject c.args.k c.args.circuit c.widest.ensures.sound (omega (arith, c.widest.ensures.pins, c.if-widest-from.true)) in
    let few : length (subject_of c.args.k c.args.circuit).drives ≤ most_subject_signals
    = subst (λ (o : Plain). length o.drives ≤ most_subject_signals) (sym same) (omega (arith, c.signals.ensures.count, c.if-from-le-MOST_SUBJECT_SIGNALS.true)) in
    let splittable : IsSplittable c.args.k c.args.circuit
    = record { sound = c.widest.ensures.sound; least = c.requires.least; names = c.requires.names; few = few } in
    subst (λ (o : Plain). FitsMapping o) same (subject_fits c.args.k c.args.circuit splittable)

pub returns-then-from-le-MOST_SUBJECT_SIGNALS-clause-too_many : goal.returns-then-from-le-MOST_SUBJECT_SIGNALS-clause-too_many
returns-then-from-le-MOST_SUBJECT_SIGNALS-clause-too_many c =
    let same : subject_of c.args.k c.args.circuit ≡ c.args.circuit
    = narrow_subject c.args.k c.args.circuit c.widest.ensures.sound (omega (arith, c.widest.ensures.pins, c.if-widest-from.true)) in
    let few : length (subject_of c.args.k c.args.circuit).drives ≤ most_subject_signals
    = subst (λ (o : Plain). length o.drives ≤ most_subject_signals) (sym same) (omega (arith, c.signals.ensures.count, c.if-from-le-MOST_SUBJECT_SIGNALS.true)) in
    ((λ is. cc is), (λ many. absurd (omega (arith, few, many))))
