use Rattle.std.proofs.Common.{◌≤◌, length, sym, ◌∙◌, subst, Err, arith}
use Rattle.tm_circuit.specs.Plain.{Plain, widest}
use Rattle.tm_circuit.specs.Build.{IsBuilt}
use Rattle.tm_circuit.specs.Same.{IsSame}
use Rattle.tm_parts.specs.Names.{HasNamesWithin}
use Rattle.tm_parts.specs.Fits.{FitsMapping}
use Rattle.tm_split.specs.Limits.{most_subject_signals}
use Rattle.tm_split.specs.Subject.{subject_of}
use Rattle.tm_split.proofs.Alike.{subject_same}
use Rattle.tm_split.proofs.Soundness.{IsSplittable, refused_for_memory, subject_narrow, subject_names_short, subject_fits}
use Rattle.tm_split.proofs.circuit.subject.Goals as goal

pub returns-in-Ok-clause-same : goal.returns-in-Ok-clause-same
returns-in-Ok-clause-same c =
    let (is, sound) = c.in-Ok.ensures in
    subst (λ (o : Plain). IsSame c.args.circuit.now o) (sym (is ∙ c.in_ok-parts.ensures)) (c.equivalence.ensures.symmetric (subject_of c.args.k c.args.circuit.now) c.args.circuit.now (subject_same c.args.k c.args.circuit.now (c.same_by_trace.ensures (subject_of c.args.k c.args.circuit.now) c.args.circuit.now c.is_few.ensures.sound) c.is_few.ensures.sound))

pub returns-in-Ok-clause-narrow : goal.returns-in-Ok-clause-narrow
returns-in-Ok-clause-narrow c =
    let (is, sound) = c.in-Ok.ensures in
    let few : length (subject_of c.args.k c.args.circuit.now).drives ≤ most_subject_signals = c.is_few.ensures.few.0 c.if-not-is_few.false in
    let splittable : IsSplittable c.args.k c.args.circuit.now = record { sound = c.is_few.ensures.sound; least = c.requires.least; names = c.requires.names; few = few } in
    subst (λ (o : Plain). widest o.drives ≤ c.args.k) (sym (is ∙ c.in_ok-parts.ensures)) (subject_narrow c.args.k c.args.circuit.now splittable)

pub returns-in-Ok-clause-names : goal.returns-in-Ok-clause-names
returns-in-Ok-clause-names c =
    let (is, sound) = c.in-Ok.ensures in
    let few : length (subject_of c.args.k c.args.circuit.now).drives ≤ most_subject_signals = c.is_few.ensures.few.0 c.if-not-is_few.false in
    let splittable : IsSplittable c.args.k c.args.circuit.now = record { sound = c.is_few.ensures.sound; least = c.requires.least; names = c.requires.names; few = few } in
    subst (λ (o : Plain). HasNamesWithin 517 o) (sym (is ∙ c.in_ok-parts.ensures)) (subject_names_short c.args.k c.args.circuit.now splittable)

pub unreachable-requires : goal.unreachable-requires
unreachable-requires c =
    let few : length (subject_of c.args.k c.args.circuit.now).drives ≤ most_subject_signals = c.is_few.ensures.few.0 c.if-not-is_few.false in
    let splittable : IsSplittable c.args.k c.args.circuit.now = record { sound = c.is_few.ensures.sound; least = c.requires.least; names = c.requires.names; few = few } in
    c.in_default.not-NoMemory (refused_for_memory c.args.k c.args.circuit.now splittable c.in-Err.fault (subst (λ (o : Plain). IsBuilt o (Err c.in-Err.fault)) c.in_ok-parts.ensures c.in-Err.ensures))

pub returns-in-Ok-clause-fits : goal.returns-in-Ok-clause-fits
returns-in-Ok-clause-fits c =
    let (is, sound) = c.in-Ok.ensures in
    let few : length (subject_of c.args.k c.args.circuit.now).drives ≤ most_subject_signals = c.is_few.ensures.few.0 c.if-not-is_few.false in
    let splittable : IsSplittable c.args.k c.args.circuit.now = record { sound = c.is_few.ensures.sound; least = c.requires.least; names = c.requires.names; few = few } in
    subst (λ (o : Plain). FitsMapping o) (sym (is ∙ c.in_ok-parts.ensures)) (subject_fits c.args.k c.args.circuit.now splittable)
