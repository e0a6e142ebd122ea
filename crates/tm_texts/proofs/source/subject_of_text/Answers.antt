use Rattle.std.proofs.Common.{arith}
use Rattle.std.proofs.lemmas.Result.{IfOk-weaker, IfErr-weaker, err_from_is_err_and}
use Rattle.tm_texts.specs.Limits.{source_limits}
use Rattle.tm_texts.specs.Sources.{IsSubjectOf, IsMapFault, IsSubject, IsSplitFault}
use Rattle.tm_texts.proofs.SourceLemmas.{subject_of, split_fault, read_fault}
use Rattle.tm_texts.proofs.source.subject_of_text.Goals as goal

pub returns-in_err-source-clause-fault : goal.returns-in_err-source-clause-fault
returns-in_err-source-clause-fault c =
    let p = err_from_is_err_and c.from_residual.result c.from_residual.ensures.1 in
    rw (p.1, p.2) (read_fault c.args.k c.args.text.now _ c.in_err-source.ensures.fault)

pub split-requires-clause-names : goal.split-requires-clause-names
split-requires-clause-names c = c.short_names.ensures source_limits c.args.text.now c.in_ok-source.source (omega arith) c.in_ok-source.ensures.circuit

pub returns-clause-subject : goal.returns-clause-subject
returns-clause-subject c =
    let text = c.args.text.now in
    let source = c.in_ok-source.source in
    IfOk-weaker c.split.result (IsSubject c.args.k source) (IsSubjectOf c.args.k text)
    (λ subject is. subject_of c.args.k text source subject c.in_ok-source.ensures.circuit c.in_ok-source.ensures.meaning c.in_ok-source.ensures.sound is) c.split.ensures.subject

pub returns-clause-fault : goal.returns-clause-fault
returns-clause-fault c =
    let text = c.args.text.now in
    let source = c.in_ok-source.source in
    IfErr-weaker c.split.result (IsSplitFault c.args.k text source) (IsMapFault c.args.k text)
    (λ why is. split_fault c.args.k text source why c.in_ok-source.ensures.circuit is) c.split.ensures.fault
