use Rattle.std.proofs.Common.{◌≡◌, ◌<◌, ◌∙◌, [], false, sym, subst, arith, length, take_while}
use Rattle.std.proofs.lemmas.List.{map-append}
use Rattle.std.proofs.lemmas.Result.{err_from_is_err_and}
use Rattle.blif_lex.specs.Spans.{nth_line}
use Rattle.blif_models.specs.Statement.{is_row}
use Rattle.blif_models.proofs.BlockLemmas.{range_none}
use Rattle.blif_models.proofs.SectionLemmas.{top_faulty, head_broken, parts_broken, models_more, models_done}
use Rattle.blif_models.proofs.several.models_of.Goals as goal

pub returns-in_err-body-clause-fault : goal.returns-in_err-body-clause-fault
returns-in_err-body-clause-fault c =
    let zero : c.rows_end.result ≡ 0 = omega arith in
    let none : take_while is_row c.args.lines.now ≡ [] = sym c.rows_end.ensures.rows ∙ range_none c.args.lines.now 0 c.rows_end.result (omega arith) in
    let row : 0 < length c.args.lines.now → is_row (nth_line c.args.lines.now 0) ≡ false
    = λ some. subst (λ n. is_row (nth_line c.args.lines.now n) ≡ false) zero (c.rows_end.ensures.stop (omega (arith, some))) in
    let p = err_from_is_err_and c.from_residual.result c.from_residual.ensures.1 in
    rw (p.1, p.2) (top_faulty _ c.args.lines.now none row c.in_err-body.ensures.fault)

pub returns-in_err-name-clause-fault : goal.returns-in_err-name-clause-fault
returns-in_err-name-clause-fault c =
    let p = err_from_is_err_and c.from_residual-in_err-name.result c.from_residual-in_err-name.ensures.1 in
    rw (p.1, p.2) (head_broken _ c.args.lines.now c.loop-line.line _ _ c.loop-line.invariant (omega arith) c.in_err-name.ensures.fault)

pub returns-in_err-body-2-clause-fault : goal.returns-in_err-body-2-clause-fault
returns-in_err-body-2-clause-fault c =
    let p = err_from_is_err_and c.from_residual-in_err-body-2.result c.from_residual-in_err-body-2.ensures.1 in
    rw (p.1, p.2) (parts_broken _ c.args.lines.now c.loop-line.line _ _ _ c.loop-line.invariant (omega arith) c.in_ok-name.ensures.name c.in_err-body-2.ensures.fault)

pub loop-line-preserved : goal.loop-line-preserved
loop-line-preserved c =
    rw (c.in_ok-push.ensures.items, map-append, c.in_ok-name.ensures.names, c.number-in-loop-line.ensures, c.in_ok-name-2.ensures)
    (models_more c.args.lines.now c.loop-line.line _ _ _ _ _ c.loop-line.invariant (omega arith) c.in_ok-name.ensures.name c.in_ok-body-2.ensures.parts)

pub returns-clause-models : goal.returns-clause-models
returns-clause-models c =
    models_done c.args.lines.now c.loop-line.line _ _ c.loop-line.invariant (omega arith)
