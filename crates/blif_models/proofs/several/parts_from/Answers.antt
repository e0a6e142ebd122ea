use Rattle.std.proofs.Common.{◌≡◌, ◌∷◌, ◌<◌, ◌∙◌, ap, sym, arith, length, drop, Some, None, true, false}
use Rattle.std.proofs.lemmas.List.{map-append}
use Rattle.std.proofs.lemmas.Result.{err_from_is_err_and}
use Rattle.blif_lex.specs.Spans.{nth_line}
use Rattle.blif_unit.specs.Unit.{told_of}
use Rattle.blif_models.specs.Statement.{blocks_of, is_model, keyword_in}
use Rattle.blif_models.specs.Words.{block_at}
use Rattle.blif_models.proofs.BlockLemmas.{first_block, keyword_read}
use Rattle.blif_models.proofs.SectionLemmas.{parts_more, part_broken, parts_done}
use Rattle.blif_models.proofs.several.parts_from.Goals as goal
use Rattle.blif_models.proofs.several.parts_from.Goals.{then-loop-line-test+else-not-begins_model, else-loop-line-test}

pub returns-in_err-what-clause-fault : goal.returns-in_err-what-clause-fault
returns-in_err-what-clause-fault c =
    let head = nth_line c.args.lines.now c.loop-line.line in
    let inside : c.loop-line.line < length c.args.lines.now = omega arith in
    let first : blocks_of (drop c.loop-line.line c.args.lines.now) ≡ block_at c.args.lines.now c.loop-line.line c.rows_end-end.result ∷ blocks_of (drop c.rows_end-end.result c.args.lines.now)
    = first_block c.args.lines.now c.loop-line.line c.rows_end-end.result inside (c.loop-line.invariant.stop inside) c.rows_end-end.ensures.rows c.rows_end-end.ensures.rest in
    let no : c.begins_model.result ≡ false = grind arith in
    let plain : is_model (keyword_in head) ≡ false = ap is_model (sym (keyword_read head c.words.result.now c.words.ensures.words)) ∙ sym c.begins_model.ensures ∙ no in
    let p = err_from_is_err_and c.from_residual.result c.from_residual.ensures.1 in
    rw (p.1, p.2) (part_broken _ c.args.lines.now c.args.start c.loop-line.line c.rows_end-end.result _ _ c.loop-line.invariant first plain c.in_err-what.ensures.fault)

pub loop-line-preserved-in_ok-push : goal.loop-line-preserved-in_ok-push
loop-line-preserved-in_ok-push c =
    let head = nth_line c.args.lines.now c.loop-line.line in
    let inside : c.loop-line.line < length c.args.lines.now = omega arith in
    let first : blocks_of (drop c.loop-line.line c.args.lines.now) ≡ block_at c.args.lines.now c.loop-line.line c.rows_end-end.result ∷ blocks_of (drop c.rows_end-end.result c.args.lines.now)
    = first_block c.args.lines.now c.loop-line.line c.rows_end-end.result inside (c.loop-line.invariant.stop inside) c.rows_end-end.ensures.rows c.rows_end-end.ensures.rest in
    let no : c.begins_model.result ≡ false = grind arith in
    let plain : is_model (keyword_in head) ≡ false = ap is_model (sym (keyword_read head c.words.result.now c.words.ensures.words)) ∙ sym c.begins_model.ensures ∙ no in
    rw (c.in_ok-push.ensures.items, map-append, c.number.ensures)
    (parts_more (Some (told_of c.in-Some.what)) c.args.lines.now c.args.start c.loop-line.line c.rows_end-end.result _ _ _ c.loop-line.invariant first plain
    c.in_ok-what.ensures.lawful c.in_ok-what.ensures.seen (rw c.in-Some.is at c.in_ok-what.ensures.told) (omega (arith, c.rows_end-end.ensures.order)) c.rows_end-end.ensures.within c.rows_end-end.ensures.stop)

pub loop-line-preserved : goal.loop-line-preserved
loop-line-preserved c =
    let head = nth_line c.args.lines.now c.loop-line.line in
    let inside : c.loop-line.line < length c.args.lines.now = omega arith in
    let first : blocks_of (drop c.loop-line.line c.args.lines.now) ≡ block_at c.args.lines.now c.loop-line.line c.rows_end-end.result ∷ blocks_of (drop c.rows_end-end.result c.args.lines.now)
    = first_block c.args.lines.now c.loop-line.line c.rows_end-end.result inside (c.loop-line.invariant.stop inside) c.rows_end-end.ensures.rows c.rows_end-end.ensures.rest in
    let no : c.begins_model.result ≡ false = grind arith in
    let plain : is_model (keyword_in head) ≡ false = ap is_model (sym (keyword_read head c.words.result.now c.words.ensures.words)) ∙ sym c.begins_model.ensures ∙ no in
    parts_more None c.args.lines.now c.args.start c.loop-line.line c.rows_end-end.result _ _ _ c.loop-line.invariant first plain
    c.in_ok-what.ensures.lawful c.in_ok-what.ensures.seen (rw c.in_default.is at c.in_ok-what.ensures.told) (omega (arith, c.rows_end-end.ensures.order)) c.rows_end-end.ensures.within c.rows_end-end.ensures.stop

pub returns-clause-parts : goal.returns-clause-parts
returns-clause-parts c =
    parts_done c.args.lines.now c.args.start c.loop-line.line _ _ c.loop-line.invariant
    (λ inside. elim c.loop-line-test.branch [
      | then-loop-line-test+else-not-begins_model w ↦
          let yes : w.begins_model.result ≡ true = grind arith in
          ap is_model (sym (keyword_read (nth_line c.args.lines.now c.loop-line.line) w.words.result.now w.words.ensures.words)) ∙ sym w.begins_model.ensures ∙ yes
      | else-loop-line-test w ↦ absurd (omega arith)
    ])
