use Rattle.std.proofs.Common.{◌≡◌, ◌∙◌, arith, true, sym, length, ◌<◌}
use Rattle.blif_lex.specs.Spans.{nth_line}
use Rattle.blif_models.specs.Statement.{is_row}
use Rattle.blif_models.proofs.BlockLemmas.{passed}
use Rattle.blif_models.proofs.statements.rows_end.Goals as goal

pub loop-end-preserved : goal.loop-end-preserved
loop-end-preserved c =
    let inside : c.loop-end.end < length c.args.lines.now = omega arith in
    let row : is_row (nth_line c.args.lines.now c.loop-end.end) ≡ true
    = rw (← c.words.ensures.words) (sym c.begins_row.ensures ∙ c.if-begins_row.true) in
    passed c.args.lines.now c.args.start c.loop-end.end c.loop-end.invariant inside row
