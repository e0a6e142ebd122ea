use Rattle.std.proofs.Common.{◌≡◌, ◌∙◌, arith, true, false, Some, sym}
use Rattle.blif_lex.specs.Spans.{nth_line}
use Rattle.blif_models.specs.Statement.{is_row_of, differs, output_of}
use Rattle.blif_models.specs.Words.{IsRowOf}
use Rattle.blif_models.proofs.RowLemmas.{differs-beq, bad_row, mixed_row, read_row, all_read}
use Rattle.blif_models.proofs.rows.cover_of.Goals as goal

pub returns-in_default-clause-fault : goal.returns-in_default-clause-fault
returns-in_default-clause-fault c =
    let bad : is_row_of c.args.pins (nth_line c.args.lines.now c.loop-line.line).words ≡ false
    = rw (← c.words.ensures.words) (rw c.in_default.is at c.in_ok-row.ensures) in
    rw (c.at.ensures, c.number.ensures, ← c.first_output-on.ensures)
    (bad_row c.args.pins c.first_output-on.result c.args.lines.now c.args.start c.loop-line.line c.args.end _ c.loop-line.invariant
    (omega arith) c.requires.within bad)

pub returns-then-on-output-clause-fault : goal.returns-then-on-output-clause-fault
returns-then-on-output-clause-fault c =
    let row = nth_line c.args.lines.now c.loop-line.line in
    let found : IsRowOf (Some c.in-Some.field-0) c.args.pins row.words = rw (← c.words.ensures.words) (rw c.in-Some.is at c.in_ok-row.ensures) in
    let mixed : differs c.first_output-on.result (output_of row.words) ≡ true
    = sym (differs-beq c.first_output-on.result (output_of row.words)) ∙ rw (← found.2) c.if-on-output.true in
    rw (c.at-then-on-output.ensures, c.number-then-on-output.ensures, ← c.first_output-on.ensures)
    (mixed_row c.args.pins c.first_output-on.result c.args.lines.now c.args.start c.loop-line.line c.args.end _ c.loop-line.invariant
    (omega arith) c.requires.within found.0 mixed)

pub loop-line-preserved : goal.loop-line-preserved
loop-line-preserved c =
    let row = nth_line c.args.lines.now c.loop-line.line in
    let found : IsRowOf (Some c.in-Some.field-0) c.args.pins row.words = rw (← c.words.ensures.words) (rw c.in-Some.is at c.in_ok-row.ensures) in
    let same : differs c.first_output-on.result (output_of row.words) ≡ false
    = sym (differs-beq c.first_output-on.result (output_of row.words)) ∙ rw (← found.2) c.if-on-output.false in
    rw (c.in_ok-push.ensures.items, found.1)
    (read_row c.args.pins c.first_output-on.result c.args.lines.now c.args.start c.loop-line.line c.args.end _ c.loop-line.invariant
    (omega arith) c.requires.within found.0 same)

pub returns-clause-lawful : goal.returns-clause-lawful
returns-clause-lawful c =
    let done : c.loop-line.line ≡ c.args.end = omega arith in
    rw (← c.first_output-on.ensures) (all_read c.args.pins c.first_output-on.result c.args.lines.now c.args.start c.args.end c.loop-line.rows.items
    (rw done at c.loop-line.invariant))
