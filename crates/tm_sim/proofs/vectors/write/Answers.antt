-- The rows up to here, with one row more, and what is written reads back.
use Rattle.std.proofs.Common.{◌≡◌, [], ◌∷◌, ◌++◌, take, get_or, sym, ap, ◌∙◌, arith}
use Rattle.std.proofs.lemmas.List.{take_more, take_all, flat_map_more}
use Rattle.std.proofs.lemmas.Option.{get_or_from_slice_get}
use Rattle.tm_sim.specs.Vectors.{line_of, text_of, vectors_of}
use Rattle.tm_sim.proofs.LineLemmas.{text-again}
use Rattle.tm_sim.proofs.vectors.write.Goals as goal

pub loop-step-preserved : goal.loop-step-preserved
loop-step-preserved c =
    let rows = c.args.vectors.now.rows in
    let step = c.loop-step.step in
    let row = c.row.result.now in
    let is : get_or rows step [] ≡ row = get_or_from_slice_get rows step row [] c.row.ensures in
    c.in_ok-push_line.ensures ∙ ap (λ text. text ++ line_of row) c.loop-step.invariant
    ∙ flat_map_more line_of [] (take step rows) row
    ∙ ap text_of (ap (λ last. take step rows ++ last ∷ []) (sym is) ∙ sym (take_more rows step [] (omega arith)))

pub returns-clause-again : goal.returns-clause-again
returns-clause-again c =
    let grid = c.args.vectors.now in
    let whole = take_all c.loop-step.step grid.rows (omega arith) in
    ap (vectors_of grid.width) (c.loop-step.invariant ∙ ap text_of whole) ∙ text-again grid.width grid.rows c.width.ensures.even
