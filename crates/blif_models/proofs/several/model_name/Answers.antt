use Rattle.std.proofs.Common.{◌≡◌, ◌+◌, ◌∙◌, ap, sym, arith, length, [], None, false, bytes_eq}
use Rattle.std.specs.List.{list_any}
use Rattle.std.proofs.lemmas.List.{length-drop, get_or-drop}
use Rattle.blif_lex.specs.Spans.{nth_line}
use Rattle.blif_models.specs.Sections.{head_at}
use Rattle.blif_models.specs.Several.{fault_in_model}
use Rattle.blif_models.specs.Statement.{further, word_at}
use Rattle.blif_models.specs.Words.{texts}
use Rattle.blif_models.proofs.BlockLemmas.{range_some}
use Rattle.blif_models.proofs.PartLemmas.{model_lawful, model_rows}
use Rattle.blif_models.proofs.WordLemmas.{length_texts}
use Rattle.blif_models.proofs.several.model_name.Goals as goal

pub returns-then-rows_end-line-clause-fault : goal.returns-then-rows_end-line-clause-fault
returns-then-rows_end-line-clause-fault c =
    let head = nth_line c.args.lines.now c.args.line in
    let whole : texts c.words-words.result.now ≡ head.words = c.words-words.ensures.words in
    let count : length head.words ≡ length c.words-words.result.now = ap length (sym whole) ∙ length_texts c.words-words.result.now in
    let one : length (further head) ≡ 1 = omega (arith, count, length-drop 1 head.words) in
    let name : word_at (further head) 0 ≡ c.word-name.result.now = get_or-drop 1 head.words 0 [] ∙ ap (λ ws. word_at ws 1) (sym whole) ∙ sym c.word-name.ensures in
    let fresh : list_any (bytes_eq c.word-name.result.now) c.args.names.now ≡ false = grind arith in
    let lawful : fault_in_model c.args.names.now (further head) ≡ None = model_lawful c.args.names.now (further head) one (ap (λ n. list_any (bytes_eq n) c.args.names.now) name ∙ fresh) in
    rw (c.at-then-rows_end-line.ensures, c.number.ensures)
    (model_rows c.args.names.now (head_at c.args.lines.now c.args.line) _ _ lawful
    (sym c.rows_end.ensures.rows ∙ range_some c.args.lines.now (c.args.line + 1) c.rows_end.result (omega arith) c.rows_end.ensures.within))
