use Rattle.std.proofs.Common.{◌∙◌, ap, arith, bytes_eq, codes}
use Rattle.blif_models.proofs.RowLemmas.{first_on}
use Rattle.blif_models.proofs.rows.first_output.Goals as goal

pub returns : goal.returns
returns c = c.eq.ensures ∙ ap (λ a. bytes_eq c.word.result.now a) c.as_slice.ensures ∙ ap (λ w. bytes_eq w (codes "1")) c.word.ensures
    ∙ first_on c.args.lines.now c.args.start c.args.end c.words-words.result.now (omega arith) c.requires.within c.words-words.ensures.words
