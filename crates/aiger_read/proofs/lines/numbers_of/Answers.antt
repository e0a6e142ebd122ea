-- One word that is no number makes the line one without numbers.
use Rattle.std.proofs.Common.{ℕ, List, Bor, [], ◌∙◌, sym}
use Rattle.aiger_read.proofs.NumberLemmas.{numbers_refused, if_none}
use Rattle.aiger_read.proofs.lines.numbers_of.Goals as goal

no_word : Bor (List ℕ)
no_word = record { ref_ptr = (0, 0); now = [] }

pub returns-in_default : goal.returns-in_default
returns-in_default c =
    c.new.ensures.items ∙ sym (numbers_refused c.args.words.now c.loop-word.word-index _ c.loop-word-test.true (if_none c.number.result _ c.in_default.not-Some c.number.ensures.none))
