-- The last line, with nothing behind it.
use Rattle.std.proofs.Common.{◌≡◌, ◌<◌, length, [], ◌∷◌, ap, ◌∙◌, arith}
use Rattle.std.proofs.lemmas.Bool.Decides.{nat_tests}
use Rattle.std.proofs.lemmas.List.{nil_from_length}
use Rattle.std.proofs.lemmas.Result.{err_from_is_err_and}
use Rattle.cert_text.specs.declared.keyword.Keyword.TheVariants as keywords
use Rattle.cert_text.specs.Faults.{later, pieces_of}
use Rattle.cert_text.proofs.StepLemmas.{takes_line, behind_end}
use Rattle.cert_text.proofs.ReadLemmas.{end_lawful}
use Rattle.cert_text.proofs.reading.end_due.Goals as goal

pub returns-in_err-_words-clause-fault : goal.returns-in_err-_words-clause-fault
returns-in_err-_words-clause-fault c =
    let p = err_from_is_err_and c.from_residual.result c.from_residual.ensures.1 in
    rw (p.1, p.2) (c.in_err-_words.ensures.fault [])

pub returns-then-is_empty-clause-ends : goal.returns-then-is_empty-clause-ends
returns-then-is_empty-clause-ends c =
    let line = c.in_ok-_words.ensures.line in
    let rest = c.in_ok-_words.after.rest.now in
    let none : rest ≡ [] = nil_from_length rest (grind (arith, nat_tests)) in
    let whole : pieces_of c.args.lines.rest.now ≡ line.line ∷ ([] ∷ []) = line.whole ∙ ap (λ r. line.line ∷ pieces_of r) none in
    record { line = line.line; taken = takes_line (later keywords.End) (pieces_of c.args.lines.rest.now) line.line ([] ∷ []) whole (omega arith) (end_lawful _ _ _ line) }

pub returns-clause-fault : goal.returns-clause-fault
returns-clause-fault c =
    let line = c.in_ok-_words.ensures.line in
    let rest = c.in_ok-_words.after.rest.now in
    let some : 0 < length rest = grind (arith, nat_tests) in
    rw c.at.ensures (behind_end (later keywords.End) (pieces_of c.args.lines.rest.now) line.line rest c.args.lines.number c.in_ok-_words.after.number line.whole some (end_lawful _ _ _ line) c.in_ok-_words.ensures.number)
