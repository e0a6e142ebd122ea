-- The first LF parts the first line from what follows it.
use Rattle.std.proofs.Common.{◌≡◌, ℕ, ◌+◌, ◌-◌, length, take, drop, eqb, sym, ◌∙◌, arith}
use Rattle.std.proofs.lemmas.List.{take_all, length-drop}
use Rattle.aiger_read.proofs.Lists.{one_piece, first_piece}
use Rattle.aiger_read.proofs.lines.cut_line.Goals as goal

pub returns-in_err-end-clause-none : goal.returns-in_err-end-clause-none
returns-in_err-end-clause-none c =
    rw c.from_residual.ensures (one_piece (λ (b : ℕ). eqb b 10) c.args.text.now (sym c.line_end.ensures ∙ c.in_err-end.was))

pub returns-clause-some : goal.returns-clause-some
returns-clause-some c =
    let text = c.args.text.now in
    let end = c.in_ok-end.end in
    let found = first_piece (λ (b : ℕ). eqb b 10) text end 0 (sym c.line_end.ensures ∙ c.in_ok-end.was) in
    let whole : take (length text - (end + 1)) (drop (end + 1) text) ≡ drop (end + 1) text = take_all (length text - (end + 1)) (drop (end + 1) text) (omega (arith, length-drop (end + 1) text)) in
    rw whole found.0
