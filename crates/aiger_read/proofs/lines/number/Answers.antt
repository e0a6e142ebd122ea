-- What is a number, and what is none.
use Rattle.std.proofs.Common.{◌<◌, length, sym, ◌∙◌, arith}
use Rattle.std.proofs.lemmas.Bool.{both_ways}
use Rattle.std.proofs.lemmas.Bool.Decides.{nat_tests}
use Rattle.aiger_read.proofs.NumberLemmas.{number-no, number_told, number_refused}
use Rattle.aiger_read.proofs.lines.number.Goals as goal
use Rattle.aiger_read.proofs.lines.number.Goals.{then-is_empty-via-then-is_empty, then-is_empty-via-else-is_empty+then-has_leading_zero}

pub returns-then-is_empty-clause-none : goal.returns-then-is_empty-clause-none
returns-then-is_empty-clause-none c =
    let word = c.args.word.now in
    elim c.then-is_empty.branch [
      | then-is_empty-via-then-is_empty w ↦
          number-no word (λ is. let some : 0 < length word = is.some in grind (arith, nat_tests, w.if-is_empty.true, c.is_empty.ensures))
      | then-is_empty-via-else-is_empty+then-has_leading_zero w ↦
          number-no word (λ is. both_ways _ is.plain (sym w.has_leading_zero.ensures ∙ w.if-has_leading_zero.true))
    ]

pub returns-clause-some : goal.returns-clause-some
returns-clause-some c =
    let some : 0 < length c.args.word.now = grind (arith, nat_tests, c.if-is_empty.false, c.is_empty.ensures) in
    number_told c.args.word.now c.digits.result some (sym c.has_leading_zero.ensures ∙ c.if-has_leading_zero.false) c.digits.ensures.some c.digits.ensures.small

pub returns-clause-none : goal.returns-clause-none
returns-clause-none c = number_refused c.args.word.now c.digits.result c.digits.ensures.none
