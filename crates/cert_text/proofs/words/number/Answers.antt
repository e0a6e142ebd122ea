-- What is a number, and what is none.
use Rattle.std.proofs.Common.{◌≡◌, ◌<◌, false, length, refl, sym, ◌∙◌, arith}
use Rattle.std.proofs.lemmas.Bool.{both_ways}
use Rattle.std.proofs.lemmas.Bool.Decides.{nat_tests}
use Rattle.cert_text.specs.Words.{is_number}
use Rattle.cert_text.proofs.NumberLemmas.{number-yes, number-no}
use Rattle.cert_text.proofs.StepLemmas.{if_none}
use Rattle.cert_text.proofs.words.number.Goals as goal
use Rattle.cert_text.proofs.words.number.Goals.{then-is_empty-via-then-is_empty, then-is_empty-via-else-is_empty+then-has_leading_zero, in_default-via-in-Some+else-value-most, in_default-via-in_default}

pub returns-then-is_empty-clause-fault : goal.returns-then-is_empty-clause-fault
returns-then-is_empty-clause-fault c =
    let word = c.args.word.now in
    let test : is_number c.args.most word ≡ false =
    elim c.then-is_empty.branch [
      | then-is_empty-via-then-is_empty w ↦
          number-no c.args.most word (λ is. let some : 0 < length word = is.some in grind (arith, nat_tests, w.if-is_empty.true, c.is_empty.ensures))
      | then-is_empty-via-else-is_empty+then-has_leading_zero w ↦
          number-no c.args.most word (λ is. both_ways _ is.plain (sym w.has_leading_zero.ensures ∙ w.if-has_leading_zero.true))
    ] in
    rw c.at.ensures (refl, refl, test)

pub returns-in-Some-clause-told : goal.returns-in-Some-clause-told
returns-in-Some-clause-told c =
    let some : 0 < length c.args.word.now = grind (arith, nat_tests, c.if-is_empty.false, c.is_empty.ensures) in
    let told = c.in-Some.ensures.some in
    (number-yes c.args.most c.args.word.now (record { some = some; digits = told.0; plain = sym c.has_leading_zero.ensures ∙ c.if-has_leading_zero.false; within = omega (arith, told.1, c.if-value-most.true) }), told.1)

pub returns-in_default-clause-fault : goal.returns-in_default-clause-fault
returns-in_default-clause-fault c =
    let word = c.args.word.now in
    let test : is_number c.args.most word ≡ false =
    elim c.in_default.branch [
      | in_default-via-in-Some+else-value-most w ↦
          number-no c.args.most word (λ is. let told = w.in-Some.ensures.some in omega (arith, is.within, told.1, w.if-value-most.false))
      | in_default-via-in_default w ↦
          number-no c.args.most word (λ is. let past = if_none c.digits.result _ w.in_default.not-Some c.digits.ensures.none in omega (arith, is.within, past is.digits))
    ] in
    rw c.at-in_default.ensures (refl, refl, test)
