-- Each digit makes the value ten times as much, and more; a value past 64 bits stays past them.
use Rattle.std.proofs.Common.{◌≡◌, ◌*◌, ◌+◌, ◌-◌, get_or, arith, sym, ◌∙◌}
use Rattle.aiger_read.proofs.NumberLemmas.{not_digits, digits_next, too_much, some_told, some_fits, none_told}
use Rattle.aiger_read.proofs.lines.digits.Goals as goal

pub returns-then-not-is_ascii_digit-clause-none : goal.returns-then-not-is_ascii_digit-clause-none
returns-then-not-is_ascii_digit-clause-none c =
    λ all. absurd (not_digits c.args.word.now c.loop-byte.byte-index c.loop-byte-test.true (sym c.is_ascii_digit.ensures.value ∙ c.if-not-is_ascii_digit.true) all)

pub returns-in_err-checked_mul-clause-none : goal.returns-in_err-checked_mul-clause-none
returns-in_err-checked_mul-clause-none c =
    let refused = none_told _ _ _ c.checked_mul.ensures c.in_err-checked_mul.was in
    rw c.from_residual.ensures (λ all. too_much c.args.word.now c.loop-byte.byte-index c.loop-byte.value c.loop-byte-test.true
    (sym c.is_ascii_digit.ensures.value ∙ c.if-not-is_ascii_digit.false) c.loop-byte.invariant.1 (λ below. refused (omega (arith, below))))

pub returns-in_err-value-clause-none : goal.returns-in_err-value-clause-none
returns-in_err-value-clause-none c =
    let refused = none_told _ _ _ c.checked_add.ensures c.in_err-value.was in
    let product : c.in_ok-checked_mul.field-0 ≡ c.loop-byte.value * 10 = some_told _ _ _ _ c.checked_mul.ensures c.in_ok-checked_mul.was in
    let digit : c.from.result ≡ get_or c.args.word.now c.loop-byte.byte-index 0 - 48 = c.from.ensures in
    rw c.from_residual-in_err-value.ensures (λ all. too_much c.args.word.now c.loop-byte.byte-index c.loop-byte.value c.loop-byte-test.true
    (sym c.is_ascii_digit.ensures.value ∙ c.if-not-is_ascii_digit.false) c.loop-byte.invariant.1 (λ below. refused (omega (arith, below, product, digit))))

pub loop-byte-preserved : goal.loop-byte-preserved
loop-byte-preserved c =
    let product : c.in_ok-checked_mul.field-0 ≡ c.loop-byte.value * 10 = some_told _ _ _ _ c.checked_mul.ensures c.in_ok-checked_mul.was in
    let digit : c.from.result ≡ get_or c.args.word.now c.loop-byte.byte-index 0 - 48 = c.from.ensures in
    let next : c.in_ok-value.value ≡ c.in_ok-checked_mul.field-0 + c.from.result = some_told _ _ _ _ c.checked_add.ensures c.in_ok-value.was in
    let more = digits_next c.args.word.now c.loop-byte.byte-index c.loop-byte.value c.in_ok-value.value c.loop-byte-test.true
    (sym c.is_ascii_digit.ensures.value ∙ c.if-not-is_ascii_digit.false) (c.loop-byte.invariant.0, c.loop-byte.invariant.1) (omega (arith, next, product, digit)) in
    (more.0, more.1, let fits = some_fits _ _ _ _ c.checked_add.ensures c.in_ok-value.was in omega (arith, fits, next))
