-- A signal times few lags.
use Rattle.std.proofs.Common.{◌^◌, arith}
use Rattle.std.proofs.lemmas.Nat.{mul-lt}
use Rattle.tm_labels.proofs.lasts.Lasts.place.Goals as goal

pub overflow_mul-result : goal.overflow_mul-result
overflow_mul-result c =
    let product = mul-lt c.gate.inside.0 c.from.result (2 ^ 32) (2 ^ 16) (omega arith) (omega (arith, c.from.ensures)) in
    omega (arith, product)

pub overflow_add-result : goal.overflow_add-result
overflow_add-result c =
    let product = mul-lt c.gate.inside.0 c.from.result (2 ^ 32) (2 ^ 16) (omega arith) (omega (arith, c.from.ensures)) in
    omega (arith, product, c.from-2.ensures)
