use Rattle.std.proofs.Common.{List, ℕ, length, ap}
use Rattle.std.proofs.lemmas.Result.{err_from_is_err_and}
use Rattle.blif_flat.specs.Size.{bytes_of}
use Rattle.blif_flat.proofs.SizeLemmas.{still_large, unpaid}
use Rattle.blif_flat.proofs.size.spend_own.Goals as goal

pub returns-in_err-left : goal.returns-in_err-left
returns-in_err-left c =
    let p = err_from_is_err_and c.from_residual.result c.from_residual.ensures.1 in
    rw (p.1, p.2) (still_large _ c.loop-name.left c.args.room (length c.bytes.result.now) (bytes_of c.args.names.now) c.in_err-left.ensures
    (λ less. unpaid (λ (x : List ℕ). length x) c.args.names.now c.loop-name.name-index c.name-item.result c.args.room c.loop-name.left (length c.bytes.result.now) c.loop-name-test.true c.name-item.is
    (ap (λ (x : List ℕ). length x) c.bytes.ensures) c.loop-name.invariant less))
