use Rattle.std.proofs.Common.{List, length, map, sum, ap}
use Rattle.std.proofs.lemmas.Result.{err_from_is_err_and}
use Rattle.tm_bits.specs.declared.cover.Place.{Place}
use Rattle.blif_flat.proofs.SizeLemmas.{still_large, unpaid}
use Rattle.blif_flat.proofs.size.spend_rows.Goals as goal

pub returns-in_err-left : goal.returns-in_err-left
returns-in_err-left c =
    let p = err_from_is_err_and c.from_residual.result c.from_residual.ensures.1 in
    rw (p.1, p.2) (still_large _ c.loop-row.left c.args.room (length c.places.result.now) (sum (map (λ (r : List Place). length r) c.args.rows.now)) c.in_err-left.ensures
    (λ less. unpaid (λ (x : List Place). length x) c.args.rows.now c.loop-row.row-index c.row-item.result c.args.room c.loop-row.left (length c.places.result.now) c.loop-row-test.true c.row-item.is
    (ap (λ (x : List Place). length x) c.places.ensures) c.loop-row.invariant less))
