use Rattle.prime_cover.proofs.SetLemmas.{kept_where_one, kept_where_zero}
use Rattle.prime_cover.proofs.sets.where_bit.Goals as goal

pub returns-in-Zero : goal.returns-in-Zero
returns-in-Zero c =
    rw c.in-Zero.is
    (kept_where_zero c.args.bit c.rows_of_bit.result c.args.set.now c.difference.result c.told-set c.rows_of_bit.ensures c.difference.ensures)

pub returns-in-One : goal.returns-in-One
returns-in-One c =
    rw c.in-One.is
    (kept_where_one c.args.bit c.rows_of_bit-in-One.result c.args.set.now c.intersection.result c.told-set c.rows_of_bit-in-One.ensures c.intersection.ensures)
