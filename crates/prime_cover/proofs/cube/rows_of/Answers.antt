use Rattle.std.proofs.Common.{◌≡◌, ◌≤◌, length, take, add-one, arith}
use Rattle.std.proofs.lemmas.List.{take_all}
use Rattle.prime_cover.proofs.CubeLemmas.{rows_narrowed}
use Rattle.prime_cover.proofs.cube.rows_of.Goals as goal

pub loop-index-preserved : goal.loop-index-preserved
loop-index-preserved c =
    rw (add-one c.loop-index.index)
    (rows_narrowed c.args.inputs c.args.places.now c.loop-index.index _ c.loop-index.rows c.where_bit-rows.result (omega arith) c.requires.width
    c.loop-index.invariant c.where_bit-rows.ensures)

pub returns : goal.returns
returns c =
    let ended : length c.args.places.now ≤ c.loop-index.index = omega arith in
    let all : take c.loop-index.index c.args.places.now ≡ c.args.places.now = take_all c.loop-index.index c.args.places.now ended in
    λ row. rw all at (c.loop-index.invariant row)
