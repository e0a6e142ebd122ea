use Rattle.std.proofs.Common.{◌<◌, ◌≤◌, get_or, sym, ◌∙◌, arith}
use Rattle.std.proofs.lemmas.List.{at_drop_more}
use Rattle.tm_bits.specs.declared.cover.Place.TheVariants.{Zero}
use Rattle.prime_cover.specs.Cubes.{order_from}
use Rattle.prime_cover.proofs.CubeLemmas.{order_fits, order_grows, rank_small}
use Rattle.prime_cover.proofs.cube.order_of.Goals as goal

pub overflow_mul-order : goal.overflow_mul-order
overflow_mul-order c =
    let small : c.loop-place.order < 2187 = order_fits c.loop-place.place-index c.loop-place.order (omega arith) c.loop-place.invariant.below in
    omega arith

pub overflow_add-order : goal.overflow_add-order
overflow_add-order c =
    let small : c.loop-place.order < 2187 = order_fits c.loop-place.place-index c.loop-place.order (omega arith) c.loop-place.invariant.below in
    let rank : c.rank_of.result ≤ 2 = rw c.rank_of.ensures (rank_small (get_or c.args.places.now c.loop-place.place-index Zero)) in
    omega arith

pub loop-place-preserved : goal.loop-place-preserved
loop-place-preserved c =
    let rank : c.rank_of.result ≤ 2 = rw c.rank_of.ensures (rank_small (get_or c.args.places.now c.loop-place.place-index Zero)) in
    let next = at_drop_more (order_from c.loop-place.order) c.args.places.now c.loop-place.place-index Zero c.loop-place-test.true in
    record {
      goes_on = rw c.rank_of.ensures (sym next ∙ c.loop-place.invariant.goes_on);
      below = order_grows c.loop-place.place-index c.loop-place.order c.rank_of.result (omega arith) rank c.loop-place.invariant.below;
    }
