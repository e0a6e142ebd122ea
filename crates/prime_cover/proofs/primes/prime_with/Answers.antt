use Rattle.std.proofs.lemmas.Bool.{MatchBool-at_true, MatchBool-at_false}
use Rattle.prime_cover.proofs.GrowLemmas.{grown_start, grown_wider, grown_kept, grown_prime}
use Rattle.prime_cover.proofs.primes.prime_with.Goals as goal
use Rattle.prime_cover.proofs.primes.prime_with.Goals.{then-is_within, else-is_within}

pub loop-place-init : goal.loop-place-init
loop-place-init c =
    let cube = c.of_row-cube.result in
    grown_start c.args.table.now.inputs c.args.table.now.words c.args.row cube c.of_row-cube.ensures.inputs c.of_row-cube.ensures.places c.requires.below
    c.requires.one

pub loop-place-preserved : goal.loop-place-preserved
loop-place-preserved c =
    let table = c.args.table.now in
    let freed = c.freed-freed in
    elim c.if-is_within.branch [
      | then-is_within w ↦
          rw w.cube-is
          (grown_wider table.inputs table.words c.args.row c.loop-place.place c.loop-place.cube freed.result c.loop-place.invariant freed.ensures.inputs
          freed.ensures.places (MatchBool-at_true _ _ w.if-is_within.true c.is_within.ensures))
      | else-is_within w ↦
          let outside = MatchBool-at_false _ _ w.if-is_within.false c.is_within.ensures in
          rw w.cube-is
          (grown_kept table.inputs table.words c.args.row c.loop-place.place c.loop-place.cube freed.result c.loop-place.invariant freed.ensures.inputs
          freed.ensures.places outside.0 outside.1 outside.2)
    ]

pub returns : goal.returns
returns c =
    record {
      prime =
          grown_prime c.args.table.now.inputs c.args.table.now.words c.args.row c.loop-place.place c.loop-place.cube c.loop-place-test.false
          c.loop-place.invariant;
      has = c.loop-place.invariant.had;
    }
