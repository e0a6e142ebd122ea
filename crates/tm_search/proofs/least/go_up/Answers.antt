-- A refuted target is below the circuit's period, so that the loop does not end there.
use Rattle.std.proofs.Common.{suc, arith}
use Rattle.tm_search.proofs.LeastLemmas.{refuted_target}
use Rattle.tm_search.proofs.least.go_up.Goals as goal

pub unreachable-requires : goal.unreachable-requires
unreachable-requires c =
    let below = refuted_target c.args.base c.args.circuit.now c.args.k c.args.d (suc c.loop-alloc.below.target) c.args.most c.loop-alloc.below c.signals-sound.ensures.sound
    c.requires.near.0 c.requires.narrow c.requires.period c.loop-alloc.invariant in
    let past = c.loop-alloc-test.false in
    let same = c.target.ensures in
    omega (arith, below, past, same)
