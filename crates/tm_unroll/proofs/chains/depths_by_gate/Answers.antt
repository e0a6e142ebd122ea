-- the gates of the tables are signals
use Rattle.std.proofs.Common.{arith}
use Rattle.tm_unroll.proofs.PlaceLemmas.{gates_within}
use Rattle.tm_unroll.proofs.chains.depths_by_gate.Goals as goal

pub places_by_gate-requires-clause-within : goal.places_by_gate-requires-clause-within
places_by_gate-requires-clause-within c i lut inside =
    let low = gates_within c.args.circuit.now c.args.luts.now c.requires.mapping i lut inside in
    omega (arith, low, c.signals-signals.ensures.count)
