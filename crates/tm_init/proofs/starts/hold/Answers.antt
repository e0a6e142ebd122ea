-- An input or a latch comes before all gates.
use Rattle.std.proofs.Common.{arith}
use Rattle.tm_init.proofs.PassLemmas.{held-inside, holding-more, holding-end}
use Rattle.tm_init.proofs.starts.hold.Goals as goal

pub drive-requires-clause-signal : goal.drive-requires-clause-signal
drive-requires-clause-signal c = omega (arith, held-inside c.args.circuit.now)

pub loop-signal-preserved : goal.loop-signal-preserved
loop-signal-preserved c =
    holding-more c.args.circuit.now c.requires.room.sound c.loop-signal.signal c.args.step c.loop-signal.bytes c.drive.new.bytes c.requires.room.near (omega arith) c.drive.ensures c.loop-signal.invariant

pub returns-clause-held : goal.returns-clause-held
returns-clause-held c =
    holding-end c.args.circuit.now c.loop-signal.signal c.args.step c.loop-signal.bytes (omega arith) c.loop-signal.invariant
