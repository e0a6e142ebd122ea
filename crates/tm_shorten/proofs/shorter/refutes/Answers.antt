-- drops with a fault do not replay
use Rattle.std.proofs.Common.{map}
use Rattle.tm_replay.specs.Replays.{drop_of}
use Rattle.tm_shorten.proofs.shorter.refutes.Goals as goal

pub returns-in-Fault : goal.returns-in-Fault
returns-in-Fault c =
    let one = c.one_fault.ensures 0 c.args.circuit.now c.args.k c.args.d c.args.target (map drop_of c.args.drops.now) c.requires.some in
    (λ no. cc, λ refutes. absurd (one.replayed_has_none c.in-Fault.field-0 refutes.replays (rw c.in-Fault.is at c.in_ok-labels.ensures)))
