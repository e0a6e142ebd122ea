use Rattle.turbomap.specs.Command.{spoken}
use Rattle.turbomap.proofs.Lines.{one_said}
use Rattle.turbomap.proofs.say.tell.Goals as goal

pub returns : goal.returns
returns g c =
    one_said (spoken g.W.Say.said g.W.Say.faults c.args.say.now c.line.new.self) c.args.line.now c.line.result
    (rw c.as_bytes.ensures.value at c.line.ensures.whole) (rw c.as_bytes.ensures.value at c.line.ensures.part) c.line.ensures.cause
