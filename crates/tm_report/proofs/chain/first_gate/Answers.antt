-- what is behind a signal leaves room for one more
use Rattle.std.proofs.Common.{ap, refl, arith}
use Rattle.tm_report.specs.Onward.{onward_at}
use Rattle.tm_report.proofs.Readings.{onward_read, is_few}
use Rattle.tm_report.proofs.chain.first_gate.Goals as goal

pub overflow_add-begins : goal.overflow_add-begins
overflow_add-begins c =
    let s = c.loop-s.s in
    let read = onward_read c.args.onward.now s s c.index-onward-s.result (omega (arith, c.requires.sized, c.signals-s-end.ensures.count)) refl c.index-onward-s.is in
    let few = is_few c.args.circuit.now (onward_at c.args.onward.now s).gates s c.signals-s-end.ensures.sound (c.requires.bounded s) in
    omega (arith, few, ap (λ o. o.gates) read, ap (λ o. o.gates) c.index-onward-s.is)
