-- the first registers of the signals so far
use Rattle.tm_net.proofs.NumberLemmas.{AreFirstsBelow}
use Rattle.tm_net.proofs.numbers.first_registers.Given as goal

abbrev pub invariant-loop-place : goal.invariant-loop-place
invariant-loop-place l = AreFirstsBelow l.inputs l.lows l.ends l.place l.firsts.items l.next
