use Rattle.tm_init.proofs.PassLemmas.{IsHolding}
use Rattle.tm_init.proofs.starts.hold.Given as goal

-- the inputs and latches up to here have their bits
abbrev pub invariant-loop-signal : goal.invariant-loop-signal
invariant-loop-signal l = IsHolding l.circuit l.step l.signal l.bytes
