use Rattle.tm_init.proofs.PassLemmas.{IsSettling}
use Rattle.tm_init.proofs.starts.settle.Given as goal

-- the gates up to here have their bits
abbrev pub invariant-loop-gate : goal.invariant-loop-gate
invariant-loop-gate l = IsSettling l.circuit l.gate-items l.step l.gate-index l.bytes
