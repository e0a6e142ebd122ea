use Rattle.tm_sim.proofs.SettleLemmas.{IsSettling}
use Rattle.tm_sim.proofs.machine.settle.Given as goal

-- the gates up to here have their values
abbrev pub invariant-loop-gate : goal.invariant-loop-gate
invariant-loop-gate l = IsSettling l.circuit l.gate-items l.gate-index l.initial.values l.values
