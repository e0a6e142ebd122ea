use Rattle.tm_init.proofs.StartLemmas.{IsUnderWay}
use Rattle.tm_init.proofs.starts.first_steps.Given as goal

-- the steps up to here are there
abbrev pub invariant-loop-step : goal.invariant-loop-step
invariant-loop-step l = IsUnderWay l.circuit l.step l.bytes.items l.read.items
