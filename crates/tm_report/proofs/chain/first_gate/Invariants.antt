-- no signal so far begins a longest chain
use Rattle.std.proofs.Common.{ℕ, ◌<◌}
use Rattle.tm_report.specs.Onward.{BeginsLongest}
use Rattle.tm_report.proofs.chain.first_gate.Given as goal

abbrev pub invariant-loop-s : goal.invariant-loop-s
invariant-loop-s l = (t : ℕ) → t < l.s → ¬ BeginsLongest l.circuit l.onward l.period t
