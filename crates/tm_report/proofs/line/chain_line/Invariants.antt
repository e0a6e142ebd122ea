-- the names of the gates so far
use Rattle.std.proofs.Common.{◌≡◌, take}
use Rattle.tm_report.specs.Report.{chain_line}
use Rattle.tm_report.proofs.line.chain_line.Given as goal

abbrev pub invariant-loop-gate : goal.invariant-loop-gate
invariant-loop-gate l = l.line.items ≡ chain_line l.circuit (take l.gate-index l.chain)
