-- the gates from the place on were looked at
use Rattle.std.proofs.Common.{drop}
use Rattle.tm_report.specs.Onward.{IsSwept}
use Rattle.tm_report.proofs.onward.onward_of.Given as goal

abbrev pub invariant-loop-place : goal.invariant-loop-place
invariant-loop-place l = IsSwept l.circuit (drop l.place l.order) l.onward.items
