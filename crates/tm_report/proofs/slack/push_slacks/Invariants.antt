-- the lines of the gates so far
use Rattle.std.proofs.Common.{◌≡◌, ◌++◌, map}
use Rattle.tm_report.proofs.Slacks.{slacks_below}
use Rattle.tm_report.proofs.slack.push_slacks.Given as goal

abbrev pub invariant-loop-s : goal.invariant-loop-s
invariant-loop-s l =
    map (λ line. line.items) l.lines.items ≡ map (λ line. line.items) l.initial.lines.items ++ slacks_below l.circuit l.onward l.period l.s
