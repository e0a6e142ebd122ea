-- the guess is within the bounds
use Rattle.std.proofs.Common.{◌≤◌, ◌-◌}
use Rattle.tm_search.proofs.least.guess.Given as goal

abbrev pub invariant-loop-low : goal.invariant-loop-low
invariant-loop-low l = record { order : l.low ≤ l.high; most : l.high ≤ l.most }

abbrev pub decreases-loop-low : goal.decreases-loop-low
decreases-loop-low l = l.high - l.low
