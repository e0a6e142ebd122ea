use Rattle.std.proofs.Common.{◌≡◌, ◌++◌, length}
use Rattle.aiger_read.specs.Lines.{lines_of}
use Rattle.aiger_read.specs.Steps.{texts}
use Rattle.aiger_read.proofs.lines.lines_of.Given as goal

-- the lines up to here are taken
abbrev pub invariant-loop-line : goal.invariant-loop-line
invariant-loop-line l = lines_of l.text ≡ texts l.lines.items ++ lines_of l.rest

abbrev pub decreases-loop-line : goal.decreases-loop-line
decreases-loop-line l = length l.rest
