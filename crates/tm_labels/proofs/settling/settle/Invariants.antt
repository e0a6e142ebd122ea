-- what is settled stays, and each turn takes something
use Rattle.std.proofs.Common.{true, length, replicate}
use Rattle.tm_labels.specs.Working.{IsTaskOf}
use Rattle.tm_labels.proofs.TurnLemmas.{left_of_work}
use Rattle.tm_labels.proofs.settling.settle.Given as goal

abbrev pub invariant-loop-work : goal.invariant-loop-work
invariant-loop-work l = IsTaskOf 0 l.circuit l.k l.d l.target (replicate (length l.circuit.drives) true) l.work

abbrev pub decreases-loop-work : goal.decreases-loop-work
decreases-loop-work l = left_of_work l.work
