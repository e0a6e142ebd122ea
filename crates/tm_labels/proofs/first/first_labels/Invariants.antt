-- the first labels of the signals so far
use Rattle.std.proofs.Common.{◌≡◌, take}
use Rattle.tm_replay.specs.Labels.{first_labels}
use Rattle.tm_labels.proofs.first.first_labels.Given as goal

abbrev pub invariant-loop-s : goal.invariant-loop-s
invariant-loop-s l = l.labels.items ≡ take l.s (first_labels l.circuit.drives l.d l.target)
