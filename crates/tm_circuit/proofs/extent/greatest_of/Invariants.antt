-- the greatest so far
use Rattle.std.proofs.Common.{◌≡◌, take}
use Rattle.tm_circuit.specs.Plain.{greatest}
use Rattle.tm_circuit.proofs.extent.greatest_of.Given as goal

abbrev pub invariant-loop-number : goal.invariant-loop-number
invariant-loop-number l = l.most ≡ greatest (take l.number-index l.numbers)
