-- the longest run in the clock's name and in the names so far
use Rattle.std.proofs.Common.{◌≡◌, map, max, take}
use Rattle.tm_circuit.specs.Plain.{greatest}
use Rattle.tm_circuit.specs.Sound.{clock_name}
use Rattle.tm_parts.specs.Runs.{longest_run}
use Rattle.tm_parts.proofs.runs.joiner.Given as goal

abbrev pub invariant-loop-s : goal.invariant-loop-s
invariant-loop-s l = l.longest ≡ max (greatest (map (longest_run l.wanted) (clock_name l.circuit.clock))) (greatest (map (longest_run l.wanted) (take l.s l.circuit.names)))
