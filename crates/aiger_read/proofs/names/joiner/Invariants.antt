use Rattle.std.proofs.Common.{◌≡◌, map, take}
use Rattle.tm_circuit.specs.Plain.{greatest}
use Rattle.aiger_read.specs.Names.{run_in}
use Rattle.aiger_read.specs.Steps.{maybe_texts}
use Rattle.aiger_read.proofs.names.joiner.Given as goal

-- the longest run in the names up to here
abbrev pub invariant-loop-name : goal.invariant-loop-name
invariant-loop-name l = l.longest ≡ greatest (map run_in (maybe_texts (take l.name-index l.names)))
