-- the longest run so far
use Rattle.tm_parts.proofs.Measures.{IsScanning}
use Rattle.aiger_read.specs.Names.{percent}
use Rattle.aiger_read.proofs.names.longest_run.Given as goal

abbrev pub invariant-loop-byte : goal.invariant-loop-byte
invariant-loop-byte l = IsScanning percent l.name l.byte-index l.run l.longest
