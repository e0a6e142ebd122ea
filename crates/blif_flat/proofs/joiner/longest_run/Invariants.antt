-- the longest run so far
use Rattle.tm_parts.proofs.Measures.{IsScanning}
use Rattle.blif_flat.proofs.joiner.longest_run.Given as goal

abbrev pub invariant-loop-byte : goal.invariant-loop-byte
invariant-loop-byte l = IsScanning 64 l.bytes l.byte-index l.run l.longest
