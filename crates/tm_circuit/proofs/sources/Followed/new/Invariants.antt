-- the first sources so far
use Rattle.std.proofs.Common.{map}
use Rattle.tm_circuit.specs.Plain.{drive_of}
use Rattle.tm_circuit.proofs.SourceLemmas.{HaveFirst}
use Rattle.tm_circuit.proofs.sources.Followed.new.Given as goal

abbrev pub invariant-loop-s : goal.invariant-loop-s
invariant-loop-s l = HaveFirst (map drive_of l.drivers) l.sources.items l.s
