-- the signals below are met
use Rattle.std.proofs.Common.{map}
use Rattle.tm_circuit.specs.Plain.{drive_of}
use Rattle.tm_circuit.proofs.SourceLemmas.{HasFollowed}
use Rattle.tm_circuit.proofs.sources.sources_of.Given as goal

abbrev pub invariant-loop-s : goal.invariant-loop-s
invariant-loop-s l = HasFollowed (map drive_of l.drivers) l.followed l.s
