-- The gates are what is left of the signals, since each is of one kind.
use Rattle.std.proofs.Common.{arith, map}
use Rattle.std.proofs.lemmas.List.{length-map}
use Rattle.tm_circuit.specs.Plain.{drive_of}
use Rattle.tm_circuit.proofs.KindLemmas.{kinds-length}
use Rattle.tm_circuit.proofs.circuit.Circuit.gates.Goals as goal

pub overflow_sub-result-2 : goal.overflow_sub-result-2
overflow_sub-result-2 c = grind (arith, kinds-length (map drive_of c.self.inside.drivers.items), length-map c.self.inside.drivers.items drive_of)

pub returns : goal.returns
returns c = grind (arith, kinds-length (map drive_of c.self.inside.drivers.items), length-map c.self.inside.drivers.items drive_of)
