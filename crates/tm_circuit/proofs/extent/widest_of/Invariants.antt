-- the widest so far
use Rattle.std.proofs.Common.{◌≡◌, map, length, take}
use Rattle.tm_circuit.specs.Plain.{drive_of, pins_of, greatest}
use Rattle.tm_circuit.proofs.extent.widest_of.Given as goal

abbrev pub invariant-loop-driver : goal.invariant-loop-driver
invariant-loop-driver l = l.most ≡ greatest (map (λ d. length (pins_of (drive_of d))) (take l.driver-index l.drivers))
