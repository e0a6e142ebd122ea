-- what was added so far, after what was there
use Rattle.std.proofs.Common.{◌≡◌, ◌++◌, map}
use Rattle.tm_circuit.specs.Plain.{drive_of, latch}
use Rattle.tm_circuit.proofs.draft.add_latches.Given as goal

abbrev pub invariant-loop-name : goal.invariant-loop-name
invariant-loop-name l =
    (l.names.items ≡ l.initial.names.items ++ map (λ p. p.name) l.yielded) × (map drive_of l.drivers.items ≡ map drive_of l.initial.drivers.items ++ map (λ p. latch p.next p.init) l.yielded)
