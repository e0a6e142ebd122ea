use Rattle.std.proofs.Common.{◌≡◌, map}
use Rattle.std.specs.List.{range_with_len}
use Rattle.tm_circuit.specs.Plain.{drive}
use Rattle.tm_sim.specs.Settled.{first_bit}
use Rattle.tm_sim.proofs.machine.starting_bits.Given as goal

-- the bits of the latches up to here are there
abbrev pub invariant-loop-place : goal.invariant-loop-place
invariant-loop-place l = l.bits.items ≡ map (λ s. first_bit (drive l.circuit s)) (range_with_len l.first l.place)
