use Rattle.std.proofs.Common.{◌≡◌, ℕ, ◌+◌, ◌<◌, false, get_or}
use Rattle.tm_circuit.specs.Plain.{drive}
use Rattle.tm_sim.specs.Settled.{bit_of, next_bit}
use Rattle.tm_sim.proofs.machine.advance.Given as goal

-- the latches up to here have their next bits
abbrev pub invariant-loop-place : goal.invariant-loop-place
invariant-loop-place l =
    (k : ℕ) → k < l.place → get_or l.latches k false ≡ next_bit (drive l.circuit (l.first + k)) (bit_of l.values)
