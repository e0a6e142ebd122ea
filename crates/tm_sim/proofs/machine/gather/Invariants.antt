use Rattle.std.proofs.Common.{◌≡◌, map, take}
use Rattle.tm_sim.specs.Settled.{bit_of}
use Rattle.tm_sim.proofs.machine.gather.Given as goal

-- the bits up to here are written
abbrev pub invariant-loop-place : goal.invariant-loop-place
invariant-loop-place l = take l.place l.bits ≡ map (bit_of l.values) (take l.place l.signals)
