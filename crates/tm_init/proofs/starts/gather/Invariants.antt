use Rattle.std.proofs.Common.{◌≡◌, map, take}
use Rattle.tm_init.specs.Starts.{bit_in}
use Rattle.tm_init.proofs.starts.gather.Given as goal

-- the bits up to here are written
abbrev pub invariant-loop-place : goal.invariant-loop-place
invariant-loop-place l = take l.place l.bits ≡ map (λ s. bit_in l.bytes s l.step) (take l.place l.signals)
