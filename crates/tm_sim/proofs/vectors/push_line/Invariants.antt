use Rattle.std.proofs.Common.{◌≡◌, ◌++◌, map, take}
use Rattle.tm_sim.specs.Vectors.{byte_of}
use Rattle.tm_sim.proofs.vectors.push_line.Given as goal

-- the bytes of the bits up to here are there
abbrev pub invariant-loop-bit : goal.invariant-loop-bit
invariant-loop-bit l = l.text.items ≡ l.initial.text.items ++ map byte_of (take l.bit-index l.row)
