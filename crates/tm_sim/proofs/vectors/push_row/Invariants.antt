use Rattle.std.proofs.Common.{◌≡◌, ◌++◌, take}
use Rattle.tm_sim.specs.Vectors.{row_of}
use Rattle.tm_sim.proofs.vectors.push_row.Given as goal

-- the bits of the bytes up to here are there
abbrev pub invariant-loop-byte : goal.invariant-loop-byte
invariant-loop-byte l = l.bits.items ≡ l.initial.bits.items ++ row_of (take l.byte-index l.line)
