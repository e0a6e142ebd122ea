use Rattle.std.proofs.Common.{◌≡◌, length, take}
use Rattle.tm_bits.specs.Tables.{bits_of}
use Rattle.tm_bits.proofs.table.row_bits.Given as goal

-- the bits up to here are those of the row
abbrev pub invariant-loop-place : goal.invariant-loop-place
invariant-loop-place l = (length l.bits ≡ 8) × (take l.place l.bits ≡ take l.place (bits_of l.inputs l.row))
