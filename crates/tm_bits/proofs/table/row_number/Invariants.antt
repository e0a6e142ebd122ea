use Rattle.std.proofs.Common.{◌≡◌, take}
use Rattle.tm_bits.specs.Tables.{row_number}
use Rattle.tm_bits.proofs.table.row_number.Given as goal

-- the number of the bits so far
abbrev pub invariant-loop-bit : goal.invariant-loop-bit
invariant-loop-bit l = l.row ≡ row_number (take l.bit-index l.bits)
