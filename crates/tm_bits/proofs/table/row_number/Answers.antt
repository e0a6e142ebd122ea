use Rattle.std.proofs.Common.{arith}
use Rattle.std.proofs.lemmas.List.{take_all}
use Rattle.tm_bits.proofs.RowNumbers.{row_number_more, row_number_fits, row_number-lt, bits_of-row_number}
use Rattle.tm_bits.proofs.table.row_number.Goals as goal
use Rattle.tm_bits.proofs.table.row_number.Goals.{then-bit, else-bit}

pub overflow_mul-row : goal.overflow_mul-row
overflow_mul-row c = omega (arith, row_number_fits c.args.bits.now c.loop-bit.bit-index (omega arith))

pub overflow_add-row : goal.overflow_add-row
overflow_add-row c =
    let fits = row_number_fits c.args.bits.now c.loop-bit.bit-index (omega arith) in
    elim c.if-bit.branch [ then-bit w ↦ omega arith | else-bit w ↦ omega arith ]

pub loop-bit-preserved : goal.loop-bit-preserved
loop-bit-preserved c =
    let more = row_number_more c.args.bits.now c.loop-bit.bit-index (omega arith) in
    elim c.if-bit.branch [
      | then-bit w ↦ let here = rw w.if-bit.true at more in omega arith
      | else-bit w ↦ let here = rw w.if-bit.false at more in omega arith
    ]

pub returns-clause-below : goal.returns-clause-below
returns-clause-below c =
    let bits = c.args.bits.now in
    rw (c.loop-bit.invariant, take_all c.loop-bit.bit-index bits (omega arith)) (row_number-lt bits)

pub returns-clause-bits : goal.returns-clause-bits
returns-clause-bits c =
    let bits = c.args.bits.now in
    rw (c.loop-bit.invariant, take_all c.loop-bit.bit-index bits (omega arith)) (bits_of-row_number bits)
