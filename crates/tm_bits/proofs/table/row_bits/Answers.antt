use Rattle.std.proofs.Common.{◌≡◌, ◌-◌, ◌∙◌, eqb, ap, arith}
use Rattle.std.proofs.lemmas.List.{length-set, take_all}
use Rattle.std.proofs.lemmas.Nat.Bits.{shr_and_one}
use Rattle.tm_bits.specs.Tables.{bits_of}
use Rattle.tm_bits.proofs.RowNumbers.{row_bits_more, row_number-bits_of, length-bits_of}
use Rattle.tm_bits.proofs.table.row_bits.Goals as goal

pub loop-place-preserved : goal.loop-place-preserved
loop-place-preserved c =
    let place = c.loop-place.place in
    let bit = ap (λ n. eqb n 1) (shr_and_one c.args.row (c.args.inputs - 1 - place)) in (
      length-set c.loop-place.bits place _ ∙ c.loop-place.invariant.0,
      row_bits_more c.args.inputs c.args.row place c.loop-place.bits _ (omega arith) (omega arith) c.loop-place.invariant.1 bit,
    )

pub returns-clause-bits : goal.returns-clause-bits
returns-clause-bits c =
    let ended : c.loop-place.place ≡ c.args.inputs = omega arith in
    rw ended at c.loop-place.invariant.1 ∙ take_all c.args.inputs (bits_of c.args.inputs c.args.row) (omega (arith, length-bits_of))

pub returns-clause-number : goal.returns-clause-number
returns-clause-number c = row_number-bits_of c.args.inputs c.args.row
