use Rattle.std.proofs.Common.{◌≡◌, ◌*◌, ◌%◌, ◌^◌, arith}
use Rattle.std.proofs.lemmas.Nat.{one_shl}
use Rattle.tm_bits.specs.Rows.{holds}
use Rattle.tm_bits.proofs.RowNumbers.{values_at_bits}
use Rattle.tm_bits.proofs.cover.Cover.table.Goals as goal

pub returns-clause-at_bits : goal.returns-clause-at_bits
returns-clause-at_bits c =
    let rows : 1 * 2 ^ c.args.inputs % 2 ^ 64 ≡ 2 ^ c.args.inputs = one_shl c.args.inputs 64 (omega arith) in
    values_at_bits (holds c.args.self.now) c.args.inputs c.loop-row.table.words
    (λ row below. c.loop-row.invariant.values row (omega arith))
