use Rattle.std.proofs.Common.{◌≡◌, ◌^◌, ◌*◌, ◌%◌, sym, ◌∙◌, arith}
use Rattle.std.proofs.lemmas.Nat.{one_shl}
use Rattle.tm_bits.proofs.Minterms.{minterms_pushed, minterms_kept, minterms_even, minterms_width, minterms_table}
use Rattle.tm_bits.proofs.RowNumbers.{values_at_bits}
use Rattle.tm_bits.proofs.table.Table.cover.Goals as goal
use Rattle.tm_bits.proofs.table.Table.cover.Goals.{then-bit+in_ok-minterm+in_ok-push, else-bit}

pub loop-row-preserved : goal.loop-row-preserved
loop-row-preserved c =
    let table = c.args.self.now in
    elim c.if-bit.branch [
      | then-bit+in_ok-minterm+in_ok-push w ↦
          let pushed = minterms_pushed table.inputs table.words c.loop-row.row (sym c.bit.ensures ∙ w.if-bit.true) in
          cc (w.in_ok-push.ensures.items, w.in_ok-minterm.ensures)
      | else-bit w ↦
          let kept = minterms_kept table.inputs table.words c.loop-row.row (sym c.bit.ensures ∙ w.if-bit.false) in
          cc
    ]

pub of_rows-requires : goal.of_rows-requires
of_rows-requires c =
    let table = c.args.self.now in
    rw c.loop-row.invariant (minterms_even table.inputs table.words c.loop-row.row)

pub returns-clause-values : goal.returns-clause-values
returns-clause-values c row below =
    let table = c.args.self.now in
    let rows : 1 * 2 ^ table.inputs % 2 ^ 64 ≡ 2 ^ table.inputs = one_shl table.inputs 64 (omega arith) in
    let ended : c.loop-row.row ≡ 2 ^ table.inputs = omega arith in
    rw (c.of_rows.ensures, c.loop-row.invariant, ended) (minterms_table table.inputs table.words row below)

pub returns-clause-at_bits : goal.returns-clause-at_bits
returns-clause-at_bits c =
    let table = c.args.self.now in
    let rows : 1 * 2 ^ table.inputs % 2 ^ 64 ≡ 2 ^ table.inputs = one_shl table.inputs 64 (omega arith) in
    let ended : c.loop-row.row ≡ 2 ^ table.inputs = omega arith in
    rw (c.of_rows.ensures, c.loop-row.invariant, ended)
    (values_at_bits _ table.inputs table.words (minterms_table table.inputs table.words))

pub returns-clause-width : goal.returns-clause-width
returns-clause-width c =
    let table = c.args.self.now in
    rw (c.of_rows.ensures, c.loop-row.invariant) (minterms_width table.inputs table.words c.loop-row.row)
