use Rattle.tm_split.proofs.Whole.{next_row}
use Rattle.tm_split.proofs.pieces.reduce_rows.Goals as goal

pub loop-row-preserved : goal.loop-row-preserved
loop-row-preserved c =
    next_row c.args.pins.now c.args.rows.now c.loop-row.row-index c.row-item.result c.args.pieces.now.items c.loop-row.pieces.items c.reduce.new.pieces.items c.loop-row.left.items c.extend_from_slice.new.self.items c.in_ok-literals.literals.items c.in_ok-one.one.items c.deref.result.now c.loop-row-test.true c.row-item.is c.loop-row.invariant c.in_ok-literals.ensures c.in_ok-one.ensures c.deref.ensures.value c.in_ok-extend_from_slice.ensures.items
