use Rattle.std.proofs.Common.{◌<◌, ◌≤◌, length, arith}
use Rattle.tm_split.specs.Pieces.{reduction}
use Rattle.tm_split.specs.Making.{piece_by}
use Rattle.tm_split.proofs.Rounds.{reducing_more_by_slice, fewer_by_slice, reducing_end}
use Rattle.tm_split.proofs.pieces.reduce.Goals as goal

pub loop-alloc-smaller : goal.loop-alloc-smaller
loop-alloc-smaller c =
    let many : 1 < length c.loop-alloc.left.items = omega arith in
    let fewer : length c.in_ok-left.left.items < length c.loop-alloc.left.items = fewer_by_slice (length c.loop-alloc.pieces.items) c.loop-alloc.left.items c.in_ok-left.left.items c.deref.result.now c.deref.ensures.value many c.in_ok-left.ensures.left in
    omega arith

pub loop-alloc-preserved : goal.loop-alloc-preserved
loop-alloc-preserved c =
    let many : 1 < length c.loop-alloc.left.items = omega arith in
    reducing_more_by_slice (piece_by c.args.join) (reduction c.args.pieces.now.items c.args.literals.items) c.loop-alloc.pieces.items c.round.new.pieces.items c.loop-alloc.left.items c.in_ok-left.left.items c.deref.result.now c.loop-alloc.invariant c.deref.ensures.value many c.in_ok-left.ensures.pieces c.in_ok-left.ensures.left

pub returns : goal.returns
returns c =
    let few : length c.loop-alloc.left.items ≤ 1 = omega arith in
    reducing_end (piece_by c.args.join) (reduction c.args.pieces.now.items c.args.literals.items) (reduction c.loop-alloc.pieces.items c.loop-alloc.left.items) c.loop-alloc.invariant few
