use Rattle.std.proofs.Common.{vec_len}
use Rattle.tm_split.specs.Pieces.{reduction}
use Rattle.tm_split.specs.Making.{piece_by}
use Rattle.tm_split.proofs.Rounds.{IsReducing}
use Rattle.tm_split.proofs.pieces.reduce.Given as goal

abbrev pub invariant-loop-alloc : goal.invariant-loop-alloc
invariant-loop-alloc l = IsReducing (piece_by l.join) (reduction l.initial.pieces.items l.initial.left.items) (reduction l.pieces.items l.left.items)

abbrev pub decreases-loop-alloc : goal.decreases-loop-alloc
decreases-loop-alloc l = vec_len l.left
