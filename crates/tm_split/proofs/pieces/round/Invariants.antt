use Rattle.std.proofs.Common.{length}
use Rattle.tm_split.specs.Making.{piece_by}
use Rattle.tm_split.proofs.Rounds.{IsRounding}
use Rattle.tm_split.proofs.pieces.round.Given as goal

abbrev pub invariant-loop-rest : goal.invariant-loop-rest
invariant-loop-rest l = IsRounding (piece_by l.join) l.initial.pieces.items l.literals l.pieces.items l.left.items l.rest

abbrev pub decreases-loop-rest : goal.decreases-loop-rest
decreases-loop-rest l = length l.rest
