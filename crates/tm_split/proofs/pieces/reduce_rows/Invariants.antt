use Rattle.std.proofs.Common.{◌≡◌, map, take}
use Rattle.tm_split.specs.Pieces.{literals_of, reduction, reduced_rows}
use Rattle.tm_split.proofs.pieces.reduce_rows.Given as goal

abbrev pub invariant-loop-row : goal.invariant-loop-row
invariant-loop-row l = reduction l.pieces.items l.left.items ≡ reduced_rows l.initial.pieces.items (map (literals_of l.pins) (take l.row-index l.rows))
