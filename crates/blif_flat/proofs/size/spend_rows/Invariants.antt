-- the rows so far are spent
use Rattle.std.proofs.Common.{◌≡◌, ◌+◌, map, take, length, sum}
use Rattle.blif_flat.proofs.size.spend_rows.Given as goal

abbrev pub invariant-loop-row : goal.invariant-loop-row
invariant-loop-row l = l.left + sum (map length (take l.row-index l.rows)) ≡ l.room
