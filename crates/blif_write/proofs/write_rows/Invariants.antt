use Rattle.std.proofs.Common.{◌≡◌, ◌++◌, map, take}
use Rattle.blif_write.specs.Text.{lines_text, row_words}
use Rattle.blif_write.proofs.write_rows.Given as goal

abbrev pub invariant-loop-row : goal.invariant-loop-row
invariant-loop-row l =
    l.out.items ≡ l.initial.out.items ++ lines_text (map (row_words l.cover.on) (take l.row-index l.row-items))
