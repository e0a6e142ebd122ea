use Rattle.blif_models.proofs.RowLemmas.{IsReading}
use Rattle.blif_models.proofs.rows.cover_of.Given as goal

abbrev pub invariant-loop-line : goal.invariant-loop-line
invariant-loop-line l = IsReading l.pins l.on l.lines l.start l.line l.end l.rows.items
