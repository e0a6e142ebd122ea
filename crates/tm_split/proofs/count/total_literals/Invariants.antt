use Rattle.std.proofs.Common.{◌≡◌, ◌-◌, ◌^◌, false, take, eqb, min}
use Rattle.std.specs.List.{list_any}
use Rattle.std.specs.Prelude.{sum_by}
use Rattle.tm_split.specs.Counts.{literal_count}
use Rattle.tm_split.proofs.count.total_literals.Given as goal

abbrev pub invariant-loop-row : goal.invariant-loop-row
invariant-loop-row l = record {
  none_bare : list_any (λ row. eqb (literal_count row) 0) (take l.row-index l.rows) ≡ false;
  total : l.total ≡ min (sum_by literal_count (take l.row-index l.rows)) (2 ^ 64 - 1);
}
