use Rattle.std.proofs.Common.{◌≡◌}
use Rattle.tm_bits.proofs.Minterms.{minterms_below}
use Rattle.tm_bits.proofs.table.Table.cover.Given as goal

-- the rows up to here are spelled
abbrev pub invariant-loop-row : goal.invariant-loop-row
invariant-loop-row l = l.rows.items ≡ minterms_below l.self.inputs l.self.words l.row
