use Rattle.std.proofs.Common.{◌≡◌, ℕ, ◌<◌}
use Rattle.tm_bits.specs.Rows.{holds}
use Rattle.tm_bits.specs.Tables.{bit_of, bits_of}
use Rattle.tm_bits.proofs.cover.Cover.table.Given as goal

-- the rows up to here have the values of the cover
abbrev pub invariant-loop-row : goal.invariant-loop-row
invariant-loop-row l =
    record { inputs : l.table.inputs ≡ l.inputs; values : (other : ℕ) → other < l.row → bit_of l.table.words other ≡ holds l.self (bits_of l.inputs other) }
