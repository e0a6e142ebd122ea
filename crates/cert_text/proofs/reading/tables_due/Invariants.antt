use Rattle.std.proofs.Common.{◌≡◌, ◌+◌, map}
use Rattle.tm_unroll.specs.Mappings.{table_of}
use Rattle.cert_text.specs.declared.keyword.Keyword.TheVariants.{Table}
use Rattle.cert_text.specs.Words.{table_on}
use Rattle.cert_text.specs.Faults.{pieces_of}
use Rattle.cert_text.specs.Steps.{TakesEach}
use Rattle.cert_text.proofs.reading.tables_due.Given as goal

-- the tables up to here are read
abbrev pub invariant-loop-taken : goal.invariant-loop-taken
invariant-loop-taken l = TakesEach Table table_on l.taken (pieces_of l.fn.lines.rest.now) (map table_of l.luts.items) (pieces_of l.left.rest.now)
    × (l.left.number ≡ l.fn.lines.number + l.taken)
