-- the tables of the wanted gates so far
use Rattle.std.proofs.Common.{map}
use Rattle.tm_unroll.specs.Mappings.{table_of}
use Rattle.tm_cover.specs.Chosen.{IsWanted}
use Rattle.tm_cover.proofs.BelowLemmas.{AreTablesBelow}
use Rattle.tm_cover.proofs.chosen.tables.Given as goal

abbrev pub invariant-loop-s : goal.invariant-loop-s
invariant-loop-s l = AreTablesBelow l.settled (λ g. IsWanted l.circuit l.settled.cuts g) l.s (map table_of l.luts.items)
