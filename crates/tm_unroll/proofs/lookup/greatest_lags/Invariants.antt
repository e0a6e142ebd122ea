-- the greatest lags of the tables so far
use Rattle.std.proofs.Common.{map, take}
use Rattle.tm_unroll.specs.Mappings.{table_of}
use Rattle.tm_unroll.specs.Lookups.{AreGreatestLags}
use Rattle.tm_unroll.proofs.lookup.greatest_lags.Given as goal

abbrev pub invariant-loop-lut : goal.invariant-loop-lut
invariant-loop-lut l = AreGreatestLags l.signals (map table_of (take l.lut-index l.luts)) l.lags.items
