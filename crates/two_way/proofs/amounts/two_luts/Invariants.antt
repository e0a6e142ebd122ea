-- the tables so far
use Rattle.std.proofs.Common.{◌≡◌, map, take}
use Rattle.tm_unroll.specs.Mappings.{table_of}
use Rattle.two_way.specs.Mappings.{table_of as two_table_of}
use Rattle.two_way.specs.Amounts.{two_table}
use Rattle.two_way.proofs.amounts.two_luts.Given as goal

abbrev pub invariant-loop-lut : goal.invariant-loop-lut
invariant-loop-lut l = map two_table_of l.two.items ≡ map (λ lut. two_table l.fn.b (table_of lut)) (take l.lut-index l.luts)
