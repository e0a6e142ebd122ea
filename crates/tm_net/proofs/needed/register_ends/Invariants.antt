-- the ends with the tables so far
use Rattle.std.proofs.Common.{map, take}
use Rattle.tm_unroll.specs.Mappings.{table_of}
use Rattle.tm_net.specs.Registers.{AreEnds}
use Rattle.tm_net.proofs.needed.register_ends.Given as goal

abbrev pub invariant-loop-lut : goal.invariant-loop-lut
invariant-loop-lut l = AreEnds l.circuit (take l.lut-index (map table_of l.luts)) l.ends.items
