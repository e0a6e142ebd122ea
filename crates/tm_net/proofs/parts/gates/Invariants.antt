-- the gates of the tables so far
use Rattle.std.proofs.Common.{map, take}
use Rattle.std.specs.List.{AllZip}
use Rattle.tm_unroll.specs.Mappings.{table_of}
use Rattle.tm_net.specs.Making.{IsGatePart}
use Rattle.tm_net.proofs.parts.gates.Given as goal

abbrev pub invariant-loop-lut : goal.invariant-loop-lut
invariant-loop-lut l = AllZip (IsGatePart l.circuit l.plan.layout) (take l.lut-index (map table_of l.luts)) l.gates.items
