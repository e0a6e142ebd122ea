-- the outputs, and the leaves of the tables so far
use Rattle.std.proofs.Common.{◌++◌, map, take}
use Rattle.tm_unroll.specs.Nodes.{node_at}
use Rattle.tm_unroll.specs.Mappings.{table_of}
use Rattle.tm_net.specs.Registers.{AreLows, Lowers}
use Rattle.tm_net.proofs.NeedLemmas.{leaves_of}
use Rattle.tm_net.proofs.needed.least_advances.Given as goal

abbrev pub invariant-loop-lut : goal.invariant-loop-lut
invariant-loop-lut l = record { lows : AreLows l.circuit l.lows.items; lowers : Lowers l.circuit (map (λ s. node_at 0 s) l.circuit.outputs ++ leaves_of (take l.lut-index (map table_of l.luts))) l.ends l.lows.items }
