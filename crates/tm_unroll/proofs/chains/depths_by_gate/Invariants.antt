-- the depths at the tables of lesser lag
use Rattle.std.proofs.Common.{[], map}
use Rattle.tm_unroll.specs.Mappings.{table_of}
use Rattle.tm_unroll.specs.Depths.{HasDepths}
use Rattle.tm_unroll.proofs.chains.depths_by_gate.Given as goal

abbrev pub invariant-loop-lag : goal.invariant-loop-lag
invariant-loop-lag l = HasDepths l.circuit (map table_of l.luts) l.lag [] l.depths.items
