-- the depths after the gates so far
use Rattle.std.proofs.Common.{map, take}
use Rattle.tm_unroll.specs.Mappings.{table_of}
use Rattle.tm_unroll.specs.Depths.{HasDepths}
use Rattle.tm_unroll.proofs.chains.add_lag.Given as goal

abbrev pub invariant-loop-gate : goal.invariant-loop-gate
invariant-loop-gate l = HasDepths l.circuit (map table_of l.luts) l.lag (take l.gate-index l.order) l.depths
