-- the gates of the tables so far
use Rattle.std.proofs.Common.{take}
use Rattle.std.specs.Prelude.{Contains}
use Rattle.tm_unroll.specs.declared.node.Lut.{Lut}
use Rattle.tm_absorb.proofs.queue.gates_of.Given as goal

abbrev pub invariant-loop-lut : goal.invariant-loop-lut
invariant-loop-lut l = (lut : Lut) → Contains (take l.lut-index l.luts) lut → Contains l.queue.keys lut.gate
