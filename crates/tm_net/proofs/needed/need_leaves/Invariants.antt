-- the leaves so far
use Rattle.std.proofs.Common.{take}
use Rattle.tm_net.specs.Registers.{AreLows, Lowers}
use Rattle.tm_net.proofs.needed.need_leaves.Given as goal

abbrev pub invariant-loop-leaf : goal.invariant-loop-leaf
invariant-loop-leaf l = record { lows : AreLows l.circuit l.lows; lowers : Lowers l.circuit (take l.leaf-index l.leaves) l.initial.lows l.lows }
