-- the numbers of the leaves so far
use Rattle.std.proofs.Common.{◌≡◌, map, take}
use Rattle.tm_net.specs.Layouts.{number_in}
use Rattle.tm_net.proofs.parts.pins.Given as goal

abbrev pub invariant-loop-leaf : goal.invariant-loop-leaf
invariant-loop-leaf l = l.pins.items ≡ map (number_in l.layout) (take l.leaf-index l.leaves)
