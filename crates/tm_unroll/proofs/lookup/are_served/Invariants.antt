-- the leaves so far are served
use Rattle.std.proofs.Common.{List, length, take}
use Rattle.tm_unroll.specs.Mappings.{Table, AreServed}
use Rattle.tm_unroll.specs.Lookups.{AreGreatestLags}
use Rattle.tm_unroll.proofs.lookup.are_served.Given as goal

abbrev pub invariant-loop-leaf : goal.invariant-loop-leaf
invariant-loop-leaf l = (tables : List Table) → AreGreatestLags (length l.circuit.drives) tables l.lags → AreServed l.circuit.drives tables (take l.leaf-index l.leaves)
