-- the leaves so far look at the root
use Rattle.std.proofs.Common.{take}
use Rattle.std.specs.Prelude.{Contains}
use Rattle.tm_unroll.specs.declared.node.Node.{Node}
use Rattle.tm_unroll.specs.Mappings.{table_of}
use Rattle.tm_absorb.specs.Admitting.{IsRootOrOther}
use Rattle.tm_absorb.proofs.admits.looks_at_root.Given as goal

abbrev pub invariant-loop-leaf : goal.invariant-loop-leaf
invariant-loop-leaf l = (x : Node) → Contains (take l.leaf-index l.leaf-items) x → IsRootOrOther l.circuit.drives (table_of l.table) x
