-- the sources of the leaves so far
use Rattle.std.proofs.Common.{take}
use Rattle.tm_absorb.specs.Slots.{HasSources}
use Rattle.tm_absorb.proofs.readers.sources_of.Given as goal

abbrev pub invariant-loop-leaf : goal.invariant-loop-leaf
invariant-loop-leaf l = HasSources l.circuit.drives (take l.leaf-index l.leaves) l.gates.items
