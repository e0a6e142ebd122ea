-- a list for each signal so far, and the tables so far are readers
use Rattle.std.proofs.Common.{◌≡◌, map, length, take}
use Rattle.std.specs.Prelude.{Contains}
use Rattle.tm_unroll.specs.declared.node.Lut.{Lut}
use Rattle.tm_absorb.specs.Slots.{IsReader}
use Rattle.tm_absorb.proofs.readers.readers_of.Given as goal

abbrev pub invariant-loop-lut : goal.invariant-loop-lut
invariant-loop-lut l = (length l.readers.items ≡ length l.circuit.drives)
    × ((lut : Lut) → Contains (take l.lut-index l.luts) lut → IsReader l.circuit.drives lut.gate lut.leaves.items (map (λ list. list.items) l.readers.items))
