-- the greatest depth so far
use Rattle.std.proofs.Common.{◌≡◌, map, take}
use Rattle.std.specs.Prelude.{slice_index}
use Rattle.tm_circuit.specs.Plain.{greatest}
use Rattle.tm_unroll.proofs.chains.deepest_table.Given as goal

abbrev pub invariant-loop-lut : goal.invariant-loop-lut
invariant-loop-lut l = l.deepest ≡ greatest (map (λ lut. slice_index l.depths lut.gate) (take l.lut-index l.luts))
