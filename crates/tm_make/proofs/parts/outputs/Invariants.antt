use Rattle.std.proofs.Common.{◌≡◌, ◌-◌, map}
use Rattle.std.specs.List.{range_with_len}
use Rattle.tm_make.specs.SampleCircuit.{gate_signal}
use Rattle.tm_make.proofs.parts.outputs.Given as goal

-- the outputs up to here
abbrev pub invariant-loop-index : goal.invariant-loop-index
invariant-loop-index l = l.outputs.items ≡ map (gate_signal l.number) (range_with_len (l.number - 8) l.index)
