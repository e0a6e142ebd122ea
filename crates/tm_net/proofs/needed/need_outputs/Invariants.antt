-- the outputs so far
use Rattle.std.proofs.Common.{map, take}
use Rattle.tm_unroll.specs.Nodes.{node_at}
use Rattle.tm_net.specs.Registers.{AreLows, Lowers}
use Rattle.tm_net.proofs.needed.need_outputs.Given as goal

abbrev pub invariant-loop-output : goal.invariant-loop-output
invariant-loop-output l = record { lows : AreLows l.circuit l.lows; lowers : Lowers l.circuit (map (λ s. node_at 0 s) (take l.output-index l.circuit.outputs)) l.initial.lows l.lows }
