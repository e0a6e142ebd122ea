-- the numbers of the outputs so far
use Rattle.std.proofs.Common.{◌≡◌, map, take}
use Rattle.tm_unroll.specs.Nodes.{node_at}
use Rattle.tm_net.specs.Layouts.{number_in}
use Rattle.tm_net.proofs.parts.outputs.Given as goal

abbrev pub invariant-loop-output : goal.invariant-loop-output
invariant-loop-output l = l.numbers.items ≡ map (λ s. number_in l.layout (node_at 0 s)) (take l.output-index l.circuit.outputs)
