-- the names of the first inputs
use Rattle.std.proofs.Common.{◌≡◌, map}
use Rattle.std.specs.List.{range_with_len}
use Rattle.tm_unroll.specs.Nodes.{node_at}
use Rattle.tm_mapped.specs.Mapped.{node_name}
use Rattle.tm_net.proofs.parts.inputs.Given as goal

abbrev pub invariant-loop-s : goal.invariant-loop-s
invariant-loop-s l = l.names.items ≡ map (λ s. node_name l.circuit (node_at 0 s)) (range_with_len 0 l.s)
