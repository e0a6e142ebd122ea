-- the registers at the advances so far
use Rattle.std.proofs.Common.{◌≡◌, ◌-◌, ◌++◌, map}
use Rattle.std.specs.List.{range_with_len}
use Rattle.tm_unroll.specs.Nodes.{node_at}
use Rattle.tm_net.specs.Making.{register_part}
use Rattle.tm_net.proofs.parts.add_registers.Given as goal

abbrev pub invariant-loop-advance : goal.invariant-loop-advance
invariant-loop-advance l =
    l.latches.items ≡ l.initial.latches.items ++ map (register_part l.circuit l.plan.layout l.plan.starts) (map (λ a. node_at a l.signal) (range_with_len l.low (l.advance - l.low)))
