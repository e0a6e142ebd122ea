-- the pins so far have words
use Rattle.std.proofs.Common.{◌≡◌, map, take}
use Rattle.tm_unroll.specs.Nodes.{node_at}
use Rattle.tm_cone.specs.Values.{words_in}
use Rattle.tm_cone.proofs.values.pin_lanes.Given as goal

abbrev pub invariant-loop-pin : goal.invariant-loop-pin
invariant-loop-pin l = l.lanes.items ≡ map (λ p. words_in l.values (node_at l.advance p)) (take l.pin-index l.pins)
