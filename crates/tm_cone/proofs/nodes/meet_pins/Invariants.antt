-- the pins so far are met
use Rattle.std.proofs.Common.{map, take}
use Rattle.tm_unroll.specs.Nodes.{node_at}
use Rattle.tm_cone.specs.Searches.{Meets}
use Rattle.tm_cone.proofs.nodes.meet_pins.Given as goal

abbrev pub invariant-loop-pin : goal.invariant-loop-pin
invariant-loop-pin l = Meets (map (λ p. node_at l.advance p) (take l.pin-index l.pins)) l.fn.met.keys l.met.keys
