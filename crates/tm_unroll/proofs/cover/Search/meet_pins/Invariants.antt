-- the pins so far are met
use Rattle.std.proofs.Common.{map, take}
use Rattle.tm_unroll.specs.Nodes.{node_at}
use Rattle.tm_unroll.specs.Searches.{MeetsMore}
use Rattle.tm_unroll.proofs.cover.Search.meet_pins.Given as goal

abbrev pub invariant-loop-pin : goal.invariant-loop-pin
invariant-loop-pin l = MeetsMore (map (λ p. node_at l.advance p) (take l.pin-index l.pins)) l.fn.self l.self
