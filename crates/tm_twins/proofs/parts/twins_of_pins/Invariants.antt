-- the twins of the pins so far
use Rattle.std.proofs.Common.{◌≡◌, map, take}
use Rattle.tm_twins.specs.Twins.{twin_in}
use Rattle.tm_twins.proofs.parts.twins_of_pins.Given as goal

abbrev pub invariant-loop-pin : goal.invariant-loop-pin
invariant-loop-pin l = l.joined.items ≡ map (twin_in l.twins) (take l.pin-index l.pins)
