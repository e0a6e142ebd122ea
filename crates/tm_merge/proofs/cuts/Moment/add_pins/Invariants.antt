-- the nodes behind the pins so far are taken in
use Rattle.std.proofs.Common.{map, take}
use Rattle.tm_unroll.specs.Latches.{behind_latches}
use Rattle.tm_merge.specs.Merges.{TakesIn}
use Rattle.tm_merge.proofs.cuts.Moment.add_pins.Given as goal

abbrev pub invariant-loop-pin : goal.invariant-loop-pin
invariant-loop-pin l = TakesIn l.self (map (λ p. behind_latches l.self.circuit.now.drives l.lag p) (take l.pin-index l.pins)) l.fn.merging l.merging
