-- the way so far, and the signals that were not met
use Rattle.std.proofs.Common.{map, reverse, not}
use Rattle.std.specs.Prelude.{count_by}
use Rattle.tm_circuit.specs.Plain.{drive_of}
use Rattle.tm_circuit.proofs.SourceLemmas.{IsOnWay}
use Rattle.tm_circuit.proofs.sources.Followed.follow.Given as goal

abbrev pub invariant-loop-self : goal.invariant-loop-self
invariant-loop-self l = IsOnWay (map drive_of l.drivers) l.fn.self l.self (reverse l.path.items) l.at l.fn.from

abbrev pub decreases-loop-self : goal.decreases-loop-self
decreases-loop-self l = count_by not l.self.met.items
