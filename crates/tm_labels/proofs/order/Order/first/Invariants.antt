-- each turn takes an entry off, of a gate that does not wait
use Rattle.std.proofs.Common.{◌≡◌, ℕ, true}
use Rattle.std.specs.Prelude.{Contains}
use Rattle.tm_labels.specs.Marks.{is_marked}
use Rattle.tm_labels.specs.Orders.{places_in, KeepsWays}
use Rattle.tm_labels.proofs.order.Order.first.Given as goal

abbrev pub decreases-loop-entry : goal.decreases-loop-entry
decreases-loop-entry l = l.self.entries.data.len

abbrev pub invariant-loop-entry : goal.invariant-loop-entry
invariant-loop-entry l = record {
  keeps : (g : ℕ) → is_marked l.queued g ≡ true → Contains (places_in l.fn.self) g → Contains (places_in l.self) g;
  ways : KeepsWays l.fn.self l.self;
}
