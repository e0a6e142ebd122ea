-- the gates so far have a place
use Rattle.std.proofs.Common.{ℕ, take}
use Rattle.std.specs.Prelude.{Contains}
use Rattle.tm_labels.specs.Orders.{places_in, AddsPlaces}
use Rattle.tm_labels.proofs.order.Order.add_all.Given as goal

abbrev pub invariant-loop-gate : goal.invariant-loop-gate
invariant-loop-gate l = record {
  adds : AddsPlaces l.fn.self l.self;
  have : (g : ℕ) → Contains (take l.gate-index l.gates) g → Contains (places_in l.self) g;
}
