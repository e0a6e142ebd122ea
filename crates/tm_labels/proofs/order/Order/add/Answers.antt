-- One place more.
use Rattle.std.proofs.Common.{ℕ, map, refl, subst}
use Rattle.std.specs.Prelude.{Contains}
use Rattle.std.specs.BinaryHeap.{heap_items}
use Rattle.tm_labels.specs.declared.order.Entry.{Entry}
use Rattle.tm_labels.proofs.OrderLemmas.{place_stays, place_comes}
use Rattle.tm_labels.proofs.order.Order.add.Goals as goal

abbrev gate_of : Entry → ℕ
gate_of entry = entry.gate

pub returns-clause-adds : goal.returns-clause-adds
returns-clause-adds c = record {
  stays = place_stays gate_of c.entry_of-entry.result (heap_items c.args.self.now.entries) (heap_items c.push.new.self) c.in_ok-push.ensures.permutation;
  ways = record { foreseen = refl; towards = refl; ahead = refl };
}

pub returns-clause-has : goal.returns-clause-has
returns-clause-has c =
    subst (λ g. Contains (map gate_of (heap_items c.push.new.self)) g) c.entry_of-entry.ensures
    (place_comes gate_of c.entry_of-entry.result (heap_items c.args.self.now.entries) (heap_items c.push.new.self) c.in_ok-push.ensures.permutation)
