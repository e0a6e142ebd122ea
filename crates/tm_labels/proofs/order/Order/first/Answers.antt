-- The entry that goes is of a gate that does not wait.
use Rattle.std.proofs.Common.{◌≡◌, ℕ, false, sym, ◌∙◌, ap}
use Rattle.std.proofs.lemmas.Bool.{both_ways}
use Rattle.std.specs.BinaryHeap.{heap_items}
use Rattle.tm_labels.specs.declared.order.Entry.{Entry}
use Rattle.tm_labels.specs.Marks.{is_marked}
use Rattle.tm_labels.proofs.OrderLemmas.{first_goes}
use Rattle.tm_labels.proofs.order.Order.first.Goals as goal

abbrev gate_of : Entry → ℕ
gate_of entry = entry.gate

pub loop-entry-preserved : goal.loop-entry-preserved
loop-entry-preserved c =
    let queued = c.args.queued.now in
    let first = c.in-Some.entry.now in
    let idle : is_marked queued first.gate ≡ false = sym c.is_marked-in-Some.ensures ∙ c.if-is_marked-2.false in
    record {
      keeps = λ g marked there.
          first_goes _ gate_of first c.pop.result (heap_items c.loop-entry.self.entries) (heap_items c.pop.new.self) c.in-Some.ensures.lookup c.pop.ensures.top c.pop.ensures.permutation c.pop.ensures.unchanged
          g (λ same. both_ways _ idle (ap (is_marked queued) (sym same) ∙ marked)) (c.loop-entry.invariant.keeps g marked there);
      ways = let ways = c.loop-entry.invariant.ways in record { foreseen = ways.foreseen; towards = ways.towards; ahead = ways.ahead };
    }

pub returns-then-is_marked-2-clause-keeps : goal.returns-then-is_marked-2-clause-keeps
returns-then-is_marked-2-clause-keeps c = c.loop-entry.invariant.keeps

pub returns-then-is_marked-2-clause-ways : goal.returns-then-is_marked-2-clause-ways
returns-then-is_marked-2-clause-ways c = c.loop-entry.invariant.ways

pub returns-clause-keeps : goal.returns-clause-keeps
returns-clause-keeps c = c.loop-entry.invariant.keeps

pub returns-clause-ways : goal.returns-clause-ways
returns-clause-ways c = c.loop-entry.invariant.ways
