-- The entry that goes is of the gate.
use Rattle.std.proofs.Common.{◌≡◌, ℕ, ◌∙◌, arith}
use Rattle.std.proofs.lemmas.Grind.{common_steps}
use Rattle.std.specs.BinaryHeap.{heap_items}
use Rattle.tm_labels.specs.declared.order.Entry.{Entry}
use Rattle.tm_labels.proofs.OrderLemmas.{first_goes}
use Rattle.tm_labels.proofs.order.Order.take_first.Goals as goal

abbrev gate_of : Entry → ℕ
gate_of entry = entry.gate

pub returns-then-eq-clause-others : goal.returns-then-eq-clause-others
returns-then-eq-clause-others c =
    let first = c.in-Some.entry.now in
    let same : first.gate ≡ c.args.gate = let told = c.eq.ensures in let is = c.if-eq.true in grind (arith, common_steps, told, is) in
    λ g differs there.
    first_goes _ gate_of first c.pop.result (heap_items c.args.self.now.entries) (heap_items c.pop.new.self) c.in-Some.ensures.lookup c.pop.ensures.top c.pop.ensures.permutation c.pop.ensures.unchanged
    g (λ is. differs (is ∙ same)) there
