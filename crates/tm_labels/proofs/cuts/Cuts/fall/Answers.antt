-- Without a label the cut goes.
use Rattle.std.proofs.Common.{◌≡◌, ◌<◌, List, length, map, drop, sym, ◌∙◌, ap, subst, arith}
use Rattle.std.specs.Prelude.{slice_set}
use Rattle.std.proofs.lemmas.List.{take_at}
use Rattle.tm_unroll.specs.declared.node.Node.{Node}
use Rattle.tm_labels.specs.Watched.{Kept, KeepsCuts}
use Rattle.tm_labels.proofs.WatchLemmas.{cuts_gone, lists_of}
use Rattle.tm_labels.proofs.cuts.Cuts.fall.Goals as goal

pub invariant_of-self : goal.invariant_of-self
invariant_of-self c =
    let a = c.self.inside in
    let low : c.gate.inside.0 < length a.circuit.now.drives =
    subst (λ (k : Kept). c.gate.inside.0 < length k.circuit.drives) (sym c.self.view_is) (omega (arith, c.requires, c.gate.view_is)) in
    let long : length c.put.new.leaves ≡ a.leaves.len = omega (arith, c.put.auto.leaves, c.deref_mut.ensures.len) in
    let whole = take_at c.put.new.leaves (drop (length c.put.new.leaves) a.leaves.items) a.leaves.len long in
    let is = ap (map (λ cut. cut.items)) whole ∙ c.put.ensures ∙ ap (λ ls. slice_set (map (λ cut. cut.items) ls) c.gate.inside.0 c.new.result.items) c.deref_mut.ensures.value
    ∙ ap (slice_set (map (λ cut. cut.items) a.leaves.items) c.gate.inside.0) c.new.ensures.items in
    subst (λ (ls : List (List Node)). KeepsCuts a.circuit.now.drives ls a.stale.items a.versions.items (lists_of a.watchers.items)) (sym is)
    (cuts_gone a.circuit.now.drives (map (λ cut. cut.items) a.leaves.items) a.stale.items a.versions.items (lists_of a.watchers.items) c.gate.inside.0 low c.self.invariant)
