-- The new cut is watched before the old one goes.
use Rattle.std.proofs.Common.{◌≡◌, ℕ, ◌+◌, ◌%◌, ◌<◌, ◌++◌, false, List, length, map, take, drop, sym, ◌∙◌, ap, subst, arith, Global}
use Rattle.std.specs.Prelude.{slice_set, Contains, Vec}
use Rattle.std.proofs.lemmas.List.{take_at}
use Rattle.tm_unroll.specs.declared.node.Node.{Node}
use Rattle.tm_labels.specs.declared.watcher.Watcher.{Watcher}
use Rattle.tm_labels.specs.Watched.{Kept, KeepsCuts, AddsWatchers, AreWatchedAs}
use Rattle.tm_labels.proofs.WatchLemmas.{cuts_with_more, cuts_with_new, lists_of, all_within}
use Rattle.tm_labels.proofs.cuts.Cuts.keep.Goals as goal

pub watch-requires-clause-within : goal.watch-requires-clause-within
watch-requires-clause-within c =
    all_within (length c.self.inside.circuit.now.drives) c.as_slice.result.now c.args.leaves.items c.as_slice.ensures
    (subst (λ (k : Kept). (y : Node) → Contains c.args.leaves.items y → y.signal < length k.circuit.drives) (sym c.self.view_is) c.requires.within)

pub invariant_of-self : goal.invariant_of-self
invariant_of-self c =
    let a = c.self.inside in
    let long : length c.watch.new.watchers ≡ a.watchers.len = omega (arith, c.watch.auto.watchers, c.deref_mut.ensures.len) in
    let whole = take_at c.watch.new.watchers (drop (length c.watch.new.watchers) a.watchers.items) a.watchers.len long in
    let adds = subst (λ (vs : List (Vec Watcher Global)). AddsWatchers (lists_of vs) (lists_of c.watch.new.watchers)) c.deref_mut.ensures.value c.in_err-watch.ensures.adds in
    subst (λ (vs : List (Vec Watcher Global)). KeepsCuts a.circuit.now.drives (map (λ cut. cut.items) a.leaves.items) a.stale.items a.versions.items (lists_of vs)) (sym whole)
    (cuts_with_more a.circuit.now.drives (map (λ cut. cut.items) a.leaves.items) a.stale.items a.versions.items (lists_of a.watchers.items) (lists_of c.watch.new.watchers) adds c.self.invariant)

pub invariant_of-self-2 : goal.invariant_of-self-2
invariant_of-self-2 c =
    let a = c.self.inside in
    let g = c.gate.inside.0 in
    let cut = c.args.leaves.items in
    let long : length c.watch.new.watchers ≡ a.watchers.len = omega (arith, c.watch.auto.watchers, c.deref_mut.ensures.len) in
    let whole = take_at c.watch.new.watchers (drop (length c.watch.new.watchers) a.watchers.items) a.watchers.len long in
    let adds = subst (λ (vs : List (Vec Watcher Global)). AddsWatchers (lists_of vs) (lists_of c.watch.new.watchers)) c.deref_mut.ensures.value c.in_ok-watch.ensures.adds in
    let more = cuts_with_more a.circuit.now.drives (map (λ cut. cut.items) a.leaves.items) a.stale.items a.versions.items (lists_of a.watchers.items) (lists_of c.watch.new.watchers) adds c.self.invariant in
    let leaves_long : length c.put.new.leaves ≡ a.leaves.len = omega (arith, c.put.auto.leaves, c.deref_mut-2.ensures.len) in
    let is = ap (map (λ cut. cut.items)) (take_at c.put.new.leaves (drop (length c.put.new.leaves) a.leaves.items) a.leaves.len leaves_long) ∙ c.put.ensures
    ∙ ap (λ ls. slice_set (map (λ cut. cut.items) ls) g cut) c.deref_mut-2.ensures.value in
    let low : g < length a.circuit.now.drives = subst (λ (k : Kept). g < length k.circuit.drives) (sym c.self.view_is) (omega (arith, c.requires.gate, c.gate.view_is)) in
    let within = subst (λ (k : Kept). (y : Node) → Contains cut y → y.signal < length k.circuit.drives) (sym c.self.view_is) c.requires.within in
    let version : ℕ = (c.index.result.now + 1) % 4294967296 in
    let watched : AreWatchedAs a.circuit.now.drives g version cut (lists_of c.watch.new.watchers) =
    subst (λ h. AreWatchedAs a.circuit.now.drives h version cut (lists_of c.watch.new.watchers)) (sym c.gate.view_is)
    (subst (λ (ys : List Node). AreWatchedAs a.circuit.now.drives c.args.gate version ys (lists_of c.watch.new.watchers)) c.as_slice.ensures c.in_ok-watch.ensures.watched) in
    let leaves_after = take a.leaves.len (c.put.new.leaves ++ drop (length c.put.new.leaves) a.leaves.items) in
    subst (λ (vs : List (Vec Watcher Global)). KeepsCuts a.circuit.now.drives (map (λ cut. cut.items) leaves_after) (slice_set a.stale.items g false) (slice_set a.versions.items g version) (lists_of vs)) (sym whole)
    (subst (λ (ls : List (List Node)). KeepsCuts a.circuit.now.drives ls (slice_set a.stale.items g false) (slice_set a.versions.items g version) (lists_of c.watch.new.watchers)) (sym is)
    (cuts_with_new a.circuit.now.drives (map (λ cut. cut.items) a.leaves.items) a.stale.items a.versions.items (lists_of c.watch.new.watchers) g version cut low within watched more))

pub returns-clause-kept : goal.returns-clause-kept
returns-clause-kept c =
    let a = c.self.inside in
    let g = c.gate.inside.0 in
    let cut = c.args.leaves.items in
    let leaves_long : length c.put.new.leaves ≡ a.leaves.len = omega (arith, c.put.auto.leaves, c.deref_mut-2.ensures.len) in
    let is = ap (map (λ cut. cut.items)) (take_at c.put.new.leaves (drop (length c.put.new.leaves) a.leaves.items) a.leaves.len leaves_long) ∙ c.put.ensures
    ∙ ap (λ ls. slice_set (map (λ cut. cut.items) ls) g cut) c.deref_mut-2.ensures.value in (
      is ∙ ap (λ (k : Kept). slice_set k.leaves g cut) c.self.view_is ∙ ap (λ i. slice_set c.args.self.now.leaves i cut) c.gate.view_is,
      ap (λ (k : Kept). slice_set k.stale g false) c.self.view_is ∙ ap (λ i. slice_set c.args.self.now.stale i false) c.gate.view_is,
    )
