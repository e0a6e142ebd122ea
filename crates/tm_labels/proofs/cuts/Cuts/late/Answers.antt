-- The late ones are among the watchers that are left.
use Rattle.std.proofs.Common.{◌≡◌, ℕ, ◌<◌, List, [], length, map, get_or, sym, ◌∙◌, ap, subst, arith, Global}
use Rattle.std.specs.Prelude.{slice_set, slice_index, filter, ◌==◌, Contains, Vec}
use Rattle.std.proofs.lemmas.List.{map-set, get_or-set_same, length-map}
use Rattle.std.proofs.lemmas.Result.{IfOk-weaker}
use Rattle.tm_merge.specs.Cuts.{cut_in}
use Rattle.tm_labels.specs.declared.watcher.Watcher.{Watcher}
use Rattle.tm_labels.specs.Watched.{Kept, KeepsCuts, AreLate, AreLateAmong, watchers_in}
use Rattle.tm_labels.proofs.WatchLemmas.{cuts_pruned, late_of, lists_of, listed}
use Rattle.tm_labels.proofs.cuts.Cuts.late.Goals as goal

pub late_among-requires : goal.late_among-requires
late_among-requires c g y leaf =
    c.self.invariant.within g y (subst (λ ls. Contains (cut_in (map (λ cut. cut.items) ls) g) y) c.deref-2.ensures.value leaf)

-- What is left of the watchers of the gate.
left_is : (versions : List ℕ) (watchers : List (Vec Watcher Global)) (g : ℕ) (seen : List ℕ) (old new : Vec Watcher Global) → g < length watchers → seen ≡ versions → old ≡ get_or watchers g old
    → new.items ≡ filter (λ w. slice_index seen w.gate == w.version) old.items
    → new.items ≡ filter (λ w. slice_index versions w.gate == w.version) (watchers_in (lists_of watchers) g)
left_is versions watchers g seen old new within same at left =
    left ∙ ap (λ (vs : List ℕ). filter (λ (w : Watcher). slice_index vs w.gate == w.version) old.items) same
    ∙ ap (filter (λ (w : Watcher). slice_index versions w.gate == w.version)) (ap (λ (v : Vec Watcher Global). v.items) at ∙ sym (listed watchers g old within))

pub invariant_of-self : goal.invariant_of-self
invariant_of-self c =
    let a = c.self.inside in
    let g = c.gate.inside.0 in
    let low : g < length a.circuit.now.drives = subst (λ (k : Kept). g < length k.circuit.drives) (sym c.self.view_is) (omega (arith, c.requires, c.gate.view_is)) in
    let sized = c.self.invariant.watchers_sized in
    let mapped = length-map a.watchers.items (λ (v : Vec Watcher Global). v.items) in
    let is = left_is a.versions.items a.watchers.items g c.deref.result.now c.index_mut.result.now c.prune.new.watchers (omega (arith, low, sized, mapped)) c.deref.ensures.value c.index_mut.ensures.value c.prune.ensures in
    subst (λ (ls : List (List Watcher)). KeepsCuts a.circuit.now.drives (map (λ cut. cut.items) a.leaves.items) a.stale.items a.versions.items ls) (sym (map-set (λ (v : Vec Watcher Global). v.items) a.watchers.items g c.prune.new.watchers))
    (cuts_pruned a.circuit.now.drives (map (λ cut. cut.items) a.leaves.items) a.stale.items a.versions.items (lists_of a.watchers.items) g c.prune.new.watchers.items low is c.self.invariant)

pub returns-clause-late : goal.returns-clause-late
returns-clause-late c =
    let a = c.self.inside in
    let g = c.gate.inside.0 in
    let low : g < length a.circuit.now.drives = subst (λ (k : Kept). g < length k.circuit.drives) (sym c.self.view_is) (omega (arith, c.requires, c.gate.view_is)) in
    let sized = c.self.invariant.watchers_sized in
    let mapped = length-map a.watchers.items (λ (v : Vec Watcher Global). v.items) in
    let within : g < length a.watchers.items = omega (arith, low, sized, mapped) in
    let is = left_is a.versions.items a.watchers.items g c.deref.result.now c.index_mut.result.now c.prune.new.watchers within c.deref.ensures.value c.index_mut.ensures.value c.prune.ensures in
    let leaves = map (λ cut. cut.items) a.leaves.items in
    let pruned = cuts_pruned a.circuit.now.drives leaves a.stale.items a.versions.items (lists_of a.watchers.items) g c.prune.new.watchers.items low is c.self.invariant in
    let seen : c.deref-3.result.now ≡ c.prune.new.watchers.items =
    c.deref-3.ensures.value ∙ ap (λ (v : Vec Watcher Global). v.items) (c.index.ensures ∙ get_or-set_same a.watchers.items g c.prune.new.watchers c.index.result.now within) in
    let here : watchers_in (slice_set (lists_of a.watchers.items) g c.prune.new.watchers.items) g ≡ c.prune.new.watchers.items =
    get_or-set_same (lists_of a.watchers.items) g c.prune.new.watchers.items [] (omega (arith, low, sized)) in
    IfOk-weaker c.late_among.result (λ late. AreLateAmong c.args.base a.circuit.now c.args.labels.now c.args.counts.now c.args.queued.now (map (λ cut. cut.items) c.deref-2.result.now) c.deref-3.result.now late.items)
    (λ late. AreLate c.args.base c.args.self.now.circuit c.args.labels.now c.args.counts.now c.args.queued.now c.args.self.now.leaves c.args.gate late.items)
    (λ late among.
    subst (λ (k : Kept). AreLate c.args.base k.circuit c.args.labels.now c.args.counts.now c.args.queued.now k.leaves c.args.gate late.items) c.self.view_is
    (subst (λ u. AreLate c.args.base a.circuit.now c.args.labels.now c.args.counts.now c.args.queued.now leaves u late.items) c.gate.view_is
    (late_of c.args.base a.circuit.now c.args.labels.now c.args.counts.now c.args.queued.now leaves a.stale.items a.versions.items (slice_set (lists_of a.watchers.items) g c.prune.new.watchers.items) g late.items pruned
    (subst (λ (ws : List Watcher). AreLateAmong c.args.base a.circuit.now c.args.labels.now c.args.counts.now c.args.queued.now leaves ws late.items) (seen ∙ sym here)
    (subst (λ ls. AreLateAmong c.args.base a.circuit.now c.args.labels.now c.args.counts.now c.args.queued.now (map (λ cut. cut.items) ls) c.deref-3.result.now late.items) c.deref-2.ensures.value among)))))
    c.late_among.ensures
