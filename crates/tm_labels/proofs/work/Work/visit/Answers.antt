-- The cuts that are kept cover where they are not stale, and a label has an arrival from 1 to the target.
use Rattle.std.proofs.Common.{◌≡◌, List, Option, Some, map, sym, subst}
use Rattle.tm_circuit.specs.Plain.{Plain}
use Rattle.tm_replay.specs.declared.label.Label.{Label}
use Rattle.tm_replay.specs.declared.label.Lowering.{Lowering}
use Rattle.tm_labels.specs.Steps.{HaveBarriers}
use Rattle.tm_replay.specs.Labels.{label_in}
use Rattle.tm_labels.specs.Working.{Working}
use Rattle.tm_replay.specs.Replays.{drop_of}
use Rattle.tm_labels.proofs.WorkLemmas.{covers_as, have_barriers}
use Rattle.tm_labels.proofs.work.Work.visit.Goals as goal

pub find-requires-clause-some : goal.find-requires-clause-some
find-requires-clause-some c =
    let has = subst (λ (w : Working). label_in w.labels c.args.gate ≡ Some c.args.label) (sym c.self.view_is) c.requires in
    (c.self.invariant.keeps.fit c.args.gate c.args.label has).1.some

pub find-requires-clause-most : goal.find-requires-clause-most
find-requires-clause-most c =
    let has = subst (λ (w : Working). label_in w.labels c.args.gate ≡ Some c.args.label) (sym c.self.view_is) c.requires in
    (c.self.invariant.keeps.fit c.args.gate c.args.label has).1.most

pub find-requires-clause-cuts : goal.find-requires-clause-cuts
find-requires-clause-cuts c =
    let a = c.self.inside in
    covers_as a.cuts.circuit c.circuit.result.now a.k a.labels.items c.deref.result.now a.cuts.leaves _ a.cuts.stale c.stale.result.now c.circuit.ensures c.deref.ensures.value c.leaves.ensures c.stale.ensures
    c.self.invariant.keeps.covers

pub find-requires-clause-drops : goal.find-requires-clause-drops
find-requires-clause-drops c =
    let a = c.self.inside in
    subst (λ (p : Plain). HaveBarriers a.base p a.k c.deref.result.now (map drop_of c.deref-2.result.now)) (sym c.circuit.ensures)
    (subst (λ (ls : List (Option Label)). HaveBarriers a.base a.cuts.circuit a.k ls (map drop_of c.deref-2.result.now)) (sym c.deref.ensures.value)
    (subst (λ (ds : List Lowering). HaveBarriers a.base a.cuts.circuit a.k a.labels.items (map drop_of ds)) (sym c.deref-2.ensures.value)
    (have_barriers a.base a.cuts.circuit a.k a.d a.target (map drop_of a.drops.items) a.labels.items c.self.invariant.keeps.led)))
