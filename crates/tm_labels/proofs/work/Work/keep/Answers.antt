-- The gate has a cut, and waits no more.
use Rattle.std.proofs.Common.{◌≡◌, ◌-◌, ◌<◌, false, length, Some, sym, ◌∙◌, ap, subst, arith}
use Rattle.std.specs.Prelude.{slice_set}
use Rattle.std.proofs.lemmas.List.{length-set}
use Rattle.tm_circuit.specs.Plain.{Plain}
use Rattle.tm_circuit.specs.Sound.{IsSound}
use Rattle.tm_unroll.specs.Nodes.{node_at}
use Rattle.tm_unroll.proofs.JudgeLemmas.{gate_within}
use Rattle.tm_replay.specs.Labels.{label_in}
use Rattle.tm_merge.specs.Cuts.{IsCutWithin}
use Rattle.tm_labels.specs.Working.{Working}
use Rattle.tm_labels.specs.Keeping.{IsTask}
use Rattle.tm_labels.proofs.KeepLemmas.{leaves_with}
use Rattle.tm_labels.proofs.WorkLemmas.{keeps_as, cut_within}
use Rattle.tm_labels.proofs.work.Work.keep.Goals as goal

pub keep-requires-clause-within : goal.keep-requires-clause-within
keep-requires-clause-within c =
    let a = c.self.inside in
    let has = subst (λ (w : Working). label_in w.labels c.args.gate ≡ Some c.args.label) (sym c.self.view_is) c.requires.has in
    let cut = subst (λ (w : Working). IsCutWithin w.base w.circuit w.k w.labels (c.args.label.arrival - 1) (node_at c.args.label.lag c.args.gate) c.args.leaves.items) (sym c.self.view_is) c.requires.cut in
    cut_within a.base a.cuts.circuit a.k a.d a.target a.labels.items c.args.gate c.args.label (c.args.label.arrival - 1) c.args.leaves.items (subst IsSound c.circuit.ensures c.signals-sound.ensures.sound) c.self.invariant.keeps.fit has cut

pub invariant_of-self-2 : goal.invariant_of-self-2
invariant_of-self-2 c =
    let a = c.self.inside in
    let g = c.args.gate in
    let circuit = c.keep.ensures.circuit in
    let has = subst (λ (w : Working). label_in w.labels g ≡ Some c.args.label) (sym c.self.view_is) c.requires.has in
    let cut = subst (λ (w : Working). IsCutWithin w.base w.circuit w.k w.labels (c.args.label.arrival - 1) (node_at c.args.label.lag g) c.args.leaves.items) (sym c.self.view_is) c.requires.cut in
    let within : g < length a.cuts.leaves = let low = gate_within a.cuts.circuit.drives g (c.self.invariant.keeps.fit g c.args.label has).0 in omega (arith, low, c.self.invariant.leaves_sized) in
    record {
      task = subst (λ (p : Plain). IsTask a.base p a.k a.d a.target) (sym circuit) c.self.invariant.task;
      stale_sized = ap length c.in_ok-keep.ensures.kept.1 ∙ length-set a.cuts.stale g false ∙ c.self.invariant.stale_sized ∙ ap (λ (p : Plain). length p.drives) (sym circuit);
      leaves_sized = ap length c.in_ok-keep.ensures.kept.0 ∙ length-set a.cuts.leaves g c.args.leaves.items ∙ c.self.invariant.leaves_sized ∙ ap (λ (p : Plain). length p.drives) (sym circuit);
      keeps = keeps_as a.base a.cuts.circuit c.keep.new.self.circuit a.k a.d a.target a.counts.items (slice_set a.queue g false) c.leave.new.self a.labels.items _ (slice_set a.cuts.leaves g c.args.leaves.items) c.keep.new.self.leaves
          (slice_set a.cuts.stale g false) c.keep.new.self.stale circuit c.leave.ensures c.in_ok-keep.ensures.kept.0 c.in_ok-keep.ensures.kept.1
          (leaves_with a.base a.cuts.circuit a.k a.d a.target a.counts.items a.queue a.labels.items _ a.cuts.leaves a.cuts.stale c.self.invariant.keeps g c.args.label c.args.leaves.items has within cut);
    }
