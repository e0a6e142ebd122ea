-- A gate without a label leaves the queue, and a refusal makes a drop.
use Rattle.std.proofs.Common.{◌≡◌, Bool, true, false, List, Option, None, Some, sym, ◌∙◌, ap, subst, inr, refl}
use Rattle.std.specs.Prelude.{slice_set}
use Rattle.tm_flow.specs.Lists.{lists_in}
use Rattle.tm_unroll.specs.Nodes.{node_at}
use Rattle.tm_replay.specs.declared.label.Label.{Label}
use Rattle.tm_replay.specs.Labels.{label_in}
use Rattle.tm_replay.specs.Replays.{Drop, IsLawfulDrop}
use Rattle.tm_labels.specs.declared.find.Step.{Step}
use Rattle.tm_labels.specs.Steps.{IsStep}
use Rattle.tm_labels.specs.Marks.{is_marked}
use Rattle.tm_labels.specs.Working.{Working}
use Rattle.tm_labels.specs.Keeping.{working_of}
use Rattle.tm_labels.proofs.KeepLemmas.{leaves_without}
use Rattle.tm_labels.proofs.WorkLemmas.{keeps_as, lawful_drop, requeued, lowering_as}
use Rattle.tm_labels.proofs.work.Work.turn.Goals as goal

pub invariant_of-self-in_default-label_of : goal.invariant_of-self-in_default-label_of
invariant_of-self-in_default-label_of c =
    let a = c.self.inside in
    let g = c.in-Some.gate in
    let gone : label_in a.labels.items g ≡ None = ap (λ (ls : List (Option Label)). label_in ls g) (sym c.deref.ensures.value) ∙ sym c.label_of.ensures ∙ c.in_default-label_of.is in
    record {
      task = c.self.invariant.task;
      stale_sized = c.self.invariant.stale_sized;
      leaves_sized = c.self.invariant.leaves_sized;
      keeps = keeps_as a.base a.cuts.circuit a.cuts.circuit a.k a.d a.target a.counts.items (slice_set a.queue g false) c.leave_lost.new.self a.labels.items _ a.cuts.leaves a.cuts.leaves a.cuts.stale a.cuts.stale
          refl (c.leave_lost.ensures ∙ ap (λ (q : List Bool). slice_set q g false) c.first.ensures.same) refl refl
          (leaves_without a.base a.cuts.circuit a.k a.d a.target a.counts.items a.queue a.labels.items _ a.cuts.leaves a.cuts.stale c.self.invariant.keeps g gone);
    }

pub lower-requires-clause-lawful : goal.lower-requires-clause-lawful
lower-requires-clause-lawful c =
    let a = c.self.inside in
    let g = c.in-Some.gate in
    let x = c.in-Some-label_of.label in
    let has : label_in a.labels.items g ≡ Some x = ap (λ (ls : List (Option Label)). label_in ls g) (sym c.deref.ensures.value) ∙ sym c.label_of.ensures ∙ c.in-Some-label_of.is in
    let step = subst (λ (s : Step). IsStep a.base a.cuts.circuit a.k a.labels.items x.arrival a.target (node_at x.lag g) s) c.in-Refused.is c.in_ok-leaves.ensures.step in
    let walks = lists_in c.in-Refused.refusal.walks.items in
    subst (λ (w : Working). IsLawfulDrop w.base w.circuit w.k w.target w.labels (record { gate = g; lag = x.lag; arrival = c.in-Refused.refusal.arrival; walks = walks }))
    (sym (c.visit.ensures.same ∙ requeued (working_of a) c.first.new.self c.first.ensures.same))
    (lawful_drop a.base a.cuts.circuit a.k a.d a.target a.labels.items g x c.in-Refused.refusal c.self.invariant.keeps.fit has step)

pub returns-in_ok-lower-in-Refused-clause-turn : goal.returns-in_ok-lower-in-Refused-clause-turn
returns-in_ok-lower-in-Refused-clause-turn c =
    let a = c.self.inside in
    let g = c.in-Some.gate in
    let x = c.in-Some-label_of.label in
    let has : label_in a.labels.items g ≡ Some x = ap (λ (ls : List (Option Label)). label_in ls g) (sym c.deref.ensures.value) ∙ sym c.label_of.ensures ∙ c.in-Some-label_of.is in
    let step = subst (λ (s : Step). IsStep a.base a.cuts.circuit a.k a.labels.items x.arrival a.target (node_at x.lag g) s) c.in-Refused.is c.in_ok-leaves.ensures.step in
    let walks = lists_in c.in-Refused.refusal.walks.items in
    let drop : Drop = record { gate = g; lag = x.lag; arrival = c.in-Refused.refusal.arrival; walks = walks } in
    let same = c.visit.ensures.same ∙ requeued (working_of a) c.first.new.self c.first.ensures.same ∙ c.self.view_is in
    inr (
      drop,
      subst (λ (w : Working). IsLawfulDrop w.base w.circuit w.k w.target w.labels drop) c.self.view_is
          (lawful_drop a.base a.cuts.circuit a.k a.d a.target a.labels.items g x c.in-Refused.refusal c.self.invariant.keeps.fit has step),
      subst (λ (w : Working). is_marked w.queued g ≡ true) c.self.view_is c.in-Some.ensures.first,
      lowering_as drop _ c.args.self.now same c.in_ok-lower-in-Refused.ensures.lowers,
    )
