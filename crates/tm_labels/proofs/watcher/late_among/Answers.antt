-- Watcher by watcher.
use Rattle.std.proofs.Common.{ℕ, ◌+◌, List, [], take, map, Global, sym, ◌∙◌, ap, subst}
use Rattle.std.specs.Prelude.{Vec}
use Rattle.std.proofs.lemmas.Bool.{MatchBool-at_true, MatchBool-at_false}
use Rattle.tm_labels.specs.Watched.{AreLateAmong, IsLate}
use Rattle.tm_labels.proofs.WatchLemmas.{late_none, late_yes, late_no, late_all}
use Rattle.tm_labels.proofs.watcher.late_among.Goals as goal
use Rattle.tm_labels.proofs.watcher.late_among.Goals.{then-is_late+in_ok-push, else-is_late}

pub loop-watcher-init : goal.loop-watcher-init
loop-watcher-init c =
    let m = c.args.moment.now in
    late_none m.base m.circuit.now m.labels.now m.counts.now m.queued.now (map (λ cut. cut.items) m.leaves.now) [] c.new-late.result.items c.new-late.ensures.items

pub loop-watcher-preserved : goal.loop-watcher-preserved
loop-watcher-preserved c =
    let m = c.args.moment.now in
    let i = c.loop-watcher.watcher-index in
    let w = c.watcher-item.result in
    let late = IsLate m.base m.circuit.now m.labels.now m.counts.now m.queued.now (map (λ cut. cut.items) m.leaves.now) w.gate w.node in
    elim c.if-is_late.branch [
      | then-is_late+in_ok-push v ↦
          subst (λ (gs : List ℕ). AreLateAmong m.base m.circuit.now m.labels.now m.counts.now m.queued.now (map (λ cut. cut.items) m.leaves.now) (take (i + 1) c.args.watchers.now) gs)
          (sym (ap (λ (x : Vec ℕ Global). x.items) v.late-is ∙ v.in_ok-push.ensures.items))
          (late_yes m.base m.circuit.now m.labels.now m.counts.now m.queued.now (map (λ cut. cut.items) m.leaves.now) c.args.watchers.now i w c.loop-watcher.late.items c.loop-watcher-test.true c.watcher-item.is
          c.loop-watcher.invariant (MatchBool-at_true late (late → ⊥) v.if-is_late.true c.is_late.ensures))
      | else-is_late v ↦
          subst (λ (gs : List ℕ). AreLateAmong m.base m.circuit.now m.labels.now m.counts.now m.queued.now (map (λ cut. cut.items) m.leaves.now) (take (i + 1) c.args.watchers.now) gs)
          (sym (ap (λ (x : Vec ℕ Global). x.items) v.late-is))
          (late_no m.base m.circuit.now m.labels.now m.counts.now m.queued.now (map (λ cut. cut.items) m.leaves.now) c.args.watchers.now i w c.loop-watcher.late.items c.loop-watcher-test.true c.watcher-item.is
          c.loop-watcher.invariant (MatchBool-at_false late (late → ⊥) v.if-is_late.false c.is_late.ensures))
    ]

pub returns : goal.returns
returns c =
    let m = c.args.moment.now in
    late_all m.base m.circuit.now m.labels.now m.counts.now m.queued.now (map (λ cut. cut.items) m.leaves.now) c.args.watchers.now c.loop-watcher.watcher-index c.loop-watcher.late.items
    c.loop-watcher-test.false c.loop-watcher.invariant
