-- Each turn takes something, and the end comes by a lost source or by an empty queue.
use Rattle.std.proofs.Common.{◌≡◌, ◌⊎◌, Bool, List, Option, sym, subst}
use Rattle.std.proofs.lemmas.Bool.{MatchBool-at_true, MatchBool-at_false}
use Rattle.tm_unroll.specs.Latches.{need_of}
use Rattle.tm_replay.specs.declared.label.Label.{Label}
use Rattle.tm_replay.specs.Replays.{HaveLost}
use Rattle.tm_merge.specs.Leading.{AreMarked}
use Rattle.tm_labels.specs.Marks.{IsUnmarked}
use Rattle.tm_labels.specs.Settled.{Settling, IsSettledOrLost}
use Rattle.tm_labels.specs.Working.{Working, Leaves, Lowers, IsTaskOf}
use Rattle.tm_labels.proofs.TurnLemmas.{turn_ends, turn_task, task_on, lost_at_end, done_at_end}
use Rattle.tm_labels.proofs.settling.settle_outputs.Goals as goal

pub loop-work-smaller : goal.loop-work-smaller
loop-work-smaller c =
    let old = c.loop-work.work in
    let new = c.turn.new.self in
    turn_ends old new (MatchBool-at_true (Leaves old new ⊎ Lowers old new) (IsUnmarked old.queued × (new ≡ old)) c.if-branch.true c.in_ok-turn.ensures.turn)

pub loop-work-preserved : goal.loop-work-preserved
loop-work-preserved c =
    let old = c.loop-work.work in
    let new = c.turn.new.self in
    let changed = MatchBool-at_true (Leaves old new ⊎ Lowers old new) (IsUnmarked old.queued × (new ≡ old)) c.if-branch.true c.in_ok-turn.ensures.turn in
    task_on c.args.base c.args.circuit.now c.args.k c.args.d c.args.target c.in_ok-work.work.counts old new c.loop-work.invariant (turn_task old new changed)

pub returns-then-have_lost_from-clause-ends : goal.returns-then-have_lost_from-clause-ends
returns-then-have_lost_from-clause-ends c =
    let old = c.loop-work.work in
    let new = c.turn.new.self in
    let circuit = c.args.circuit.now in
    let counts = c.in_ok-work.work.counts in
    let changed = MatchBool-at_true (Leaves old new ⊎ Lowers old new) (IsUnmarked old.queued × (new ≡ old)) c.if-branch.true c.in_ok-turn.ensures.turn in
    let task = task_on c.args.base circuit c.args.k c.args.d c.args.target counts old new c.loop-work.invariant (turn_task old new changed) in
    let lost = subst (λ (ls : List (Option Label)). HaveLost (need_of c.args.base circuit) circuit ls) c.labels.ensures (c.have_lost_from.ensures.0 c.if-have_lost_from.true) in
    subst (λ (s : Settling). IsSettledOrLost c.args.base circuit c.args.k c.args.d c.args.target s) (sym c.into_settled.ensures.settling)
    (lost_at_end c.args.base circuit c.args.k c.args.d c.args.target counts new task c.into_settled.ensures.working lost)

pub returns-clause-ends : goal.returns-clause-ends
returns-clause-ends c =
    let old = c.loop-work.work in
    let new = c.turn.new.self in
    let circuit = c.args.circuit.now in
    let counts = c.in_ok-work.work.counts in
    let ended = MatchBool-at_false (Leaves old new ⊎ Lowers old new) (IsUnmarked old.queued × (new ≡ old)) c.if-branch.false c.in_ok-turn.ensures.turn in
    let task = subst (λ (w : Working). IsTaskOf c.args.base circuit c.args.k c.args.d c.args.target counts w) (sym ended.1) c.loop-work.invariant in
    let marked = subst (λ (ms : List Bool). AreMarked circuit ms) (sym c.in_ok-work.ensures.task.counts_are) c.in_ok-counts.ensures in
    subst (λ (s : Settling). IsSettledOrLost c.args.base circuit c.args.k c.args.d c.args.target s) (sym c.into_settled-2.ensures.settling)
    (done_at_end c.args.base circuit c.args.k c.args.d c.args.target counts new marked task c.into_settled-2.ensures.working (subst (λ (w : Working). IsUnmarked w.queued) (sym ended.1) ended.0))
