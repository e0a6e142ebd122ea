-- Each turn takes something, and where none is left each gate has a cut or no label.
use Rattle.std.proofs.Common.{◌≡◌, ◌⊎◌, true, length, replicate, sym, subst}
use Rattle.std.proofs.lemmas.Bool.{MatchBool-at_true, MatchBool-at_false}
use Rattle.tm_labels.specs.Marks.{IsUnmarked}
use Rattle.tm_labels.specs.Settled.{Settling, IsSettled}
use Rattle.tm_labels.specs.Working.{Working, Leaves, Lowers, IsTaskOf}
use Rattle.tm_labels.proofs.TurnLemmas.{turn_ends, settled_all}
use Rattle.tm_labels.proofs.settling.settle.Goals as goal

pub loop-work-smaller : goal.loop-work-smaller
loop-work-smaller c =
    let old = c.loop-work.work in
    let new = c.turn.new.self in
    turn_ends old new (MatchBool-at_true (Leaves old new ⊎ Lowers old new) (IsUnmarked old.queued × (new ≡ old)) c.if-branch.true c.in_ok-turn.ensures.turn)

pub returns-clause-settled : goal.returns-clause-settled
returns-clause-settled c =
    let old = c.loop-work.work in
    let new = c.turn.new.self in
    let circuit = c.args.circuit.now in
    let ended = MatchBool-at_false (Leaves old new ⊎ Lowers old new) (IsUnmarked old.queued × (new ≡ old)) c.if-branch.false c.in_ok-turn.ensures.turn in
    let task = subst (λ (w : Working). IsTaskOf 0 circuit c.args.k c.args.d c.args.target (replicate (length circuit.drives) true) w) (sym ended.1) c.loop-work.invariant in
    subst (λ (s : Settling). IsSettled 0 circuit c.args.k c.args.d s) (sym c.into_settled.ensures.settling)
    (settled_all 0 circuit c.args.k c.args.d c.args.target new task c.into_settled.ensures.working (subst (λ (w : Working). IsUnmarked w.queued) (sym ended.1) ended.0))
