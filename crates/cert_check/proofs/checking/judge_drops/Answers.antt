use Rattle.std.proofs.Common.{map}
use Rattle.std.proofs.lemmas.Bool.{both_ways}
use Rattle.tm_replay.specs.Replays.{drop_of}
use Rattle.cert_check.proofs.DropLemmas.{on_none, on_lost, on_kept}
use Rattle.cert_check.proofs.checking.judge_drops.Goals as goal
use Rattle.cert_check.proofs.checking.judge_drops.Goals.{then-have_lost, else-have_lost}

pub returns-then-period-eq0 : goal.returns-then-period-eq0
returns-then-period-eq0 c =
    on_none c.args.circuit.now c.args.k c.args.d c.args.period c.args.drops.now c.judge_as_none.result c.if-period-eq0.true c.judge_as_none.ensures.empty c.judge_as_none.ensures.some

pub returns-after-have_lost : goal.returns-after-have_lost
returns-after-have_lost c =
    let ends = rw c.in-Labels.is at c.in_ok-fault.ensures in
    elim c.if-have_lost.branch [
      | then-have_lost w ↦
          on_lost c.args.circuit.now c.args.k c.args.d c.args.period (map drop_of c.args.drops.now) c.in-Labels.labels.items c.deref.result.now c.if-have_lost.result c.if-period-eq0.false ends
          c.deref.ensures.value (c.have_lost.ensures.0 w.if-have_lost.true) w.result-is
      | else-have_lost w ↦
          on_kept c.args.circuit.now c.args.k c.args.d c.args.period (map drop_of c.args.drops.now) c.in-Labels.labels.items c.deref.result.now c.if-have_lost.result c.if-period-eq0.false ends
          c.deref.ensures.value (λ lost. both_ways _ w.if-have_lost.false (c.have_lost.ensures.1 lost)) w.result-is
    ]
