use Rattle.std.proofs.Common.{sym, subst}
use Rattle.std.specs.Prelude.{Option}
use Rattle.tm_replay.specs.declared.fault.DropWhy.{DropWhy}
use Rattle.tm_replay.specs.Replays.{drop_of}
use Rattle.tm_replay.specs.Faults.{IsJudged}
use Rattle.tm_replay.proofs.MomentLemmas.{judged_at}
use Rattle.tm_replay.proofs.drops.judge_drop.Goals as goal

pub returns : goal.returns
returns c =
    subst (λ (answer : Option DropWhy). IsJudged c.args.base c.args.circuit.now c.args.k c.args.target c.args.labels.now (drop_of c.args.drop.now) answer) (sym c.why_of.ensures)
    (judged_at c.args.base c.args.circuit.now c.args.k c.from.result c.args.target c.args.labels.now c.args.drop.now c.deref.result.now c.in_ok-fault.fault (c.is_in_order.ensures.0 c.if-not-is_in_order.false)
    c.from.ensures c.deref.ensures.value c.in_ok-fault.ensures.barrier c.in_ok-fault.ensures.fault)
