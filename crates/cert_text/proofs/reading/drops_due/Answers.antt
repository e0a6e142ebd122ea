-- One more is read, or the first fault is found.
use Rattle.std.proofs.Common.{[], ◌∷◌, ◌+◌, map, List, sym, ap, ◌∙◌, subst, eqb, arith}
use Rattle.std.proofs.lemmas.List.{map-append}
use Rattle.std.proofs.lemmas.Result.{err_from_is_err_and}
use Rattle.tm_replay.specs.Replays.{drop_of}
use Rattle.tm_replay.specs.Replays.{Drop}
use Rattle.cert_text.specs.declared.keyword.Keyword.TheVariants as keywords
use Rattle.cert_text.specs.Words.{drop_on}
use Rattle.cert_text.specs.Faults.{pieces_of}
use Rattle.cert_text.specs.Steps.{TakesEach}
use Rattle.cert_text.proofs.Lists.{length-pieces}
use Rattle.cert_text.proofs.StepLemmas.{each_none, each_more, each_stops}
use Rattle.cert_text.proofs.reading.drops_due.Goals as goal

pub loop-taken-init : goal.loop-taken-init
loop-taken-init c =
    let pieces = pieces_of c.args.lines.rest.now in
    (rw c.new-drops.ensures.items (each_none keywords.Drop drop_on pieces (length-pieces (λ b. eqb b 10) c.args.lines.rest.now)), omega arith)

pub returns-in_err-lowering-clause-fault : goal.returns-in_err-lowering-clause-fault
returns-in_err-lowering-clause-fault c =
    let p = err_from_is_err_and c.from_residual.result c.from_residual.ensures.1 in
    rw (p.1, p.2) (each_stops keywords.Drop drop_on c.loop-taken.taken c.args.many (pieces_of c.args.lines.rest.now) (map drop_of c.loop-taken.drops.items) (pieces_of c.loop-taken.left.rest.now)
    c.args.lines.number c.loop-taken.left.number _ c.loop-taken.invariant.0 c.loop-taken-test.true c.loop-taken.invariant.1 c.in_err-lowering.ensures.fault)

pub loop-taken-preserved : goal.loop-taken-preserved
loop-taken-preserved c =
    let before = c.loop-taken.drops.items in
    let value = c.in_ok-lowering.lowering in
    let end = pieces_of c.in_ok-lowering.after.rest.now in
    let more = each_more keywords.Drop drop_on c.loop-taken.taken (pieces_of c.args.lines.rest.now) (map drop_of before) (pieces_of c.loop-taken.left.rest.now) (drop_of value) end
    c.loop-taken.invariant.0 c.in_ok-lowering.ensures.told in
    let all = ap (map drop_of) c.in_ok-push.ensures.items ∙ map-append drop_of before (value ∷ []) in (
      subst (λ (values : List Drop). TakesEach keywords.Drop drop_on (c.loop-taken.taken + 1) (pieces_of c.args.lines.rest.now) values end) (sym all) more,
      omega (arith, c.in_ok-lowering.ensures.number, c.loop-taken.invariant.1),
    )
