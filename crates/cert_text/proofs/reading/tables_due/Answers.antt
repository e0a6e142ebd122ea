-- One more is read, or the first fault is found.
use Rattle.std.proofs.Common.{[], ◌∷◌, ◌+◌, map, List, sym, ap, ◌∙◌, subst, eqb, arith}
use Rattle.std.proofs.lemmas.List.{map-append}
use Rattle.std.proofs.lemmas.Result.{err_from_is_err_and}
use Rattle.tm_unroll.specs.Mappings.{table_of}
use Rattle.tm_unroll.specs.Mappings.{Table}
use Rattle.cert_text.specs.declared.keyword.Keyword.TheVariants as keywords
use Rattle.cert_text.specs.Words.{table_on}
use Rattle.cert_text.specs.Faults.{pieces_of}
use Rattle.cert_text.specs.Steps.{TakesEach}
use Rattle.cert_text.proofs.Lists.{length-pieces}
use Rattle.cert_text.proofs.StepLemmas.{each_none, each_more, each_stops}
use Rattle.cert_text.proofs.reading.tables_due.Goals as goal

pub loop-taken-init : goal.loop-taken-init
loop-taken-init c =
    let pieces = pieces_of c.args.lines.rest.now in
    (rw c.new-luts.ensures.items (each_none keywords.Table table_on pieces (length-pieces (λ b. eqb b 10) c.args.lines.rest.now)), omega arith)

pub returns-in_err-lut-clause-fault : goal.returns-in_err-lut-clause-fault
returns-in_err-lut-clause-fault c =
    let p = err_from_is_err_and c.from_residual.result c.from_residual.ensures.1 in
    rw (p.1, p.2) (each_stops keywords.Table table_on c.loop-taken.taken c.args.many (pieces_of c.args.lines.rest.now) (map table_of c.loop-taken.luts.items) (pieces_of c.loop-taken.left.rest.now)
    c.args.lines.number c.loop-taken.left.number _ c.loop-taken.invariant.0 c.loop-taken-test.true c.loop-taken.invariant.1 c.in_err-lut.ensures.fault)

pub loop-taken-preserved : goal.loop-taken-preserved
loop-taken-preserved c =
    let before = c.loop-taken.luts.items in
    let value = c.in_ok-lut.lut in
    let end = pieces_of c.in_ok-lut.after.rest.now in
    let more = each_more keywords.Table table_on c.loop-taken.taken (pieces_of c.args.lines.rest.now) (map table_of before) (pieces_of c.loop-taken.left.rest.now) (table_of value) end
    c.loop-taken.invariant.0 c.in_ok-lut.ensures.told in
    let all = ap (map table_of) c.in_ok-push.ensures.items ∙ map-append table_of before (value ∷ []) in (
      subst (λ (values : List Table). TakesEach keywords.Table table_on (c.loop-taken.taken + 1) (pieces_of c.args.lines.rest.now) values end) (sym all) more,
      omega (arith, c.in_ok-lut.ensures.number, c.loop-taken.invariant.1),
    )
