-- An output without a table is the first, and one with its table is one more.
use Rattle.std.proofs.Common.{length, sym, ◌∙◌, ap, arith}
use Rattle.std.proofs.lemmas.Bool.{false≢true}
use Rattle.tm_unroll.proofs.VerdictLemmas.{reads-at, given_next}
use Rattle.tm_unroll.proofs.lawfulness.first_missing.Goals as goal

pub returns-then-not-has_source_table : goal.returns-then-not-has_source_table
returns-then-not-has_source_table c =
    let at = reads-at c.outputs-output-items.result.now c.args.circuit.now.outputs c.loop-place.place c.output-item.result c.outputs-output-items.ensures c.loop-place-test.true c.output-item.is in
    λ tables lags. record {
      output = c.output-item.result;
      at = at;
      before = c.loop-place.invariant tables lags;
      fails = λ serves. false≢true (sym c.if-not-has_source_table.true ∙ (c.has_source_table.ensures tables lags).1 serves);
    }

pub loop-place-preserved : goal.loop-place-preserved
loop-place-preserved c =
    let at = reads-at c.outputs-output-items.result.now c.args.circuit.now.outputs c.loop-place.place c.output-item.result c.outputs-output-items.ensures c.loop-place-test.true c.output-item.is in
    λ tables lags. given_next c.args.circuit.now tables c.loop-place.place c.output-item.result (c.loop-place.invariant tables lags) at
    ((c.has_source_table.ensures tables lags).0 c.if-not-has_source_table.false)

pub returns : goal.returns
returns c =
    λ tables lags place s inside at. c.loop-place.invariant tables lags place s (omega (arith, inside, c.loop-place-test.false, ap length c.outputs-output-items.ensures)) at
