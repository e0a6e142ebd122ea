use Rattle.std.proofs.Common.{refl, arith}
use Rattle.std.proofs.lemmas.Bool.{both_ways, false≢true}
use Rattle.cert_check.proofs.AgreeLemmas.{read_same, places_more, same_by_places}
use Rattle.cert_check.proofs.agreement.are_same_rows.Goals as goal

pub returns-then-not-is_same_row : goal.returns-then-not-is_same_row
returns-then-not-is_same_row c = (
  λ yes. absurd (false≢true yes),
  λ same. absurd (both_ways _ c.if-not-is_same_row.true (c.is_same_row.ensures.1
      (read_same c.args.rows.now c.args.others.now c.loop-i.i c.index-rows-i.result c.index-others-i.result same c.loop-i-test.true c.index-rows-i.is c.index-others-i.is))),
)

pub loop-i-preserved : goal.loop-i-preserved
loop-i-preserved c =
    places_more c.args.rows.now c.args.others.now c.loop-i.i c.index-rows-i.result c.index-others-i.result c.loop-i.invariant c.loop-i-test.true c.if-rows-others.false
    c.index-rows-i.is c.index-others-i.is (c.is_same_row.ensures.0 c.if-not-is_same_row.false)

pub returns : goal.returns
returns c = (
  λ yes. same_by_places c.args.rows.now c.args.others.now c.if-rows-others.false (λ i within. c.loop-i.invariant i (omega (arith, within, c.loop-i-test.false))),
  λ same. refl,
)
