use Rattle.std.proofs.Common.{◌<◌, length, arith}
use Rattle.std.proofs.lemmas.Bool.{MatchBool-at_false}
use Rattle.tm_unroll.specs.Mappings.{table_of}
use Rattle.tm_unroll.proofs.EachLemmas.{each-more, each-all}
use Rattle.tm_absorb.specs.Slots.{IsAdmittedAt}
use Rattle.tm_absorb.proofs.admits.first_refuser.Goals as goal

pub loop-place-preserved : goal.loop-place-preserved
loop-place-preserved c =
    let within : c.loop-place.place < length c.args.gates.now = omega arith in
    each-more (IsAdmittedAt c.args.circuit.now.drives c.args.k c.args.slots.now (table_of c.args.table.now)) c.args.gates.now c.loop-place.place c.index-gates-place.result
    c.loop-place.invariant within c.index-gates-place.is (MatchBool-at_false _ _ c.if-branch.false c.in_ok-refuses.ensures)

pub returns : goal.returns
returns c =
    each-all (IsAdmittedAt c.args.circuit.now.drives c.args.k c.args.slots.now (table_of c.args.table.now)) c.args.gates.now c.loop-place.place c.loop-place.invariant
    (omega (arith, c.loop-place-test.false))
