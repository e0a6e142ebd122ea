use Rattle.std.proofs.Common.{◌≡◌, ◌<◌, ◌∙◌, ap, sym, arith, length, map, take, None, Some}
use Rattle.blif_read.specs.Seen.{before_of}
use Rattle.blif_read.specs.Unit.{told_of, telling_of}
use Rattle.blif_read.specs.Whole.{Before, before, fault_in_statement}
use Rattle.blif_read.proofs.WholeLemmas.{statement_broken, statement_passed, statement_seen, statements_passed}
use Rattle.blif_read.proofs.whole.test_statements.Goals as goal

pub returns-in-Some-clause-fault : goal.returns-in-Some-clause-fault
returns-in-Some-clause-fault c =
    let within : c.loop-stated.stated-index < length c.args.body.now = omega arith in
    let told = told_of c.stated-item.result.what in
    let here : fault_in_statement c.args.name (before (map telling_of (take c.loop-stated.stated-index c.args.body.now))) told ≡ Some c.in-Some.kind
    = ap (λ (seen : Before). fault_in_statement c.args.name seen told) (sym c.loop-stated.invariant.seen) ∙ sym c.in_ok-kind.ensures.kind ∙ c.in-Some.is in
    rw c.at.ensures
    (statement_broken c.args.name c.args.body.now c.loop-stated.stated-index c.stated-item.result c.in-Some.kind within c.stated-item.is c.loop-stated.invariant.rest here)

pub loop-stated-preserved : goal.loop-stated-preserved
loop-stated-preserved c =
    let within : c.loop-stated.stated-index < length c.args.body.now = omega arith in
    let told = told_of c.stated-item.result.what in
    let here : fault_in_statement c.args.name (before (map telling_of (take c.loop-stated.stated-index c.args.body.now))) told ≡ None
    = ap (λ (seen : Before). fault_in_statement c.args.name seen told) (sym c.loop-stated.invariant.seen) ∙ sym c.in_ok-kind.ensures.kind ∙ c.in_default.is in
    record {
      seen = statement_seen c.args.body.now c.loop-stated.stated-index c.stated-item.result (before_of c.loop-stated.seen) (before_of c.test.new.seen) within c.stated-item.is
          c.loop-stated.invariant.seen (c.in_ok-kind.ensures.seen c.in_default.is);
      rest = statement_passed c.args.name c.args.body.now c.loop-stated.stated-index c.stated-item.result within c.stated-item.is c.loop-stated.invariant.rest here;
    }

pub returns-clause-lawful : goal.returns-clause-lawful
returns-clause-lawful c = statements_passed c.args.name c.args.body.now c.loop-stated.stated-index (omega arith) c.loop-stated.invariant.rest
