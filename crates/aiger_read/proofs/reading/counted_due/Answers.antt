-- Line by line the statements and the variables grow, and the first line with a fault ends the reading.
use Rattle.std.proofs.Common.{◌≡◌, ◌∷◌, [], ◌++◌, sym, ap, ◌∙◌, arith}
use Rattle.std.proofs.lemmas.Result.{err_from_is_err_and}
use Rattle.aiger_read.specs.declared.statement.Statement.{Statement}
use Rattle.aiger_read.specs.Header.{counted}
use Rattle.aiger_read.specs.Statements.{defined_in, statements}
use Rattle.aiger_read.specs.Steps.{texts}
use Rattle.aiger_read.proofs.ReadLemmas.{lawful_first, step_lawful, step_fault, step_body, step_variables, statements_none, body_whole}
use Rattle.aiger_read.proofs.reading.counted_due.Goals as goal

pub loop-taken-init : goal.loop-taken-init
loop-taken-init c =
    let lines = texts c.args.lines.now in
    let none = statements_none c.args.header.now lines in
    record {
      lawful = lawful_first lines c.requires.lawful;
      within = c.requires.some;
      body = c.new-body.ensures.items ∙ sym none;
      variables = c.new-variables.ensures ∙ ap defined_in (sym none);
    }

pub returns-in_err-statement_due-clause-fault : goal.returns-in_err-statement_due-clause-fault
returns-in_err-statement_due-clause-fault c =
    let p = err_from_is_err_and c.from_residual.result c.from_residual.ensures.1 in
    rw (p.1, p.2)
    (step_fault (texts c.args.lines.now) c.args.header.now c.loop-taken.taken c.in_err-statement_due.field-0.0 c.requires.header (omega arith) c.loop-taken.invariant.lawful
    c.in_err-statement_due.ensures.fault)

pub loop-taken-preserved : goal.loop-taken-preserved
loop-taken-preserved c =
    let lines = texts c.args.lines.now in
    let h = c.args.header.now in
    let k = c.loop-taken.taken in
    record {
      lawful = step_lawful lines h k c.requires.header (omega arith) c.loop-taken.invariant.lawful c.in_ok-statement_due.ensures.lawful;
      within = c.in_ok-statement_due.ensures.within;
      body = step_body h lines k c.loop-taken.body.items c.push.new.self.items c.loop-taken.invariant.body
          (c.in_ok-push.ensures.items ∙ ap (λ (s : Statement). c.loop-taken.body.items ++ s ∷ []) c.in_ok-statement_due.ensures.said);
      variables = step_variables h lines k c.loop-taken.variables c.statement_due.new.variables c.loop-taken.invariant.variables c.in_ok-statement_due.ensures.defined;
    }

pub returns-clause-body : goal.returns-clause-body
returns-clause-body c =
    let lines = texts c.args.lines.now in
    let h = c.args.header.now in
    let end : c.loop-taken.taken ≡ counted h = omega (arith, c.loop-taken.auto.taken-end, c.loop-taken-test.false, c.counted-taken-end.ensures) in
    c.loop-taken.invariant.body ∙ ap (statements h lines) end ∙ body_whole lines h c.requires.header

pub returns-clause-variables : goal.returns-clause-variables
returns-clause-variables c =
    let lines = texts c.args.lines.now in
    let h = c.args.header.now in
    let end : c.loop-taken.taken ≡ counted h = omega (arith, c.loop-taken.auto.taken-end, c.loop-taken-test.false, c.counted-taken-end.ensures) in
    c.loop-taken.invariant.variables ∙ ap defined_in (ap (statements h lines) end ∙ body_whole lines h c.requires.header)
