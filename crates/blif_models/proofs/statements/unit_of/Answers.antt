use Rattle.std.proofs.Common.{◌≡◌, ◌∷◌, ◌<◌, arith, length, drop}
use Rattle.std.proofs.lemmas.List.{map-append}
use Rattle.std.proofs.lemmas.Result.{err_from_is_err_and}
use Rattle.blif_models.specs.declared.heads.Said.TheVariants.{Nothing, Model, Body}
use Rattle.blif_models.specs.Statement.{blocks_of}
use Rattle.blif_models.specs.Words.{block_at}
use Rattle.blif_models.proofs.BlockLemmas.{first_block}
use Rattle.blif_models.proofs.UnitLemmas.{broken, has_read_more, all_lawful, all_told}
use Rattle.blif_models.proofs.OrderlyLemmas.{orderly}
use Rattle.blif_models.proofs.statements.unit_of.Goals as goal

pub returns-in_err-statement-clause-fault : goal.returns-in_err-statement-clause-fault
returns-in_err-statement-clause-fault c =
    let inside : c.loop-line.line < length c.args.lines.now = omega arith in
    let first : blocks_of (drop c.loop-line.line c.args.lines.now) ≡ block_at c.args.lines.now c.loop-line.line c.rows_end-end.result ∷ blocks_of (drop c.rows_end-end.result c.args.lines.now)
    = first_block c.args.lines.now c.loop-line.line c.rows_end-end.result inside (c.loop-line.invariant.stop inside) c.rows_end-end.ensures.rows c.rows_end-end.ensures.rest in
    let p = err_from_is_err_and c.from_residual-in_err-statement.result c.from_residual-in_err-statement.ensures.1 in
    rw (p.1, p.2) (broken _ c.args.lines.now c.loop-line.line c.rows_end-end.result _ _ _ _ c.loop-line.invariant first c.in_err-statement.ensures.fault)

pub loop-line-preserved-in-Nothing : goal.loop-line-preserved-in-Nothing
loop-line-preserved-in-Nothing c =
    let inside : c.loop-line.line < length c.args.lines.now = omega arith in
    let first : blocks_of (drop c.loop-line.line c.args.lines.now) ≡ block_at c.args.lines.now c.loop-line.line c.rows_end-end.result ∷ blocks_of (drop c.rows_end-end.result c.args.lines.now)
    = first_block c.args.lines.now c.loop-line.line c.rows_end-end.result inside (c.loop-line.invariant.stop inside) c.rows_end-end.ensures.rows c.rows_end-end.ensures.rest in
    has_read_more Nothing c.args.lines.now c.loop-line.line c.rows_end-end.result _ _ _ _ _ c.loop-line.invariant first c.in_ok-statement.ensures.lawful
    c.in_ok-statement.ensures.seen (rw c.in-Nothing.is at c.in_ok-statement.ensures.told) (rw c.in-Nothing.is at c.in_ok-statement.ensures.name)
    c.rows_end-end.ensures.within c.rows_end-end.ensures.stop

pub loop-line-preserved-in-Model : goal.loop-line-preserved-in-Model
loop-line-preserved-in-Model c =
    let inside : c.loop-line.line < length c.args.lines.now = omega arith in
    let first : blocks_of (drop c.loop-line.line c.args.lines.now) ≡ block_at c.args.lines.now c.loop-line.line c.rows_end-end.result ∷ blocks_of (drop c.rows_end-end.result c.args.lines.now)
    = first_block c.args.lines.now c.loop-line.line c.rows_end-end.result inside (c.loop-line.invariant.stop inside) c.rows_end-end.ensures.rows c.rows_end-end.ensures.rest in
    rw c.number-in-Model.ensures
    (has_read_more (Model c.in-Model.name) c.args.lines.now c.loop-line.line c.rows_end-end.result _ _ _ _ _ c.loop-line.invariant first c.in_ok-statement.ensures.lawful
    c.in_ok-statement.ensures.seen (rw c.in-Model.is at c.in_ok-statement.ensures.told) (rw c.in-Model.is at c.in_ok-statement.ensures.name)
    c.rows_end-end.ensures.within c.rows_end-end.ensures.stop)

pub loop-line-preserved : goal.loop-line-preserved
loop-line-preserved c =
    let inside : c.loop-line.line < length c.args.lines.now = omega arith in
    let first : blocks_of (drop c.loop-line.line c.args.lines.now) ≡ block_at c.args.lines.now c.loop-line.line c.rows_end-end.result ∷ blocks_of (drop c.rows_end-end.result c.args.lines.now)
    = first_block c.args.lines.now c.loop-line.line c.rows_end-end.result inside (c.loop-line.invariant.stop inside) c.rows_end-end.ensures.rows c.rows_end-end.ensures.rest in
    rw (c.in_ok-push-in-Body.ensures.items, map-append, c.number-in-Body.ensures)
    (has_read_more (Body c.in-Body.what) c.args.lines.now c.loop-line.line c.rows_end-end.result _ _ _ _ _ c.loop-line.invariant first c.in_ok-statement.ensures.lawful
    c.in_ok-statement.ensures.seen (rw c.in-Body.is at c.in_ok-statement.ensures.told) (rw c.in-Body.is at c.in_ok-statement.ensures.name)
    c.rows_end-end.ensures.within c.rows_end-end.ensures.stop)

pub returns-clause-lawful : goal.returns-clause-lawful
returns-clause-lawful c =
    all_lawful c.args.lines.now c.loop-line.line _ _ _ _ c.loop-line.invariant (omega arith)

pub returns-clause-unit : goal.returns-clause-unit
returns-clause-unit c =
    all_told c.args.lines.now c.loop-line.line _ _ _ _ c.loop-line.invariant (omega arith)

pub returns-clause-orderly : goal.returns-clause-orderly
returns-clause-orderly c =
    rw (all_told c.args.lines.now c.loop-line.line _ _ _ _ c.loop-line.invariant (omega arith))
    (orderly c.args.lines.now c.requires (all_lawful c.args.lines.now c.loop-line.line _ _ _ _ c.loop-line.invariant (omega arith)))
