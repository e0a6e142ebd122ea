-- Three lines, one after another.
use Rattle.std.proofs.Common.{[], ◌∷◌, arith}
use Rattle.std.proofs.lemmas.Result.{err_from_is_err_and}
use Rattle.cert_text.specs.declared.keyword.Keyword.TheVariants as keywords
use Rattle.cert_text.specs.Faults.{first, later, pieces_of}
use Rattle.cert_text.proofs.StepLemmas.{Takes-append, stops_after}
use Rattle.cert_text.proofs.reading.head_due.Goals as goal

pub returns-in_err-version-clause-fault : goal.returns-in_err-version-clause-fault
returns-in_err-version-clause-fault c =
    let p = err_from_is_err_and c.from_residual.result c.from_residual.ensures.1 in
    rw (p.1, p.2) (λ others. c.in_err-version.ensures.fault (later keywords.Period ∷ later keywords.Tables ∷ others))

pub returns-in_err-period-clause-fault : goal.returns-in_err-period-clause-fault
returns-in_err-period-clause-fault c =
    let p = err_from_is_err_and c.from_residual-in_err-period.result c.from_residual-in_err-period.ensures.1 in
    let version = c.in_ok-version.ensures.told in
    rw (p.1, p.2) (λ others. stops_after (first ∷ []) (later keywords.Period ∷ later keywords.Tables ∷ others) (pieces_of c.args.text.now) (version.line ∷ []) (pieces_of c.in_ok-version.lines.rest.now)
    1 c.in_ok-version.lines.number _ version.taken (omega (arith, c.in_ok-version.ensures.number)) (c.in_err-period.ensures.fault (later keywords.Tables ∷ others)))

pub returns-in_err-tables-clause-fault : goal.returns-in_err-tables-clause-fault
returns-in_err-tables-clause-fault c =
    let p = err_from_is_err_and c.from_residual-in_err-tables.result c.from_residual-in_err-tables.ensures.1 in
    let version = c.in_ok-version.ensures.told in
    let period = c.in_ok-period.ensures.told in
    let taken = Takes-append (first ∷ []) (later keywords.Period ∷ []) (pieces_of c.args.text.now) (version.line ∷ []) (pieces_of c.in_ok-version.lines.rest.now) (period.line ∷ [])
    (pieces_of c.in_ok-period.lines.rest.now) version.taken period.taken in
    rw (p.1, p.2) (λ others. stops_after (first ∷ later keywords.Period ∷ []) (later keywords.Tables ∷ others) (pieces_of c.args.text.now) (version.line ∷ period.line ∷ []) (pieces_of c.in_ok-period.lines.rest.now)
    1 c.in_ok-period.lines.number _ taken (omega (arith, c.in_ok-version.ensures.number, c.in_ok-period.ensures.number)) (c.in_err-tables.ensures.fault others))

pub returns-clause-told : goal.returns-clause-told
returns-clause-told c =
    let version = c.in_ok-version.ensures.told in
    let period = c.in_ok-period.ensures.told in
    let tables = c.in_ok-tables.ensures.told in
    record {
      first_line = version.line;
      period_line = period.line;
      tables_line = tables.line;
      taken =
          Takes-append (first ∷ []) (later keywords.Period ∷ later keywords.Tables ∷ []) (pieces_of c.args.text.now) (version.line ∷ []) (pieces_of c.in_ok-version.lines.rest.now)
          (period.line ∷ tables.line ∷ []) (pieces_of c.in_ok-tables.lines.rest.now) version.taken
          (Takes-append (later keywords.Period ∷ []) (later keywords.Tables ∷ []) (pieces_of c.in_ok-version.lines.rest.now) (period.line ∷ []) (pieces_of c.in_ok-period.lines.rest.now)
          (tables.line ∷ []) (pieces_of c.in_ok-tables.lines.rest.now) period.taken tables.taken);
      version_told = version.told;
      period_told = period.told;
      tables_told = tables.told;
    }
