-- The header, the counted lines and the symbols, one behind the other.
use Rattle.std.proofs.Common.{List, ℕ, Bor, ap, ◌∙◌, arith}
use Rattle.std.proofs.lemmas.List.{length-map}
use Rattle.std.proofs.lemmas.Result.{err_from_is_err_and}
use Rattle.aiger_read.specs.declared.header.Header.{Header}
use Rattle.aiger_read.specs.Symbols.{symbol_lines, names_given}
use Rattle.aiger_read.specs.Steps.{texts}
use Rattle.aiger_read.proofs.ReadLemmas.{header_fault, header_few, header_same, header_lawful}
use Rattle.aiger_read.proofs.reading.content_of.Goals as goal

pub returns-in_err-header-clause-fault : goal.returns-in_err-header-clause-fault
returns-in_err-header-clause-fault c =
    let p = err_from_is_err_and c.from_residual.result c.from_residual.ensures.1 in
    rw (p.1, p.2) (header_fault (texts c.args.lines.now) c.first_line.result.now c.in_err-header.field-0.0 c.first_line.ensures c.in_err-header.ensures.fault)

pub counted_due-requires-clause-few : goal.counted_due-requires-clause-few
counted_due-requires-clause-few c =
    let size = length-map c.args.lines.now (λ (w : Bor (List ℕ)). w.now) in
    let few = header_few (texts c.args.lines.now) c.first_line.result.now c.first_line.ensures c.in_ok-header.ensures.lawful (omega (arith, size, c.requires)) in
    omega (arith, few.0, size)

pub counted_due-requires-clause-some : goal.counted_due-requires-clause-some
counted_due-requires-clause-some c =
    let size = length-map c.args.lines.now (λ (w : Bor (List ℕ)). w.now) in
    let few = header_few (texts c.args.lines.now) c.first_line.result.now c.first_line.ensures c.in_ok-header.ensures.lawful (omega (arith, size, c.requires)) in
    omega (arith, few.1, size)

pub counted_due-requires-clause-header : goal.counted_due-requires-clause-header
counted_due-requires-clause-header c = header_same (texts c.args.lines.now) c.first_line.result.now c.in_ok-header.header c.first_line.ensures c.in_ok-header.ensures.header

pub counted_due-requires-clause-lawful : goal.counted_due-requires-clause-lawful
counted_due-requires-clause-lawful c = header_lawful (texts c.args.lines.now) c.first_line.result.now c.first_line.ensures c.in_ok-header.ensures.lawful

pub names_on-requires-clause-few : goal.names_on-requires-clause-few
names_on-requires-clause-few c =
    let size = length-map c.args.lines.now (λ (w : Bor (List ℕ)). w.now) in
    let few = header_few (texts c.args.lines.now) c.first_line.result.now c.first_line.ensures c.in_ok-header.ensures.lawful (omega (arith, size, c.requires)) in
    omega (arith, few.0, size)

pub names_on-requires-clause-header : goal.names_on-requires-clause-header
names_on-requires-clause-header c = header_same (texts c.args.lines.now) c.first_line.result.now c.in_ok-header.header c.first_line.ensures c.in_ok-header.ensures.header

pub returns-clause-header : goal.returns-clause-header
returns-clause-header c = header_same (texts c.args.lines.now) c.first_line.result.now c.in_ok-header.header c.first_line.ensures c.in_ok-header.ensures.header

pub returns-clause-names : goal.returns-clause-names
returns-clause-names c =
    let same = header_same (texts c.args.lines.now) c.first_line.result.now c.in_ok-header.header c.first_line.ensures c.in_ok-header.ensures.header in
    c.in_ok-names.ensures.names ∙ ap (λ (h : Header). names_given h (symbol_lines h (texts c.args.lines.now))) same
