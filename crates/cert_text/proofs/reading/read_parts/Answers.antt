-- The parts, one after another: the first that stops has the first fault of the text.
use Rattle.std.proofs.Common.{map, arith}
use Rattle.std.proofs.lemmas.Result.{err_from_is_err_and}
use Rattle.tm_unroll.specs.Mappings.{table_of}
use Rattle.tm_replay.specs.Replays.{drop_of}
use Rattle.cert_text.specs.Faults.{pieces_of}
use Rattle.cert_text.proofs.WholeLemmas.{HasTables, HasNumber, HasAll, head_fault, tables_fault, number_fault, drops_fault, end_fault, certificate_read}
use Rattle.cert_text.proofs.reading.read_parts.Goals as goal

pub returns-in_err-head-clause-fault : goal.returns-in_err-head-clause-fault
returns-in_err-head-clause-fault c =
    let p = err_from_is_err_and c.from_residual.result c.from_residual.ensures.1 in
    rw (p.1, p.2) (head_fault c.args.text.now _ c.in_err-head.ensures.fault)

pub returns-in_err-luts-clause-fault : goal.returns-in_err-luts-clause-fault
returns-in_err-luts-clause-fault c =
    let p = err_from_is_err_and c.from_residual-in_err-luts.result c.from_residual-in_err-luts.ensures.1 in
    let head = c.in_ok-head.head in
    rw (p.1, p.2) (tables_fault c.args.text.now head.version head.period head.tables (pieces_of head.lines.rest.now) head.lines.number _ c.in_ok-head.ensures.told c.in_ok-head.ensures.number c.in_err-luts.ensures.fault)

pub returns-in_err-many-clause-fault : goal.returns-in_err-many-clause-fault
returns-in_err-many-clause-fault c =
    let p = err_from_is_err_and c.from_residual-in_err-many.result c.from_residual-in_err-many.ensures.1 in
    let head = c.in_ok-head.head in
    let tables = map table_of c.in_ok-luts.luts.items in
    let rest = pieces_of c.in_ok-luts.lines.rest.now in
    let taken : HasTables c.args.text.now head.version head.period head.tables tables rest =
    record { middle = pieces_of head.lines.rest.now; head = c.in_ok-head.ensures.told; each = c.in_ok-luts.ensures.told } in
    rw (p.1, p.2) (number_fault c.args.text.now head.version head.period head.tables tables rest c.in_ok-luts.lines.number _ taken
    (omega (arith, c.in_ok-head.ensures.number, c.in_ok-luts.ensures.number)) c.in_err-many.ensures.fault)

pub returns-in_err-drops-clause-fault : goal.returns-in_err-drops-clause-fault
returns-in_err-drops-clause-fault c =
    let p = err_from_is_err_and c.from_residual-in_err-drops.result c.from_residual-in_err-drops.ensures.1 in
    let head = c.in_ok-head.head in
    let tables = map table_of c.in_ok-luts.luts.items in
    let rest = pieces_of c.in_ok-luts.lines.rest.now in
    let taken : HasTables c.args.text.now head.version head.period head.tables tables rest =
    record { middle = pieces_of head.lines.rest.now; head = c.in_ok-head.ensures.told; each = c.in_ok-luts.ensures.told } in
    let number : HasNumber c.args.text.now head.version head.period head.tables tables c.in_ok-many.many (pieces_of c.in_ok-many.lines.rest.now) =
    record { middle = rest; before = taken; line = c.in_ok-many.ensures.told } in
    rw (p.1, p.2) (drops_fault c.args.text.now head.version head.period head.tables tables c.in_ok-many.many (pieces_of c.in_ok-many.lines.rest.now) c.in_ok-many.lines.number _ number
    (omega (arith, c.in_ok-head.ensures.number, c.in_ok-luts.ensures.number, c.in_ok-many.ensures.number)) c.in_err-drops.ensures.fault)

pub returns-in_err-end_due-clause-fault : goal.returns-in_err-end_due-clause-fault
returns-in_err-end_due-clause-fault c =
    let p = err_from_is_err_and c.from_residual-in_err-end_due.result c.from_residual-in_err-end_due.ensures.1 in
    let head = c.in_ok-head.head in
    let tables = map table_of c.in_ok-luts.luts.items in
    let drops = map drop_of c.in_ok-drops.drops.items in
    let rest = pieces_of c.in_ok-luts.lines.rest.now in
    let taken : HasTables c.args.text.now head.version head.period head.tables tables rest =
    record { middle = pieces_of head.lines.rest.now; head = c.in_ok-head.ensures.told; each = c.in_ok-luts.ensures.told } in
    let number : HasNumber c.args.text.now head.version head.period head.tables tables c.in_ok-many.many (pieces_of c.in_ok-many.lines.rest.now) =
    record { middle = rest; before = taken; line = c.in_ok-many.ensures.told } in
    let all : HasAll c.args.text.now head.version head.period head.tables tables c.in_ok-many.many drops (pieces_of c.in_ok-drops.lines.rest.now) =
    record { middle = pieces_of c.in_ok-many.lines.rest.now; before = number; each = c.in_ok-drops.ensures.told } in
    rw (p.1, p.2) (end_fault c.args.text.now head.version head.period head.tables tables c.in_ok-many.many drops (pieces_of c.in_ok-drops.lines.rest.now) c.in_ok-drops.lines.number _ all
    (omega (arith, c.in_ok-head.ensures.number, c.in_ok-luts.ensures.number, c.in_ok-many.ensures.number, c.in_ok-drops.ensures.number)) c.in_err-end_due.ensures.fault)

pub returns-clause-certificate : goal.returns-clause-certificate
returns-clause-certificate c =
    let head = c.in_ok-head.head in
    let tables = map table_of c.in_ok-luts.luts.items in
    let drops = map drop_of c.in_ok-drops.drops.items in
    let rest = pieces_of c.in_ok-luts.lines.rest.now in
    let taken : HasTables c.args.text.now head.version head.period head.tables tables rest =
    record { middle = pieces_of head.lines.rest.now; head = c.in_ok-head.ensures.told; each = c.in_ok-luts.ensures.told } in
    let number : HasNumber c.args.text.now head.version head.period head.tables tables c.in_ok-many.many (pieces_of c.in_ok-many.lines.rest.now) =
    record { middle = rest; before = taken; line = c.in_ok-many.ensures.told } in
    let all : HasAll c.args.text.now head.version head.period head.tables tables c.in_ok-many.many drops (pieces_of c.in_ok-drops.lines.rest.now) =
    record { middle = pieces_of c.in_ok-many.lines.rest.now; before = number; each = c.in_ok-drops.ensures.told } in
    certificate_read c.args.text.now head.version head.period head.tables tables c.in_ok-many.many drops (pieces_of c.in_ok-drops.lines.rest.now) all c.in_ok-end_due.ensures.ends
