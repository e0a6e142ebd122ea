use Rattle.std.proofs.Common.{◌≡◌, ◌∙◌, ◌+◌, ◌-◌, ap, sym, arith, length, drop, take, None, true, false}
use Rattle.std.proofs.lemmas.Result.{err_from_is_err_and}
use Rattle.blif_lex.specs.Spans.{nth_line}
use Rattle.blif_lex.specs.Words.{places_model}
use Rattle.blif_models.specs.Several.{fault_in_place}
use Rattle.blif_models.specs.Statement.{further}
use Rattle.blif_models.specs.Words.{texts, earlier_of, block_at}
use Rattle.blif_models.proofs.BlockLemmas.{further_read, range_none, range_some}
use Rattle.blif_models.proofs.PartLemmas.{place_faulty, place_misplaced, place_lawful, place_after, part_is_block, part_faulty}
use Rattle.blif_models.proofs.several.part.Goals as goal

pub returns-in_err-placed-clause-fault : goal.returns-in_err-placed-clause-fault
returns-in_err-placed-clause-fault c =
    let head = nth_line c.args.lines.now c.args.line in
    let is : places_model head.words ≡ true = ap places_model (sym c.words-words.ensures.words) ∙ sym c.places_model.ensures ∙ c.if-places_model.true in
    let rest : texts (take (length c.words-words.result.now - 1) (drop 1 c.words-words.result.now)) ≡ further head = further_read head c.words-words.result.now c.words-words.ensures.words in
    let p = err_from_is_err_and c.from_residual.result c.from_residual.ensures.1 in
    rw (p.1, p.2) (place_faulty _ (earlier_of c.args.seen.now) (block_at c.args.lines.now c.args.line c.args.end) is
    (rw (← rest, ← c.number.ensures) c.in_err-placed.ensures.fault))

pub returns-then-line-end-clause-fault : goal.returns-then-line-end-clause-fault
returns-then-line-end-clause-fault c =
    let head = nth_line c.args.lines.now c.args.line in
    let is : places_model head.words ≡ true = ap places_model (sym c.words-words.ensures.words) ∙ sym c.places_model.ensures ∙ c.if-places_model.true in
    let rest : texts (take (length c.words-words.result.now - 1) (drop 1 c.words-words.result.now)) ≡ further head = further_read head c.words-words.result.now c.words-words.ensures.words in
    let lawful : fault_in_place (earlier_of c.args.seen.now) (further head) ≡ None = rw (← rest) c.in_ok-placed.ensures.lawful in
    rw (c.at.ensures, c.number-then-line-end.ensures) (place_misplaced (earlier_of c.args.seen.now) (block_at c.args.lines.now c.args.line c.args.end) _ _ is lawful
    (range_some c.args.lines.now (c.args.line + 1) c.args.end (omega arith) c.requires.within))

pub returns-then-places_model-clause-lawful : goal.returns-then-places_model-clause-lawful
returns-then-places_model-clause-lawful c =
    let head = nth_line c.args.lines.now c.args.line in
    let is : places_model head.words ≡ true = ap places_model (sym c.words-words.ensures.words) ∙ sym c.places_model.ensures ∙ c.if-places_model.true in
    let rest : texts (take (length c.words-words.result.now - 1) (drop 1 c.words-words.result.now)) ≡ further head = further_read head c.words-words.result.now c.words-words.ensures.words in
    let lawful : fault_in_place (earlier_of c.args.seen.now) (further head) ≡ None = rw (← rest) c.in_ok-placed.ensures.lawful in
    place_lawful (earlier_of c.args.seen.now) (block_at c.args.lines.now c.args.line c.args.end) is lawful (range_none c.args.lines.now (c.args.line + 1) c.args.end (omega arith))

pub returns-then-places_model-clause-seen : goal.returns-then-places_model-clause-seen
returns-then-places_model-clause-seen c =
    let head = nth_line c.args.lines.now c.args.line in
    let is : places_model head.words ≡ true = ap places_model (sym c.words-words.ensures.words) ∙ sym c.places_model.ensures ∙ c.if-places_model.true in
    c.in_ok-placed.ensures.seen ∙ sym (place_after (earlier_of c.args.seen.now) (block_at c.args.lines.now c.args.line c.args.end) is)

pub returns-in_err-what-clause-fault : goal.returns-in_err-what-clause-fault
returns-in_err-what-clause-fault c =
    let head = nth_line c.args.lines.now c.args.line in
    let plain : places_model head.words ≡ false = ap places_model (sym c.words-words.ensures.words) ∙ sym c.places_model.ensures ∙ c.if-places_model.false in
    let p = err_from_is_err_and c.from_residual-in_err-what.result c.from_residual-in_err-what.ensures.1 in
    rw (p.1, p.2) (part_faulty _ (earlier_of c.args.seen.now) (block_at c.args.lines.now c.args.line c.args.end) plain c.in_err-what.ensures.fault)

pub returns-in-Body-clause-lawful : goal.returns-in-Body-clause-lawful
returns-in-Body-clause-lawful c =
    let head = nth_line c.args.lines.now c.args.line in
    let plain : places_model head.words ≡ false = ap places_model (sym c.words-words.ensures.words) ∙ sym c.places_model.ensures ∙ c.if-places_model.false in
    part_is_block (earlier_of c.args.seen.now) (block_at c.args.lines.now c.args.line c.args.end) plain ∙ c.in_ok-what.ensures.lawful

pub returns-in-Nothing-clause-lawful : goal.returns-in-Nothing-clause-lawful
returns-in-Nothing-clause-lawful c =
    let head = nth_line c.args.lines.now c.args.line in
    let plain : places_model head.words ≡ false = ap places_model (sym c.words-words.ensures.words) ∙ sym c.places_model.ensures ∙ c.if-places_model.false in
    part_is_block (earlier_of c.args.seen.now) (block_at c.args.lines.now c.args.line c.args.end) plain ∙ c.in_ok-what.ensures.lawful
