-- The words of the line, and what they spell.
use Rattle.std.proofs.Common.{◌≡◌, ℕ, ◌≤◌, List, length, map, Bor, sym, ap, ◌∙◌, arith}
use Rattle.std.proofs.lemmas.List.{length-map}
use Rattle.std.proofs.lemmas.Result.{err_from_is_err_and}
use Rattle.tm_replay.specs.Replays.{drop_of}
use Rattle.cert_text.specs.declared.keyword.Keyword.TheVariants as keywords
use Rattle.cert_text.specs.Words.{drop_in, drop_on}
use Rattle.cert_text.specs.Faults.{pieces_of, has_numbers}
use Rattle.cert_text.proofs.StepLemmas.{line_refused, each_one}
use Rattle.cert_text.proofs.ReadLemmas.{refuses, drop_many}
use Rattle.cert_text.proofs.reading.drop_due.Goals as goal

pub drop-requires : goal.drop-requires
drop-requires c =
    let items = c.in_ok-words.words.items in
    let many : 5 ≤ length (map (λ (w : Bor (List ℕ)). w.now) items) =
    drop_many (pieces_of c.args.lines.rest.now) (map (λ w. w.now) items) (pieces_of c.in_ok-words.after.rest.now) c.in_ok-words.ensures.line in
    let same : length c.deref.result.now ≡ length items = ap length c.deref.ensures.value in
    omega (arith, many, same, length-map items (λ (w : Bor (List ℕ)). w.now))

pub returns-in_err-lowering-clause-fault : goal.returns-in_err-lowering-clause-fault
returns-in_err-lowering-clause-fault c =
    let p = err_from_is_err_and c.from_residual-in_err-lowering.result c.from_residual-in_err-lowering.ensures.1 in
    let words : List (List ℕ) = map (λ (w : Bor (List ℕ)). w.now) c.in_ok-words.words.items in
    let seen : map (λ (w : Bor (List ℕ)). w.now) c.deref.result.now ≡ words = ap (map (λ (w : Bor (List ℕ)). w.now)) c.deref.ensures.value in
    rw (p.1, p.2) (line_refused keywords.Drop (pieces_of c.args.lines.rest.now) words (pieces_of c.in_ok-words.after.rest.now) c.args.lines.number _ c.in_ok-words.ensures.line
    (refuses c.args.lines.number (has_numbers keywords.Drop (map (λ (w : Bor (List ℕ)). w.now) c.deref.result.now)) (has_numbers keywords.Drop words) _
    (λ fails. sym (ap (has_numbers keywords.Drop) seen) ∙ fails) c.in_err-lowering.ensures.fault))

pub returns-clause-told : goal.returns-clause-told
returns-clause-told c =
    let words : List (List ℕ) = map (λ (w : Bor (List ℕ)). w.now) c.in_ok-words.words.items in
    let seen : map (λ (w : Bor (List ℕ)). w.now) c.deref.result.now ≡ words = ap (map (λ (w : Bor (List ℕ)). w.now)) c.deref.ensures.value in
    let line = c.in_ok-words.ensures.line in
    let told = c.in_ok-lowering.ensures.told in
    each_one keywords.Drop drop_on (pieces_of c.args.lines.rest.now) words (pieces_of c.in_ok-words.after.rest.now) (drop_of c.in_ok-lowering.lowering) line
    (sym (ap (has_numbers keywords.Drop) seen) ∙ told.0) (told.1 ∙ ap drop_in (seen ∙ line.are_words))
