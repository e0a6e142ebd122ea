-- The number that the words of the line tell.
use Rattle.std.proofs.Common.{◌≡◌, ℕ, ◌<◌, length, map, Bor, List, sym, ap, ◌∙◌, arith}
use Rattle.std.proofs.lemmas.List.{length-map}
use Rattle.std.proofs.lemmas.Result.{err_from_is_err_and}
use Rattle.cert_text.specs.Words.{word_at, number_in, is_number}
use Rattle.cert_text.specs.Faults.{pieces_of}
use Rattle.cert_text.proofs.Lists.{word_seen}
use Rattle.cert_text.proofs.ReadLemmas.{number_words, number_taken, number_refused, refuses}
use Rattle.cert_text.proofs.lines.number_due.Goals as goal

pub index-requires : goal.index-requires
index-requires c =
    let items = c.in_ok-words.words.items in
    let two : length (map (λ (w : Bor (List ℕ)). w.now) items) ≡ 2 =
    number_words c.args.keyword c.args.most (pieces_of c.args.lines.rest.now) (map (λ w. w.now) items) (pieces_of c.in_ok-words.after.rest.now) c.requires c.in_ok-words.ensures.line in
    omega (arith, two, length-map items (λ (w : Bor (List ℕ)). w.now), c.in_ok-words.words.ok)

pub returns-in_err-told-clause-fault : goal.returns-in_err-told-clause-fault
returns-in_err-told-clause-fault c =
    let p = err_from_is_err_and c.from_residual-in_err-told.result c.from_residual-in_err-told.ensures.1 in
    let items = c.in_ok-words.words.items in
    let words : List (List ℕ) = map (λ (w : Bor (List ℕ)). w.now) items in
    let line = c.in_ok-words.ensures.line in
    let two : length words ≡ 2 = number_words c.args.keyword c.args.most (pieces_of c.args.lines.rest.now) words (pieces_of c.in_ok-words.after.rest.now) c.requires line in
    let inside : 1 < length items = omega (arith, two, length-map items (λ (w : Bor (List ℕ)). w.now)) in
    let word : word_at words 1 ≡ c.index.result.now.now = word_seen items 1 c.index.result.now inside c.index.ensures in
    rw (p.1, p.2) (number_refused c.args.keyword c.args.most (pieces_of c.args.lines.rest.now) words (pieces_of c.in_ok-words.after.rest.now) c.args.lines.number _ c.requires line
    (refuses c.args.lines.number (is_number c.args.most c.index.result.now.now) (is_number c.args.most (word_at words 1)) _ (λ fails. ap (is_number c.args.most) word ∙ fails) c.in_err-told.ensures.fault))

pub returns-clause-told : goal.returns-clause-told
returns-clause-told c =
    let items = c.in_ok-words.words.items in
    let words : List (List ℕ) = map (λ (w : Bor (List ℕ)). w.now) items in
    let line = c.in_ok-words.ensures.line in
    let two : length words ≡ 2 = number_words c.args.keyword c.args.most (pieces_of c.args.lines.rest.now) words (pieces_of c.in_ok-words.after.rest.now) c.requires line in
    let inside : 1 < length items = omega (arith, two, length-map items (λ (w : Bor (List ℕ)). w.now)) in
    let word : word_at words 1 ≡ c.index.result.now.now = word_seen items 1 c.index.result.now inside c.index.ensures in
    number_taken c.args.keyword c.args.most c.in_ok-told.told (pieces_of c.args.lines.rest.now) words (pieces_of c.in_ok-words.after.rest.now) c.requires line
    (ap (is_number c.args.most) word ∙ c.in_ok-told.ensures.told.0) (c.in_ok-told.ensures.told.1 ∙ sym (ap number_in word))
