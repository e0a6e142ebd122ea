-- The three tests, one after another.
use Rattle.std.proofs.Common.{◌≡◌, ℕ, ◌<◌, true, ◌&&◌, List, [], map, length, get_or, nat_lt, bytes_eq, Bor, sym, ◌∙◌, ap}
use Rattle.std.specs.List.{list_all}
use Rattle.std.proofs.lemmas.Bool.{and_from}
use Rattle.std.proofs.lemmas.List.{length-map, get_or-map}
use Rattle.cert_text.specs.declared.keyword.Keyword.{Keyword}
use Rattle.cert_text.specs.Words.{word_at}
use Rattle.cert_text.specs.Faults.{keyword_word, takes, has_words}
use Rattle.cert_text.proofs.Lists.{list_all_seen}
use Rattle.cert_text.proofs.lines.has_words.Goals as goal
use Rattle.cert_text.proofs.lines.has_words.Goals.{then-eq, else-eq}

tested : (keyword : Keyword) (words : List (Bor (List ℕ))) (d : Bor (List ℕ)) (word : List ℕ) → 0 < length words → word ≡ keyword_word keyword → bytes_eq (get_or words 0 d).now word ≡ true
    → takes keyword (length words) ≡ true → has_words keyword (map (λ w. w.now) words) ≡ list_all (λ word. nat_lt 0 (length word.now)) words
unfolding has_words
tested keyword words d word some is first many =
    let seen : List (List ℕ) = map (λ w. w.now) words in
    let front : word_at seen 0 ≡ (get_or words 0 d).now = get_or-map (λ (w : Bor (List ℕ)). w.now) words 0 d [] some in
    let begins : bytes_eq (word_at seen 0) (keyword_word keyword) ≡ true = ap (λ w. bytes_eq w (keyword_word keyword)) front ∙ ap (bytes_eq (get_or words 0 d).now) (sym is) ∙ first in
    let room : takes keyword (length seen) ≡ true = ap (takes keyword) (length-map words (λ (w : Bor (List ℕ)). w.now)) ∙ many in
    ap (λ b. b && list_all (λ word. nat_lt 0 (length word)) seen) (and_from (bytes_eq (word_at seen 0) (keyword_word keyword)) (takes keyword (length seen)) begins room)
    ∙ list_all_seen (λ word. nat_lt 0 (length word)) (λ (w : Bor (List ℕ)). w.now) words

pub returns-then-takes : goal.returns-then-takes
returns-then-takes c =
    elim c.if-eq.branch [
      | then-eq w ↦
          c.are_filled.ensures
          ∙ sym (tested c.args.keyword c.args.words.now _ c.word.result.now c.requires c.word.ensures (sym c.eq.ensures ∙ w.if-eq.true) (sym w.takes.ensures ∙ sym w.value-is ∙ c.if-takes.true))
      | else-eq w ↦ absurd (cc (w.value-is, c.if-takes.true))
    ]
