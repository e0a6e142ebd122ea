-- Each turn adds one physical line; the line ends where it does not go on, or the text does.
use Rattle.std.proofs.Common.{◌≡◌, ◌==◌, ◌++◌, ℕ, List, map, Bor, ap, ◌∙◌, arith}
use Rattle.std.specs.List.{before_first}
use Rattle.std.proofs.lemmas.List.{nil_from_length}
use Rattle.std.proofs.lemmas.Bool.Decides.{nat_tests}
use Rattle.blif_lex.specs.Words.{content_of, goes_on, unjoined, words_in}
use Rattle.blif_lex.proofs.Fronts.{IsOpen-start, IsOpen-more, BeginsWith-end, BeginsWith-last}
use Rattle.blif_lex.proofs.cuts.push_line.Goals as goal
use Rattle.blif_lex.proofs.cuts.push_line.Goals.{then-not-next-via-then-not-next, then-not-next-via-else-not-next+then-is_empty}

pub lines-init : goal.lines-init
lines-init c = IsOpen-start _ _ c.requires.some

pub returns-then-not-next : goal.returns-then-not-next
returns-then-not-next c =
    let rest = c.lines.rest.now in
    let old = map (λ (w : Bor (List ℕ)). w.now) c.lines.words.items in
    let w : map (λ (w : Bor (List ℕ)). w.now) c.push_words.new.words.items ≡ old ++ words_in (unjoined (content_of (before_first (λ b. b == 10) rest))) =
    c.in_ok-push_words.ensures ∙ ap (λ x. old ++ words_in x) (c.content-next.ensures.bytes ∙ ap (λ l. unjoined (content_of l)) c.cut_at.ensures.before) in
    let next : c.content-next.result.1 ≡ goes_on (content_of (before_first (λ b. b == 10) rest)) =
    c.content-next.ensures.next ∙ ap (λ l. goes_on (content_of l)) c.cut_at.ensures.before in
    elim c.then-not-next.branch [
      | then-not-next-via-then-not-next w' ↦ BeginsWith-end _ _ _ _ rest c.lines.invariant _ w _ c.cut_at.ensures.after (grind arith)
      | then-not-next-via-else-not-next+then-is_empty w' ↦
          BeginsWith-last _ _ _ _ rest c.lines.invariant _ w _ c.cut_at.ensures.after (nil_from_length _ (grind (arith, nat_tests)))
    ]

pub lines-preserved : goal.lines-preserved
lines-preserved c =
    let rest = c.lines.rest.now in
    let old = map (λ (w : Bor (List ℕ)). w.now) c.lines.words.items in
    let w : map (λ (w : Bor (List ℕ)). w.now) c.push_words.new.words.items ≡ old ++ words_in (unjoined (content_of (before_first (λ b. b == 10) rest))) =
    c.in_ok-push_words.ensures ∙ ap (λ x. old ++ words_in x) (c.content-next.ensures.bytes ∙ ap (λ l. unjoined (content_of l)) c.cut_at.ensures.before) in
    let next : c.content-next.result.1 ≡ goes_on (content_of (before_first (λ b. b == 10) rest)) =
    c.content-next.ensures.next ∙ ap (λ l. goes_on (content_of l)) c.cut_at.ensures.before in
    IsOpen-more _ _ _ _ rest c.lines.invariant _ w _ c.cut_at.ensures.after (grind arith) (grind (arith, nat_tests))
