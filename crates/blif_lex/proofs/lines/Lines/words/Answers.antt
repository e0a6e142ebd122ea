-- The words of the i-th line are its stretch of all words.
use Rattle.std.proofs.Common.{◌≡◌, ◌<◌, ℕ, ◌-◌, List, length, map, take, drop, get_or, sym, ap, ◌∙◌, arith}
use Rattle.std.proofs.lemmas.List.{take-map, drop-map, get_or-map, length-map}
use Rattle.blif_lex.specs.Spans.{line_at, lines_at, nth_line}
use Rattle.blif_lex.specs.declared.lines.Span.{Span}
use Rattle.blif_lex.proofs.lines.Lines.words.Goals as goal

stretch : {X Y : Type 0} (f : X → Y) (n m : ℕ) (xs : List X) → map f (take n (drop m xs)) ≡ take n (drop m (map f xs))
stretch f n m xs = sym (take-map f n (drop m xs)) ∙ ap (λ ys. take n ys) (sym (drop-map f m xs))

nth_line-lines_at : (words : List (List ℕ)) (spans : List Span) (i : ℕ) (span : Span) → i < length spans → span ≡ get_or spans i span → nth_line (lines_at words spans) i ≡ line_at words span
nth_line-lines_at words spans i span h e = get_or-map (line_at words) spans i span _ h ∙ ap (line_at words) (sym e)

pub returns-clause-words : goal.returns-clause-words
returns-clause-words c =
    let span = c.index-span.result.now in
    let words = map (λ w. w.now) c.self.inside.words.items in
    let few : c.args.i < length c.self.inside.spans.items = omega (arith, length-map c.self.inside.spans.items (line_at words), ap length c.self.view_is) in
    rw c.deref.ensures.value (stretch (λ w. w.now) (span.end - span.start) span.start c.self.inside.words.items
    ∙ sym (ap (λ l. l.words) (ap (λ ls. nth_line ls c.args.i) (sym c.self.view_is)
    ∙ nth_line-lines_at words c.self.inside.spans.items c.args.i span few c.index-span.ensures)))
