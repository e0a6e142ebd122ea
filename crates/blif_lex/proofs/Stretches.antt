-- Lines as stretches of a list of words that grows.
use Rattle.std.proofs.Common.{◌≡◌, ℕ, ◌-◌, ◌<◌, ◌≤◌, Bool, true, false, cond, Some, None, List, [], ◌∷◌, ◌++◌, map, take, drop, length, refl, sym, ap, ◌∙◌, arith}
use Rattle.std.proofs.lemmas.List.{take-take, take_rest, drop-map, map-append, length_push, length-drop, length-take-le, append-nil}
use Rattle.std.proofs.lemmas.Slice.{between_is}
use Rattle.std.specs.List.{AllByRecursion, slice_range, cons_option}
use Rattle.std.specs.Option.{option_map}
use Rattle.blif_lex.specs.Words.{Line, is_kept, fault_in, faults_of}
use Rattle.blif_lex.specs.Steps.{kept}
use Rattle.blif_lex.specs.Spans.{line_at, lines_at, IsWithin, EndsLine, RefusesLine}
use Rattle.blif_lex.specs.declared.lines.Span.{Span}
use Rattle.blif_lex.specs.declared.fault.LexFault.TheVariants.{Text}
use Rattle.blif_lex.specs.declared.fault.LexKind.{LexKind}

slice_range-front : {X : Type 0} (n : ℕ) (xs : List X) (s e : ℕ) → e ≤ n → slice_range xs s e ≡ drop s (take e (take n xs))
slice_range-front n xs s e h = between_is xs s e ∙ ap (drop s) (sym (take-take e n xs h))

-- Lines within the first n words are those of any words that begin with these.
pub lines_at-agree : (n : ℕ) (xs ys : List (List ℕ)) (spans : List Span) → AllByRecursion (IsWithin n) spans → take n xs ≡ take n ys → lines_at xs spans ≡ lines_at ys spans
lines_at-agree n xs ys [] within same = refl
lines_at-agree n xs ys (span ∷ spans) within same =
    let here : slice_range xs span.start span.end ≡ slice_range ys span.start span.end =
    slice_range-front n xs span.start span.end within.0.inside
    ∙ ap (λ zs. drop span.start (take span.end zs)) same
    ∙ sym (slice_range-front n ys span.start span.end within.0.inside) in
    ap (λ ws. record { number = span.number; words = ws } ∷ lines_at xs spans) here
    ∙ ap (λ ls. line_at ys span ∷ ls) (lines_at-agree n xs ys spans within.1 same)

pub AreWithin-more : (n m : ℕ) (spans : List Span) → n ≤ m → AllByRecursion (IsWithin n) spans → AllByRecursion (IsWithin m) spans
AreWithin-more n m [] h within = tt
AreWithin-more n m (span ∷ spans) h within =
    (record { some = within.0.some; inside = omega (arith, within.0.inside) }, AreWithin-more n m spans h within.1)

AreWithin-push : (n : ℕ) (spans : List Span) (span : Span) → AllByRecursion (IsWithin n) spans → IsWithin n span → AllByRecursion (IsWithin n) (spans ++ span ∷ [])
AreWithin-push n [] span within h = (h, tt)
AreWithin-push n (s ∷ spans) span within h = (within.0, AreWithin-push n spans span within.1 h)

-- what `&words[start..]` is, word by word
pub rest_of : {X Y : Type 0} (f : X → Y) (n : ℕ) (xs : List X) → map f (take (length xs - n) (drop n xs)) ≡ drop n (map f xs)
rest_of f n xs = ap (map f) (take_rest xs n) ∙ sym (drop-map f n xs)

kept-yes : (l : Line) → is_kept l.words ≡ true → kept (l ∷ []) ≡ l ∷ []
kept-yes l h = ap (λ b. cond b (l ∷ []) []) h

kept-no : (l : Line) → is_kept l.words ≡ false → kept (l ∷ []) ≡ []
kept-no l h = ap (λ b. cond b (l ∷ []) []) h

pub some_if_kept : (words : List (List ℕ)) → is_kept words ≡ true → 0 < length words
some_if_kept [] h = cc
some_if_kept (w ∷ ws) h = omega arith

-- a line that is not kept: its words go
pub EndsLine-no : (name : ℕ) (bindings : Bool) (number start : ℕ) (words : List (List ℕ)) (spans : List Span)
    → start ≤ length words → AllByRecursion (IsWithin start) spans → is_kept (drop start words) ≡ false
    → (left : List (List ℕ)) → left ≡ take start words
    → EndsLine name bindings number start words spans left spans
EndsLine-no name bindings number start words spans h within skipped left e =
    let l : Line = record { number = number; words = drop start words } in
    rw e record {
      lines = lines_at-agree start (take start words) words spans within (take-take start start words (omega arith))
          ∙ sym (ap (λ ls. lines_at words spans ++ ls) (kept-no l skipped) ∙ append-nil (lines_at words spans));
      lawful = ap (faults_of name bindings) (kept-no l skipped);
      within = AreWithin-more start (length (take start words)) spans (omega (arith, length-take-le start words h)) within;
      more = omega arith;
    }

-- a line that is kept
pub EndsLine-yes : (name : ℕ) (bindings : Bool) (number start : ℕ) (words : List (List ℕ)) (spans : List Span)
    → start ≤ length words → AllByRecursion (IsWithin start) spans → is_kept (drop start words) ≡ true → fault_in name bindings (drop start words) ≡ None
    → (span : Span) → span ≡ record { number = number; start = start; end = length words }
    → EndsLine name bindings number start words spans words (spans ++ span ∷ [])
EndsLine-yes name bindings number start words spans h within keeps lawful span e =
    let l : Line = record { number = number; words = drop start words } in
    rw e record {
      lines = map-append (line_at words) spans (record { number = number; start = start; end = length words } ∷ [])
          ∙ ap (λ ws. lines_at words spans ++ record { number = number; words = ws } ∷ []) (take_rest words start)
          ∙ sym (ap (λ ls. lines_at words spans ++ ls) (kept-yes l keeps));
      lawful = ap (faults_of name bindings) (kept-yes l keeps) ∙ ap (λ o. cons_option (option_map (λ (kind : LexKind). Text number kind) o) []) lawful;
      within = AreWithin-push (length words) spans (record { number = number; start = start; end = length words }) (AreWithin-more start (length words) spans h within)
          (record { some = omega (arith, some_if_kept (drop start words) keeps, length-drop start words); inside = omega arith });
      more = omega (arith, length_push spans (record { number = number; start = start; end = length words }));
    }

-- a line that is kept, and has a fault
pub RefusesLine-yes : (name : ℕ) (bindings : Bool) (number : ℕ) (words : List (List ℕ)) (kind : LexKind)
    → is_kept words ≡ true → fault_in name bindings words ≡ Some kind → RefusesLine name bindings number words (Text number kind)
RefusesLine-yes name bindings number words kind keeps found =
    ap (faults_of name bindings) (kept-yes (record { number = number; words = words }) keeps)
    ∙ ap (λ o. cons_option (option_map (λ (k : LexKind). Text number k) o) []) found
