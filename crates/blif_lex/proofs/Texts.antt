-- A text of which some logical lines are taken.
use Rattle.std.proofs.Common.{◌≡◌, ℕ, ◌+◌, ◌≤◌, Bool, List, [], ◌∷◌, ◌++◌, take, drop, length, refl, sym, ap, ◌∙◌, arith, Ok}
use Rattle.std.proofs.lemmas.List.{append_assoc, append-nil, take_at, take_all, drop_at}
use Rattle.std.proofs.lemmas.List.Elements.{filter-append, filter_map-append}
use Rattle.std.specs.List.{AllByRecursion}
use Rattle.blif_lex.specs.Words.{Line, is_kept, faults_of, lines_of, words_of, unless_fault, IsFaultOf}
use Rattle.blif_lex.specs.Steps.{kept, all_lines, BeginsWith}
use Rattle.blif_lex.specs.Spans.{lines_at, IsWithin, EndsLine, RefusesLine}
use Rattle.blif_lex.specs.declared.lines.Span.{Span}
use Rattle.blif_lex.specs.declared.fault.LexFault.{LexFault}
use Rattle.blif_lex.specs.declared.fault.LexFault.TheVariants.{Text, NoMemory}
use Rattle.blif_lex.proofs.Fronts.{all_lines-empty}
use Rattle.blif_lex.proofs.Stretches.{lines_at-agree}

kept-append : (xs ys : List Line) → kept (xs ++ ys) ≡ kept xs ++ kept ys
kept-append xs ys = filter-append (λ l. is_kept l.words) xs ys

faults_of-append : (name : ℕ) (bindings : Bool) (xs ys : List Line) → faults_of name bindings (xs ++ ys) ≡ faults_of name bindings xs ++ faults_of name bindings ys
faults_of-append name bindings xs ys = filter_map-append _ xs ys

-- The lines so far are those of the text above the rest, and have no fault.
pub record IsLexed (name : ℕ) (bindings : Bool) (text : List ℕ) (words : List (List ℕ)) (spans : List Span) (above : ℕ) (rest : List ℕ) : Type 0 where
  pub lines : lines_of text ≡ lines_at words spans ++ kept (all_lines (above + 1) rest)
  pub lawful : faults_of name bindings (lines_at words spans) ≡ []
  pub within : AllByRecursion (IsWithin (length words)) spans
  pub few : length spans ≤ above
  pub shorter : above + length rest ≤ length text

pub IsLexed-start : (name : ℕ) (bindings : Bool) (text : List ℕ) → IsLexed name bindings text [] [] 0 text
unfolding lines_of all_lines
IsLexed-start name bindings text = record { lines = refl; lawful = refl; within = tt; few = omega arith; shorter = omega arith }

-- the words of the line that was taken, and the lines with it
taken_words : (words line after : List (List ℕ)) → after ≡ words ++ line → drop (length words) after ≡ line
taken_words words line after e = rw e (drop_at words line (length words) refl)

next_lines : (name : ℕ) (bindings : Bool) (text : List ℕ) (words : List (List ℕ)) (spans : List Span) (above : ℕ) (rest : List ℕ) → IsLexed name bindings text words spans above rest
    → (taken : ℕ) (after : List (List ℕ)) (left : List ℕ) → BeginsWith rest taken words after left
    → lines_of text ≡ lines_at after spans ++ kept (record { number = above + 1; words = drop (length words) after } ∷ []) ++ kept (all_lines (above + taken + 1) left)
next_lines name bindings text words spans above rest h taken after left b =
    let line = b.words.0 in
    let m : above + 1 + taken ≡ above + taken + 1 = omega arith in
    let same : take (length words) after ≡ take (length words) words =
    ap (take (length words)) b.words.1 ∙ take_at words line (length words) refl ∙ sym (take_all (length words) words (omega arith)) in
    h.lines
    ∙ ap (λ ls. lines_at words spans ++ kept ls) (b.words.2 (above + 1) ∙ ap (λ n. record { number = above + 1; words = line } ∷ all_lines n left) m)
    ∙ ap (λ ls. lines_at words spans ++ ls) (kept-append (record { number = above + 1; words = line } ∷ []) (all_lines (above + taken + 1) left))
    ∙ sym (append_assoc (lines_at words spans) (kept (record { number = above + 1; words = line } ∷ [])) (kept (all_lines (above + taken + 1) left)))
    ∙ ap (λ ls. ls ++ kept (record { number = above + 1; words = line } ∷ []) ++ kept (all_lines (above + taken + 1) left)) (sym (lines_at-agree (length words) after words spans h.within same))
    ∙ ap (λ ws. lines_at after spans ++ kept (record { number = above + 1; words = ws } ∷ []) ++ kept (all_lines (above + taken + 1) left)) (sym (taken_words words line after b.words.1))

-- the lines so far, seen in the longer list of words
lawful_after : (name : ℕ) (bindings : Bool) (text : List ℕ) (words : List (List ℕ)) (spans : List Span) (above : ℕ) (rest : List ℕ) → IsLexed name bindings text words spans above rest
    → (taken : ℕ) (after : List (List ℕ)) (left : List ℕ) → BeginsWith rest taken words after left → faults_of name bindings (lines_at after spans) ≡ []
lawful_after name bindings text words spans above rest h taken after left b =
    let same : take (length words) after ≡ take (length words) words =
    ap (take (length words)) b.words.1 ∙ take_at words b.words.0 (length words) refl ∙ sym (take_all (length words) words (omega arith)) in
    ap (faults_of name bindings) (lines_at-agree (length words) after words spans h.within same) ∙ h.lawful

pub IsLexed-more : (name : ℕ) (bindings : Bool) (text : List ℕ) (words : List (List ℕ)) (spans : List Span) (above : ℕ) (rest : List ℕ) → IsLexed name bindings text words spans above rest
    → (taken : ℕ) (after : List (List ℕ)) (left : List ℕ) → BeginsWith rest taken words after left
    → (now : List (List ℕ)) (more : List Span) → EndsLine name bindings (above + 1) (length words) after spans now more
    → IsLexed name bindings text now more (above + taken) left
IsLexed-more name bindings text words spans above rest h taken after left b now more e =
    let last : List Line = kept (record { number = above + 1; words = drop (length words) after } ∷ []) in
    record {
      lines = next_lines name bindings text words spans above rest h taken after left b
          ∙ ap (λ ls. ls ++ kept (all_lines (above + taken + 1) left)) (sym e.lines);
      lawful = ap (faults_of name bindings) e.lines ∙ faults_of-append name bindings (lines_at after spans) last
          ∙ ap (λ fs. fs ++ faults_of name bindings last) (lawful_after name bindings text words spans above rest h taken after left b) ∙ e.lawful;
      within = e.within;
      few = omega (arith, h.few, e.more, b.some);
      shorter = omega (arith, h.shorter, b.shorter);
    }

-- a line with a fault is the first of the text
pub first_fault : (name : ℕ) (bindings : Bool) (text : List ℕ) (words : List (List ℕ)) (spans : List Span) (above : ℕ) (rest : List ℕ) → IsLexed name bindings text words spans above rest
    → (taken : ℕ) (after : List (List ℕ)) (left : List ℕ) → BeginsWith rest taken words after left
    → (fault : LexFault) → RefusesLine name bindings (above + 1) (drop (length words) after) fault → IsFaultOf fault (words_of name bindings text)
unfolding words_of
first_fault name bindings text words spans above rest h taken after left b (Text line kind) r =
    let last : List Line = kept (record { number = above + 1; words = drop (length words) after } ∷ []) in
    let others : List Line = kept (all_lines (above + taken + 1) left) in
    let found : faults_of name bindings (lines_of text) ≡ Text line kind ∷ faults_of name bindings others =
    ap (faults_of name bindings) (next_lines name bindings text words spans above rest h taken after left b)
    ∙ faults_of-append name bindings (lines_at after spans ++ last) others
    ∙ ap (λ fs. fs ++ faults_of name bindings others) (faults_of-append name bindings (lines_at after spans) last
    ∙ ap (λ fs. fs ++ faults_of name bindings last) (lawful_after name bindings text words spans above rest h taken after left b) ∙ r) in
    ap (λ fs. unless_fault fs (lines_of text)) found
first_fault name bindings text words spans above rest h taken after left b NoMemory r = tt

pub words_of-end : (name : ℕ) (bindings : Bool) (text : List ℕ) (words : List (List ℕ)) (spans : List Span) (above : ℕ) (rest : List ℕ) → IsLexed name bindings text words spans above rest
    → rest ≡ [] → words_of name bindings text ≡ Ok (lines_at words spans)
unfolding words_of
words_of-end name bindings text words spans above rest h e =
    let all : lines_of text ≡ lines_at words spans = h.lines
    ∙ ap (λ r. lines_at words spans ++ kept (all_lines (above + 1) r)) e
    ∙ ap (λ ls. lines_at words spans ++ kept ls) (all_lines-empty (above + 1))
    ∙ append-nil (lines_at words spans) in
    ap (λ ls. unless_fault (faults_of name bindings ls) ls) all ∙ ap (λ fs. unless_fault fs (lines_at words spans)) h.lawful
