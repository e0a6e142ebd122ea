-- The words of lines that are written: each line comes back as its words.
use Rattle.std.proofs.Common.{◌≡◌, ◌≢◌, ℕ, ◌+◌, ◌-◌, ◌<◌, ◌≤◌, ◌++◌, List, [], ◌∷◌, true, false, not, cond, eqb, ltb, leb, length, get_or, take, map, reverse, None, Ok, refl, sym, ap, ◌∙◌, subst, inl, inr, arith, append_assoc, length-append}
use Rattle.std.specs.Prelude.{◌==◌, nat_lt}
use Rattle.std.specs.List.{flat_map, filter, list_any, slice_split, before_first, prefix_len, suffix_len, AllByRecursion, onto_first}
use Rattle.std.proofs.lemmas.Bool.{le-ltb, le-leb}
use Rattle.std.proofs.lemmas.Bool.Decides.{eqb_tells}
use Rattle.std.proofs.lemmas.List.{append-nil, take_all, reverse-append}
use Rattle.std.proofs.lemmas.List.Elements.{All-from_recursion}
use Rattle.std.proofs.lemmas.List.Splits.{slice_split_none, slice_split_at}
use Rattle.std.proofs.Math.Seq.{get_or-append_seam}
use Rattle.tm_circuit.specs.Sound.{IsNameByte}
use Rattle.blif_lex.specs.Words.{Line, Logical, physical_lines, is_blank, is_trailing, trimmed, content_of, goes_on, logical_lines, words_in, line_of, is_skipped, is_kept, lines_of, is_plain, has_bad_byte, has_long_name, fault_in, faults_of, unless_fault, words_of}
use Rattle.blif_write.specs.Text.{further_word, line_text, lines_text}
use Rattle.blif_write.proofs.Lists.{all_append, all_map}

-- ---- bytes

pub ne_eqb : (a b : ℕ) → a ≢ b → eqb a b ≡ false
ne_eqb a b ne = elim (eqb_tells a b) [ inl w ↦ absurd (ne w.1) | inr w ↦ w.0 ]

-- What the tests say of a byte that may stand in a name.
record Tests (b : ℕ) : Type 0 where
  lf : (b == 10) ≡ false
  hash : (b == 35) ≡ false
  slash : (b == 92) ≡ false
  blank : is_blank b ≡ false
  trailing : is_trailing b ≡ false
  plain : not (is_plain b) ≡ false

tests_of : (b : ℕ) → IsNameByte b → Tests b
tests_of b h =
    let e10 : eqb b 10 ≡ false = ne_eqb b 10 (omega arith) in
    let e35 : eqb b 35 ≡ false = ne_eqb b 35 (omega arith) in
    let e92 : eqb b 92 ≡ false = ne_eqb b 92 (omega arith) in
    let e32 : eqb b 32 ≡ false = ne_eqb b 32 (omega arith) in
    let e9 : eqb b 9 ≡ false = ne_eqb b 9 (omega arith) in
    let e13 : eqb b 13 ≡ false = ne_eqb b 13 (omega arith) in
    let low : leb 33 b ≡ true = le-leb 33 b h.0 in
    let high : leb b 126 ≡ true = le-leb b 126 h.1 in
    record {
      lf = e10;
      hash = e35;
      slash = e92;
      blank = rw (e32, e9) refl;
      trailing = rw (e32, e9, e13) refl;
      plain = rw (low, high, e92) refl;
    }

-- ---- words and lines that come back

pub record IsWord (w : List ℕ) : Type 0 where
  pub some : 0 < length w
  pub short : length w ≤ 1023
  pub bytes : AllByRecursion IsNameByte w

abbrev pub IsKeptFirst : List (List ℕ) → Type 0
IsKeptFirst [] = ⊥
IsKeptFirst (first ∷ others) = is_skipped first ≡ false

-- A line of such words that is not skipped.
pub record IsLine (line : List (List ℕ)) : Type 0 where
  pub kept : IsKeptFirst line
  pub words : AllByRecursion IsWord line

-- The bytes of a line, without its LF.
abbrev joined : List (List ℕ) → List ℕ
joined [] = []
joined (word ∷ words) = word ++ flat_map further_word words

-- A byte that neither ends a line nor begins a comment.
record IsInside (b : ℕ) : Type 0 where
  lf : (b == 10) ≡ false
  hash : (b == 35) ≡ false

inside_of : (b : ℕ) → IsNameByte b → IsInside b
inside_of b h = let t = tests_of b h in record { lf = t.lf; hash = t.hash }

further_inside : (ws : List (List ℕ)) → AllByRecursion IsWord ws → AllByRecursion IsInside (flat_map further_word ws)
further_inside [] h = h
further_inside (w ∷ ws) h =
    all_append IsInside (further_word w) (flat_map further_word ws)
    (record { lf = refl; hash = refl }, all_map IsNameByte IsInside inside_of w h.0.bytes)
    (further_inside ws h.1)

joined_inside : (ws : List (List ℕ)) → AllByRecursion IsWord ws → AllByRecursion IsInside (joined ws)
joined_inside [] h = h
joined_inside (w ∷ ws) h = all_append IsInside w (flat_map further_word ws) (all_map IsNameByte IsInside inside_of w h.0.bytes) (further_inside ws h.1)

-- ---- physical lines

physical_at : (bs rest : List ℕ) → AllByRecursion IsInside bs → physical_lines (bs ++ 10 ∷ rest) ≡ bs ∷ physical_lines rest
physical_at [] rest h = refl
physical_at (b ∷ bs) rest h =
    let here : (b == 10) ≡ false = h.0.lf in
    rw here (ap (λ parts. onto_first b parts) (physical_at bs rest h.1))

line_text_joined : (words : List (List ℕ)) → line_text words ≡ joined words ++ 10 ∷ []
line_text_joined [] = refl
line_text_joined (w ∷ ws) = refl

physical_all : (ls : List (List (List ℕ))) → AllByRecursion IsLine ls → physical_lines (lines_text ls) ≡ map joined ls
physical_all [] h = refl
physical_all (l ∷ ls) h =
    let regrouped : line_text l ++ lines_text ls ≡ joined l ++ 10 ∷ lines_text ls = ap (λ x. x ++ lines_text ls) (line_text_joined l) ∙ append_assoc (joined l) (10 ∷ []) (lines_text ls) in
    ap physical_lines regrouped ∙ physical_at (joined l) (lines_text ls) (joined_inside l h.0.words) ∙ ap (λ parts. joined l ∷ parts) (physical_all ls h.1)

-- ---- the end of a line

-- The bytes end in one that may stand in a name.
abbrev EndsWell : List ℕ → Type 0
EndsWell bs = (front : List ℕ) × ((b : ℕ) × ((bs ≡ front ++ b ∷ []) × IsNameByte b))

ends_after : (xs ys : List ℕ) → EndsWell ys → EndsWell (xs ++ ys)
ends_after xs ys h = (xs ++ h.0, (h.1.0, (ap (λ y. xs ++ y) h.1.1.0 ∙ sym (append_assoc xs h.0 (h.1.0 ∷ [])), h.1.1.1)))

ends_word : (w : List ℕ) → 0 < length w → AllByRecursion IsNameByte w → EndsWell w
ends_word [] some h = absurd (omega arith)
ends_word (b ∷ []) some h = ([], (b, (refl, h.0)))
ends_word (b ∷ c ∷ bs) some h = ends_after (b ∷ []) (c ∷ bs) (ends_word (c ∷ bs) (omega arith) h.1)

ends_further : (front : List ℕ) (ws : List (List ℕ)) → EndsWell front → AllByRecursion IsWord ws → EndsWell (front ++ flat_map further_word ws)
ends_further front [] e h = subst EndsWell (sym (append-nil front)) e
ends_further front (w ∷ ws) e h =
    subst EndsWell (append_assoc front (further_word w) (flat_map further_word ws))
    (ends_further (front ++ further_word w) ws
    (ends_after front (further_word w) (ends_after (32 ∷ []) w (ends_word w h.0.some h.0.bytes))) h.1)

joined_ends : (l : List (List ℕ)) → IsLine l → EndsWell (joined l)
joined_ends [] h = absurd h.kept
joined_ends (w ∷ ws) h = ends_further w ws (ends_word w h.words.0.some h.words.0.bytes) h.words.1

-- ---- contents

no_comment : (bs : List ℕ) → AllByRecursion IsInside bs → prefix_len (λ b. not (b == 35)) bs ≡ length bs
no_comment [] h = refl
no_comment (b ∷ bs) h =
    let here : (b == 35) ≡ false = h.0.hash in
    let more : prefix_len (λ x. not (x == 35)) bs ≡ length bs = no_comment bs h.1 in
    rw here (omega arith)

no_trail : (bs : List ℕ) → EndsWell bs → suffix_len is_trailing bs ≡ 0
no_trail bs e =
    let last : is_trailing e.1.0 ≡ false = (tests_of e.1.0 e.1.1.1).trailing in
    let turned : reverse bs ≡ e.1.0 ∷ reverse e.0 = ap reverse e.1.1.0 ∙ reverse-append e.0 (e.1.0 ∷ []) in
    ap (λ x. prefix_len is_trailing x) turned ∙ ap (λ t. cond t (1 + prefix_len is_trailing (reverse e.0)) 0) last

content_same : (bs : List ℕ) → AllByRecursion IsInside bs → EndsWell bs → content_of bs ≡ bs
unfolding content_of
content_same bs h e =
    let whole : before_first (λ b. b == 35) bs ≡ bs = ap (λ n. take n bs) (no_comment bs h) ∙ take_all (length bs) bs (omega arith) in
    ap trimmed whole ∙ ap (λ n. take (length bs - n) bs) (no_trail bs e) ∙ take_all (length bs - 0) bs (omega arith)

contents_same : (ls : List (List (List ℕ))) → AllByRecursion IsLine ls → map content_of (map joined ls) ≡ map joined ls
contents_same [] h = refl
contents_same (l ∷ ls) h =
    ap (λ x. x ∷ map content_of (map joined ls)) (content_same (joined l) (joined_inside l h.0.words) (joined_ends l h.0)) ∙ ap (λ xs. joined l ∷ xs) (contents_same ls h.1)

-- ---- logical lines

-- The lines with their numbers.
abbrev pub numbered : ℕ → List (List (List ℕ)) → List Line
numbered n [] = []
numbered n (l ∷ ls) = record { number = n; words = l } ∷ numbered (n + 1) ls

abbrev logical : ℕ → List (List (List ℕ)) → List Logical
logical n [] = []
logical n (l ∷ ls) = record { number = n; bytes = joined l } ∷ logical (n + 1) ls

no_join : (bs : List ℕ) → EndsWell bs → goes_on bs ≡ false
no_join bs e =
    let size : length (e.0 ++ e.1.0 ∷ []) ≡ length e.0 + 1 = length-append e.0 (e.1.0 ∷ []) in
    let place : length bs - 1 ≡ length e.0 = omega (arith, ap length e.1.1.0) in
    let at_end : get_or bs (length bs - 1) 0 ≡ e.1.0 = ap (λ n. get_or bs n 0) place ∙ ap (λ xs. get_or xs (length e.0) 0) e.1.1.0 ∙ get_or-append_seam e.0 e.1.0 [] 0 in
    ap (λ b. b == 92) at_end ∙ (tests_of e.1.0 e.1.1.1).slash

logical_all : (n : ℕ) (ls : List (List (List ℕ))) → AllByRecursion IsLine ls → logical_lines n (map joined ls) ≡ logical n ls
logical_all n [] h = refl
logical_all n (l ∷ ls) h =
    let here : goes_on (joined l) ≡ false = no_join (joined l) (joined_ends l h.0) in
    rw here (ap (λ xs. record { number = n; bytes = joined l } ∷ xs) (logical_all (n + 1) ls h.1))

-- ---- words

not_blank : (b : ℕ) → IsNameByte b → is_blank b ≡ false
not_blank b h = (tests_of b h).blank

split_words : (w : List ℕ) (ws : List (List ℕ)) → IsWord w → AllByRecursion IsWord ws → slice_split is_blank (w ++ flat_map further_word ws) ≡ w ∷ ws
split_words w [] h k =
    ap (λ x. slice_split is_blank x) (append-nil w)
    ∙ slice_split_none is_blank w (All-from_recursion (λ b. is_blank b ≡ false) w (all_map IsNameByte (λ b. is_blank b ≡ false) not_blank w h.bytes))
split_words w (v ∷ vs) h k =
    slice_split_at is_blank w 32 (v ++ flat_map further_word vs) (All-from_recursion (λ b. is_blank b ≡ false) w (all_map IsNameByte (λ b. is_blank b ≡ false) not_blank w h.bytes)) refl
    ∙ ap (λ xs. w ∷ xs) (split_words v vs k.0 k.1)

some_kept : (ws : List (List ℕ)) → AllByRecursion IsWord ws → filter (λ w. nat_lt 0 (length w)) ws ≡ ws
some_kept [] h = refl
some_kept (w ∷ ws) h =
    let here : leb 1 (length w) ≡ true = le-leb 1 (length w) h.0.some in
    rw here (ap (λ xs. w ∷ xs) (some_kept ws h.1))

words_back : (l : List (List ℕ)) → IsLine l → words_in (joined l) ≡ l
words_back [] h = absurd h.kept
words_back (w ∷ ws) h = ap (λ xs. filter (λ x. nat_lt 0 (length x)) xs) (split_words w ws h.words.0 h.words.1) ∙ some_kept (w ∷ ws) h.words

kept_of : (l : List (List ℕ)) → IsLine l → is_kept l ≡ true
kept_of [] h = absurd h.kept
kept_of (w ∷ ws) h = ap not h.kept

kept_all : (n : ℕ) (ls : List (List (List ℕ))) → AllByRecursion IsLine ls → filter (λ l. is_kept l.words) (map line_of (logical n ls)) ≡ numbered n ls
kept_all n [] h = refl
kept_all n (l ∷ ls) h =
    let back : words_in (joined l) ≡ l = words_back l h.0 in
    let here : is_kept (words_in (joined l)) ≡ true = ap is_kept back ∙ kept_of l h.0 in
    rw here (ap (λ x. record { number = n; words = x } ∷ filter (λ k. is_kept k.words) (map line_of (logical (n + 1) ls))) back ∙ ap (λ xs. record { number = n; words = l } ∷ xs) (kept_all (n + 1) ls h.1))

lines_back : (ls : List (List (List ℕ))) → AllByRecursion IsLine ls → lines_of (lines_text ls) ≡ numbered 1 ls
unfolding lines_of
lines_back ls h =
    let step : logical_lines 1 (map content_of (physical_lines (lines_text ls))) ≡ logical 1 ls =
    ap (λ ps. logical_lines 1 (map content_of ps)) (physical_all ls h) ∙ ap (λ ps. logical_lines 1 ps) (contents_same ls h) ∙ logical_all 1 ls h in
    ap (λ xs. filter (λ l. is_kept l.words) (map line_of xs)) step ∙ kept_all 1 ls h

-- ---- no faults

plain_word : (w : List ℕ) → AllByRecursion IsNameByte w → list_any (λ b. not (is_plain b)) w ≡ false
plain_word [] h = refl
plain_word (b ∷ bs) h =
    let here : not (is_plain b) ≡ false = (tests_of b h.0).plain in
    rw here (plain_word bs h.1)

no_bad_byte : (ws : List (List ℕ)) → AllByRecursion IsWord ws → list_any (λ w. has_bad_byte w) ws ≡ false
no_bad_byte [] h = refl
no_bad_byte (w ∷ ws) h =
    let here : has_bad_byte w ≡ false = plain_word w h.0.bytes in
    rw here (no_bad_byte ws h.1)

no_long_name : (ws : List (List ℕ)) → AllByRecursion IsWord ws → has_long_name 1023 false ws ≡ false
no_long_name [] h = refl
no_long_name (w ∷ ws) h =
    let here : ltb 1023 (length w) ≡ false = le-ltb 1023 (length w) h.0.short in
    rw here (no_long_name ws h.1)

no_fault : (ws : List (List ℕ)) → AllByRecursion IsWord ws → fault_in 1023 false ws ≡ None
unfolding fault_in
no_fault ws h = rw (no_bad_byte ws h, no_long_name ws h) refl

no_faults : (n : ℕ) (ls : List (List (List ℕ))) → AllByRecursion IsLine ls → faults_of 1023 false (numbered n ls) ≡ []
no_faults n [] h = refl
no_faults n (l ∷ ls) h =
    let here : fault_in 1023 false l ≡ None = no_fault l h.0.words in
    rw here (no_faults (n + 1) ls h.1)

-- The words of lines that are written are these lines, numbered from 1.
pub words_written : (ls : List (List (List ℕ))) → AllByRecursion IsLine ls → words_of 1023 false (lines_text ls) ≡ Ok (numbered 1 ls)
unfolding words_of
words_written ls h =
    ap (λ lines. unless_fault (faults_of 1023 false lines) lines) (lines_back ls h)
    ∙ ap (λ faults. unless_fault faults (numbered 1 ls)) (no_faults 1 ls h)
