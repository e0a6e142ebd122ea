-- Lines cut from the front of a text, and their bytes.
use Rattle.std.proofs.Common.{◌≡◌, ℕ, suc, ◌+◌, ◌-◌, ◌<◌, ◌≤◌, Bool, true, false, cond, eqb, List, [], ◌∷◌, ◌++◌, length, take, get_or, refl, sym, ◌∙◌, ap, arith, append_assoc, append-nil}
use Rattle.std.specs.List.{slice_split, onto_first}
use Rattle.std.specs.Prelude.{slice_index}
use Rattle.std.proofs.lemmas.List.{length-take-le}
use Rattle.std.proofs.lemmas.Bool.{eqb-true}
use Rattle.aiger_read.specs.Lines.{without_cr, unended, last_line, lines_in, lines_of, line_at, words_in, is_blank}
use Rattle.aiger_read.proofs.Lists.{length-pieces}

lines_more : (pieces : List (List ℕ)) (line : List ℕ) → 0 < length pieces → lines_in (line ∷ pieces) ≡ without_cr line ∷ lines_in pieces
lines_more [] line some = absurd (omega arith)
lines_more (piece ∷ pieces) line some = refl

-- The first LF ends the first line.
pub lines-cut : (text line rest : List ℕ) → slice_split (λ b. eqb b 10) text ≡ line ∷ slice_split (λ b. eqb b 10) rest
    → lines_of text ≡ without_cr line ∷ lines_of rest
lines-cut text line rest cut = ap lines_in cut ∙ lines_more (slice_split (λ b. eqb b 10) rest) line (length-pieces (λ b. eqb b 10) rest)

-- One line more was taken.
pub lines_next : (text : List ℕ) (lines : List (List ℕ)) (rest line after : List ℕ) → lines_of text ≡ lines ++ lines_of rest
    → slice_split (λ b. eqb b 10) rest ≡ line ∷ slice_split (λ b. eqb b 10) after → lines_of text ≡ (lines ++ without_cr line ∷ []) ++ lines_of after
lines_next text lines rest line after so_far cut =
    so_far ∙ ap (λ xs. lines ++ xs) (lines-cut rest line after cut) ∙ sym (append_assoc lines (without_cr line ∷ []) (lines_of after))

-- What is left has no LF.
lines_end : (text : List ℕ) (lines : List (List ℕ)) (rest : List ℕ) → lines_of text ≡ lines ++ lines_of rest → slice_split (λ b. eqb b 10) rest ≡ rest ∷ []
    → lines_of text ≡ lines ++ last_line rest
lines_end text lines rest so_far whole = so_far ∙ ap (λ pieces. lines ++ lines_in pieces) whole

last_some : (rest : List ℕ) → eqb (length rest) 0 ≡ false → last_line rest ≡ unended rest ∷ []
last_some [] some = cc
last_some (b ∷ rest) some = refl

last_none : (rest : List ℕ) → eqb (length rest) 0 ≡ true → last_line rest ≡ []
last_none [] none = refl
last_none (b ∷ rest) none = absurd (let e : suc (length rest) ≡ 0 = eqb-true (suc (length rest)) 0 none in omega arith)

pub lines_with : (text : List ℕ) (lines : List (List ℕ)) (rest : List ℕ) → lines_of text ≡ lines ++ lines_of rest → slice_split (λ b. eqb b 10) rest ≡ rest ∷ []
    → eqb (length rest) 0 ≡ false → lines_of text ≡ lines ++ unended rest ∷ []
lines_with text lines rest so_far whole some = lines_end text lines rest so_far whole ∙ ap (λ xs. lines ++ xs) (last_some rest some)

pub lines_without : (text : List ℕ) (lines : List (List ℕ)) (rest : List ℕ) → lines_of text ≡ lines ++ lines_of rest → slice_split (λ b. eqb b 10) rest ≡ rest ∷ []
    → eqb (length rest) 0 ≡ true → lines_of text ≡ lines
lines_without text lines rest so_far whole none = lines_end text lines rest so_far whole ∙ ap (λ xs. lines ++ xs) (last_none rest none) ∙ append-nil lines

-- ---- bytes

-- the bytes of lines, with one more for each
abbrev pub weight : List (List ℕ) → ℕ
weight [] = 0
weight (line ∷ lines) = suc (length line) + weight lines

weight-onto : (b : ℕ) (pieces : List (List ℕ)) → 0 < length pieces → weight (onto_first b pieces) ≡ suc (weight pieces)
weight-onto b [] some = absurd (omega arith)
weight-onto b (piece ∷ pieces) some = omega arith

weight-split : (p : ℕ → Bool) (text : List ℕ) → weight (slice_split p text) ≡ suc (length text)
weight-split p [] = refl
weight-split p (b ∷ text) = by_test (p b) (weight-split p text)
  where
    by_test : (is : Bool) → weight (slice_split p text) ≡ suc (length text)
        → weight (cond is ([] ∷ slice_split p text) (onto_first b (slice_split p text))) ≡ suc (suc (length text))
    by_test true ih = omega (arith, ih)
    by_test false ih = weight-onto b (slice_split p text) (length-pieces p text) ∙ ap suc ih

first_within : (words : List (List ℕ)) → 0 < length words → length (get_or words 0 []) + 1 ≤ weight words
first_within [] some = absurd (omega arith)
first_within (word ∷ words) some = omega arith

-- A line has at least the bytes of its first word.
pub first_word : (line : List ℕ) → length (get_or (words_in line) 0 []) ≤ length line
first_word line =
    let a = first_within (words_in line) (length-pieces is_blank line) in
    let b = weight-split is_blank line in
    omega (arith, a, b)

shorter : (line : List ℕ) → length (without_cr line) ≤ length line
shorter line = by_test (eqb (slice_index line (length line - 1)) 13)
  where
    by_test : (is : Bool) → length (cond is (take (length line - 1) line) line) ≤ length line
    by_test true = let e = length-take-le (length line - 1) line (omega arith) in omega (arith, e)
    by_test false = omega arith

no_longer : (b : ℕ) (piece : List ℕ) → length (unended (b ∷ piece)) ≤ suc (length piece)
no_longer b piece = by_test (eqb (slice_index (b ∷ piece) (length (b ∷ piece) - 1)) 13)
  where
    by_test : (is : Bool) → length (cond is (13 ∷ []) (b ∷ piece)) ≤ suc (length piece)
    by_test true = omega arith
    by_test false = omega arith

weight-lines : (pieces : List (List ℕ)) → weight (lines_in pieces) ≤ weight pieces
weight-lines [] = omega arith
weight-lines ([] ∷ []) = omega arith
weight-lines ((b ∷ piece) ∷ []) = let s = no_longer b piece in omega (arith, s)
weight-lines (piece ∷ next ∷ pieces) =
    let ih = weight-lines (next ∷ pieces) in
    let s = shorter piece in
    omega (arith, ih, s)

few : (lines : List (List ℕ)) → length lines ≤ weight lines
few [] = omega arith
few (line ∷ lines) = let ih = few lines in omega (arith, ih)

first_weight : (lines : List (List ℕ)) → length (line_at lines 0) + length lines ≤ weight lines
first_weight [] = omega arith
first_weight (line ∷ lines) = let e = few lines in omega (arith, e)

-- The lines of a text are few, by its bytes.
pub lines_few : (text : List ℕ) → length (line_at (lines_of text) 0) + length (lines_of text) ≤ suc (length text)
lines_few text =
    let a = first_weight (lines_of text) in
    let b = weight-lines (slice_split (λ b. eqb b 10) text) in
    let c = weight-split (λ b. eqb b 10) text in
    omega (arith, a, b, c)
