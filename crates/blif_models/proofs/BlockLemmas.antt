-- Statements with their rows, read one after another.
use Rattle.std.proofs.Common.{◌≡◌, ◌≢◌, ℕ, ◌+◌, ◌-◌, ◌<◌, ◌≤◌, suc, zero, true, false, List, [], ◌∷◌, ◌++◌, None, Some, length, take, drop, take_while, slice_range, refl, sym, ◌∙◌, ap, arith, add-one, append_assoc}
use Rattle.std.proofs.Math.Seq.{drop-cons, take-suc, take-length}
use Rattle.std.specs.Borrow.{Bor}
use Rattle.std.proofs.lemmas.List.{length-drop, length-take-le, get_or-drop, append-nil, drop-map}
use Rattle.blif_models.proofs.RowLemmas.{range-step}
use Rattle.blif_models.specs.Keyword.{keyword_at}
use Rattle.std.proofs.lemmas.List.Sums.{take_while-cons}
use Rattle.blif_lex.specs.Words.{Line}
use Rattle.blif_lex.specs.Spans.{nth_line}
use Rattle.blif_unit.specs.declared.fault.BlifFault.{BlifFault}
use Rattle.blif_unit.specs.declared.fault.BlifFault.TheVariants.{Text, NoMemory}
use Rattle.blif_unit.specs.declared.fault.BlifKind.TheVariants.{Misplaced}
use Rattle.blif_models.specs.declared.keyword.Keyword.{Keyword}
use Rattle.blif_models.specs.declared.keyword.Keyword.TheVariants.{Model, Inputs, Outputs, Clock, Names, Latch, End, Omitted, Unknown, Row}
use Rattle.blif_unit.specs.Fault.{OnText}
use Rattle.blif_models.specs.Words.{texts, IsHeadFault, block_at}
use Rattle.blif_models.specs.Statement.{Block, Earlier, is_row, is_on, blocks_of, keyword_in, further, fault_in_block, fault_in_head, fault_after_head, fault_in_rows, misplaced_first, told_in, word_at, but_last}

-- a line and the lines after it
pub drop-line : (lines : List Line) (i : ℕ) → i < length lines → drop i lines ≡ nth_line lines i ∷ drop (i + 1) lines
drop-line lines i inside = rw add-one (drop-cons lines i _ inside)

pub drop-all : (lines : List Line) (i : ℕ) → length lines ≤ i → drop i lines ≡ []
drop-all [] zero le = refl
drop-all [] (suc i) le = refl
drop-all (l ∷ lines) zero le = absurd (omega arith)
drop-all (l ∷ lines) (suc i) le = drop-all lines i (omega arith)

-- a stretch with one more line at its end
pub range-more : (lines : List Line) (i e : ℕ) → i ≤ e → e < length lines → slice_range lines i (e + 1) ≡ slice_range lines i e ++ nth_line lines e ∷ []
range-more lines i e le lt =
    let k : e + 1 - i ≡ suc (e - i) = omega arith in
    let inside : e - i < length (drop i lines) = omega (arith, length-drop i lines) in
    let at : i + (e - i) ≡ e = omega arith in
    let none : Line = record { number = 0; words = [] } in
    rw k (take-suc (drop i lines) (e - i) none inside ∙ ap (λ l. slice_range lines i e ++ l ∷ []) (get_or-drop i lines (e - i) none ∙ ap (λ n. nth_line lines n) at))

pub blocks-row : (line : Line) (lines : List Line) → is_row line ≡ true → blocks_of (line ∷ lines) ≡ blocks_of lines
unfolding blocks_of
blocks-row line lines h = rw h refl

pub blocks-head : (line : Line) (lines : List Line) → is_row line ≡ false
    → blocks_of (line ∷ lines) ≡ record { head = line; rows = take_while is_row lines } ∷ blocks_of lines
unfolding blocks_of
blocks-head line lines h = rw h refl

-- Lines from start up to end are rows.
pub record IsPassing (lines : List Line) (start end : ℕ) : Type 0 where
  pub order : start ≤ end
  pub within : end ≤ length lines
  pub rows : take_while is_row (drop start lines) ≡ slice_range lines start end ++ take_while is_row (drop end lines)
  pub blocks : blocks_of (drop end lines) ≡ blocks_of (drop start lines)

pub passing : (lines : List Line) (start : ℕ) → start ≤ length lines → IsPassing lines start start
passing lines start le = record {
  order = omega arith;
  within = le;
  rows = let k : start - start ≡ 0 = omega arith in rw k refl;
  blocks = refl;
}

pub passed : (lines : List Line) (start end : ℕ) → IsPassing lines start end → end < length lines → is_row (nth_line lines end) ≡ true
    → IsPassing lines start (end + 1)
passed lines start end p lt row =
    let d = drop-line lines end lt in
    record {
      order = omega (arith, p.order);
      within = omega arith;
      rows = p.rows ∙ ap (λ ls. slice_range lines start end ++ take_while is_row ls) d
          ∙ ap (λ ls. slice_range lines start end ++ ls) (take_while-cons is_row (nth_line lines end) (drop (end + 1) lines) ∙ rw row refl)
          ∙ sym (append_assoc (slice_range lines start end) (nth_line lines end ∷ []) (take_while is_row (drop (end + 1) lines)))
          ∙ ap (λ ls. ls ++ take_while is_row (drop (end + 1) lines)) (sym (range-more lines start end p.order lt));
      blocks = sym (ap blocks_of d ∙ blocks-row (nth_line lines end) (drop (end + 1) lines) row) ∙ p.blocks;
    }

pub stopped-at : (lines : List Line) (start end : ℕ) → IsPassing lines start end → end < length lines → is_row (nth_line lines end) ≡ false
    → slice_range lines start end ≡ take_while is_row (drop start lines)
stopped-at lines start end p lt row =
    sym (p.rows ∙ ap (λ ls. slice_range lines start end ++ take_while is_row ls) (drop-line lines end lt)
    ∙ ap (λ ls. slice_range lines start end ++ ls) (take_while-cons is_row (nth_line lines end) (drop (end + 1) lines) ∙ rw row refl)
    ∙ append-nil (slice_range lines start end))

pub stopped-end : (lines : List Line) (start end : ℕ) → IsPassing lines start end → length lines ≤ end
    → slice_range lines start end ≡ take_while is_row (drop start lines)
stopped-end lines start end p le =
    sym (p.rows ∙ ap (λ ls. slice_range lines start end ++ take_while is_row ls) (drop-all lines end le)
    ∙ append-nil (slice_range lines start end))

-- The first statement of the lines from one that is no row.
pub first_block : (lines : List Line) (line end : ℕ) → line < length lines → is_row (nth_line lines line) ≡ false
    → slice_range lines (line + 1) end ≡ take_while is_row (drop (line + 1) lines) → blocks_of (drop end lines) ≡ blocks_of (drop (line + 1) lines)
    → blocks_of (drop line lines) ≡ block_at lines line end ∷ blocks_of (drop end lines)
first_block lines line end lt head rows rest =
    ap blocks_of (drop-line lines line lt) ∙ blocks-head (nth_line lines line) (drop (line + 1) lines) head ∙ rw (rows, rest) refl

-- ---- the fault of a statement and its rows

pub head_faulty : (e : BlifFault) (before : Earlier) (b : Block) → IsHeadFault e b.head.number (fault_in_head (keyword_in b.head) before (further b.head))
    → OnText e (λ f. fault_in_block before b ≡ Some f)
unfolding fault_in_block
head_faulty (Text line kind) before b (l, h) = rw (h, l) refl
head_faulty NoMemory before b h = tt

pub rows_faulty : (e : BlifFault) (before : Earlier) (b : Block) → fault_in_head (keyword_in b.head) before (further b.head) ≡ None
    → keyword_in b.head ≡ Names → OnText e (λ f. fault_in_rows (length (further b.head) - 1) (is_on b.rows) b.rows ≡ Some f)
    → OnText e (λ f. fault_in_block before b ≡ Some f)
unfolding fault_in_block
rows_faulty (Text line kind) before b h k r = rw (h, k) r
rows_faulty NoMemory before b h k r = tt

-- after no gate, rows are misplaced
pub after_plain : (k : Keyword) (ws : List (List ℕ)) (rows : List Line) → k ≢ Names → fault_after_head k ws rows ≡ misplaced_first rows
after_plain Names ws rows ne = absurd (ne refl)
after_plain Model ws rows ne = refl
after_plain Inputs ws rows ne = refl
after_plain Outputs ws rows ne = refl
after_plain Clock ws rows ne = refl
after_plain Latch ws rows ne = refl
after_plain End ws rows ne = refl
after_plain Omitted ws rows ne = refl
after_plain Unknown ws rows ne = refl
after_plain Row ws rows ne = refl

pub told_plain : (k : Keyword) (ws : List (List ℕ)) (rows : List Line) → k ≢ Names → told_in k ws [] ≡ told_in k ws rows
told_plain Names ws rows ne = absurd (ne refl)
told_plain Model ws rows ne = refl
told_plain Inputs ws rows ne = refl
told_plain Outputs ws rows ne = refl
told_plain Clock ws rows ne = refl
told_plain Latch ws rows ne = refl
told_plain End ws rows ne = refl
told_plain Omitted ws rows ne = refl
told_plain Unknown ws rows ne = refl
told_plain Row ws rows ne = refl

pub misplaced_after : (before : Earlier) (b : Block) (row : Line) (rows : List Line) → fault_in_head (keyword_in b.head) before (further b.head) ≡ None
    → keyword_in b.head ≢ Names → b.rows ≡ row ∷ rows → fault_in_block before b ≡ Some (row.number, Misplaced)
unfolding fault_in_block
misplaced_after before b row rows h ne r = rw (h, after_plain (keyword_in b.head) (further b.head) b.rows ne, r) refl

pub lawful_gate : (before : Earlier) (b : Block) → fault_in_head (keyword_in b.head) before (further b.head) ≡ None
    → keyword_in b.head ≡ Names → fault_in_rows (length (further b.head) - 1) (is_on b.rows) b.rows ≡ None → fault_in_block before b ≡ None
unfolding fault_in_block
lawful_gate before b h k r = rw (h, k) r

pub lawful_plain : (before : Earlier) (b : Block) → fault_in_head (keyword_in b.head) before (further b.head) ≡ None
    → keyword_in b.head ≢ Names → b.rows ≡ [] → fault_in_block before b ≡ None
unfolding fault_in_block
lawful_plain before b h ne r = rw (h, after_plain (keyword_in b.head) (further b.head) b.rows ne, r) refl

-- ---- the words that are read

pub keyword_read : (head : Line) (ws : List (Bor (List ℕ))) → texts ws ≡ head.words → keyword_at (word_at (texts ws) 0) ≡ keyword_in head
keyword_read head ws h = ap (λ words. keyword_at (word_at words 0)) h

pub further_read : (head : Line) (ws : List (Bor (List ℕ))) → texts ws ≡ head.words → texts (take (length ws - 1) (drop 1 ws)) ≡ further head
further_read head ws h =
    let whole : length (drop 1 ws) ≡ length ws - 1 = length-drop 1 ws in
    ap texts (ap (λ n. take n (drop 1 ws)) (sym whole) ∙ take-length (drop 1 ws)) ∙ sym (drop-map (λ w. w.now) 1 ws) ∙ ap (drop 1) h

-- all words but the last are one fewer
pub before_last : (ws : List (List ℕ)) → length (but_last ws) ≡ length ws - 1
before_last ws = length-take-le (length ws - 1) ws (omega arith)

pub range_none : (lines : List Line) (i e : ℕ) → e ≤ i → slice_range lines i e ≡ []
range_none lines i e le = let k : e - i ≡ 0 = omega arith in rw k refl

pub range_some : (lines : List Line) (i e : ℕ) → i < e → e ≤ length lines → slice_range lines i e ≡ nth_line lines i ∷ slice_range lines (i + 1) e
range_some lines i e lt le = range-step lines i e lt le
