-- The statements of the lines that are written, each with its rows.
use Rattle.std.proofs.Common.{◌≡◌, ℕ, ◌+◌, ◌++◌, List, [], ◌∷◌, true, false, length, take, refl, ap, ◌∙◌, arith}
use Rattle.std.specs.Prelude.{take_while}
use Rattle.std.specs.List.{flat_map, prefix_len, AllByRecursion}
use Rattle.blif_lex.specs.Words.{Line}
use Rattle.blif_read.specs.Keyword.{keyword_at}
use Rattle.blif_read.specs.Statement.{Block, begins_row, is_row, blocks_of}
use Rattle.blif_write.proofs.Lexing.{numbered}
use Rattle.blif_write.proofs.Lists.{take_front}

-- A statement: its first word, its further words, and the words of its rows.
pub record Statement : Type 0 where
  pub word : List ℕ
  pub further : List (List ℕ)
  pub rows : List (List (List ℕ))

abbrev pub lines_in : Statement → List (List (List ℕ))
lines_in s = (s.word ∷ s.further) ∷ s.rows

abbrev pub HasRow : List (List ℕ) → Type 0
HasRow [] = ⊥
HasRow (word ∷ words) = begins_row (keyword_at word) ≡ true

-- It begins as a statement does, and its rows as rows do.
pub record IsStatement (s : Statement) : Type 0 where
  pub head : begins_row (keyword_at s.word) ≡ false
  pub rows : AllByRecursion HasRow s.rows

-- The statements as blocks of lines, the first of which has this number.
abbrev pub blocks : ℕ → List Statement → List Block
blocks n [] = []
blocks n (s ∷ ss) = record { head = record { number = n; words = s.word ∷ s.further }; rows = numbered (n + 1) s.rows } ∷ blocks (n + 1 + length s.rows) ss

abbrev lines_from : ℕ → List Statement → List Line
lines_from n ss = numbered n (flat_map lines_in ss)

numbered-append : (n : ℕ) (xs ys : List (List (List ℕ))) → numbered n (xs ++ ys) ≡ numbered n xs ++ numbered (n + length xs) ys
numbered-append n [] ys = ap (λ k. numbered k ys) (omega arith)
numbered-append n (x ∷ xs) ys =
    ap (λ rest. record { number = n; words = x } ∷ rest)
    (numbered-append (n + 1) xs ys ∙ ap (λ k. numbered (n + 1) xs ++ numbered k ys) (let e : n + 1 + length xs ≡ n + length (x ∷ xs) = omega arith in e))

row_first : (number : ℕ) (words : List (List ℕ)) → HasRow words → is_row (record { number = number; words = words }) ≡ true
row_first number [] h = absurd h
row_first number (word ∷ words) h = h

-- Rows in front of lines are passed over.
rows_passed : (m : ℕ) (rows : List (List (List ℕ))) (rest : List Line) → AllByRecursion HasRow rows → blocks_of (numbered m rows ++ rest) ≡ blocks_of rest
unfolding blocks_of
rows_passed m [] rest h = refl
rows_passed m (row ∷ rows) rest h =
    let here : is_row (record { number = m; words = row }) ≡ true = row_first m row h.0 in
    rw here (rows_passed (m + 1) rows rest h.1)

rows_counted : (m : ℕ) (rows : List (List (List ℕ))) (rest : List Line) → AllByRecursion HasRow rows → prefix_len is_row rest ≡ 0 → prefix_len is_row (numbered m rows ++ rest) ≡ length (numbered m rows)
rows_counted m [] rest h end = end
rows_counted m (row ∷ rows) rest h end =
    let here : is_row (record { number = m; words = row }) ≡ true = row_first m row h.0 in
    let more = rows_counted (m + 1) rows rest h.1 end in
    rw here (omega arith)

rows_taken : (m : ℕ) (rows : List (List (List ℕ))) (rest : List Line) → AllByRecursion HasRow rows → prefix_len is_row rest ≡ 0 → take_while is_row (numbered m rows ++ rest) ≡ numbered m rows
rows_taken m rows rest h end = ap (λ n. take n (numbered m rows ++ rest)) (rows_counted m rows rest h end) ∙ take_front (numbered m rows) rest

pub no_row_first : (n : ℕ) (ss : List Statement) → AllByRecursion IsStatement ss → prefix_len is_row (lines_from n ss) ≡ 0
no_row_first n [] h = refl
no_row_first n (s ∷ ss) h =
    let here : begins_row (keyword_at s.word) ≡ false = h.0.head in
    rw here refl

-- The lines of statements are these statements with their rows.
pub blocks_back : (n : ℕ) (ss : List Statement) → AllByRecursion IsStatement ss → blocks_of (lines_from n ss) ≡ blocks n ss
unfolding blocks_of
blocks_back n [] h = refl
blocks_back n (s ∷ ss) h =
    let here : begins_row (keyword_at s.word) ≡ false = h.0.head in
    let split : numbered (n + 1) (s.rows ++ flat_map lines_in ss) ≡ numbered (n + 1) s.rows ++ lines_from (n + 1 + length s.rows) ss = numbered-append (n + 1) s.rows (flat_map lines_in ss) in
    let rest = lines_from (n + 1 + length s.rows) ss in
    let taken : take_while is_row (numbered (n + 1) (s.rows ++ flat_map lines_in ss)) ≡ numbered (n + 1) s.rows =
    ap (λ xs. take_while is_row xs) split ∙ rows_taken (n + 1) s.rows rest h.0.rows (no_row_first (n + 1 + length s.rows) ss h.1) in
    let others : blocks_of (numbered (n + 1) (s.rows ++ flat_map lines_in ss)) ≡ blocks (n + 1 + length s.rows) ss =
    ap blocks_of split ∙ rows_passed (n + 1) s.rows rest h.0.rows ∙ blocks_back (n + 1 + length s.rows) ss h.1 in
    rw here (ap (λ rows. record { head = record { number = n; words = s.word ∷ s.further }; rows = rows } ∷ blocks_of (numbered (n + 1) (s.rows ++ flat_map lines_in ss))) taken
    ∙ ap (λ bs. record { head = record { number = n; words = s.word ∷ s.further }; rows = numbered (n + 1) s.rows } ∷ bs) others)
