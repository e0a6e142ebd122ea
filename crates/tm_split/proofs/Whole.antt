-- What all rows of a gate are split into.
use Rattle.std.proofs.Common.{◌≡◌, ℕ, ◌+◌, ◌-◌, ◌<◌, ◌⊎◌, inl, inr, Bool, true, false, ◌&&◌, ◌||◌, cond, List, [], ◌∷◌, ◌++◌, map, length, take, get_or, refl, sym, ◌∙◌, ap, subst, append_assoc, length-append, arith}
use Rattle.std.specs.List.{list_any}
use Rattle.std.proofs.lemmas.Bool.{cases_lt}
use Rattle.std.proofs.lemmas.List.{append-nil, map_more}
use Rattle.tm_bits.specs.declared.cover.Place.{Place}
use Rattle.tm_split.specs.declared.piece.Wire.{Wire}
use Rattle.tm_split.specs.declared.piece.Wire.TheVariants.{Made}
use Rattle.tm_split.specs.declared.piece.Literal.{Literal}
use Rattle.tm_split.specs.declared.piece.Piece.{Piece}
use Rattle.tm_split.specs.declared.piece.Piece.TheVariants.{BareRow, Both, Either}
use Rattle.tm_split.specs.Pieces.{literals_of, made, is_empty, Reduction, reduction, reduced, reduced_rows, pieces_or_left, pieces_of_rows}
use Rattle.tm_split.specs.Making.{AreWiredBy}
use Rattle.tm_split.proofs.Rounds.{AreLiteralsOf, literals_later, literals_join, IsWiredReduction, reduced_wired, both_reads, either_reads, reduced_one, reduced_total, reduced_last, rounds_steady}
use Rattle.tm_split.proofs.Values.{literal_value, Obeys, obeys_first, folded, both_joins, either_joins, reduced_value, reduced_keeps, and_neutral, or_neutral}

-- Each row has a literal.
abbrev pub HaveLiterals : List (List Literal) → Type 0
HaveLiterals [] = Unit {0}
HaveLiterals (row ∷ rows) = (0 < length row) × HaveLiterals rows

pub have_literals : (rows : List (List Literal)) → list_any is_empty rows ≡ false → HaveLiterals rows
have_literals [] none = tt
have_literals ([] ∷ rows) none = cc
have_literals ((l ∷ ls) ∷ rows) none = (omega arith, have_literals rows none)

-- Each row has literals of signals.
abbrev pub AreRowsOf : (ℕ → Type 0) → List (List Literal) → Type 0
AreRowsOf P [] = Unit {0}
AreRowsOf P (row ∷ rows) = AreLiteralsOf P 0 row × AreRowsOf P rows

abbrev pub total : List (List Literal) → ℕ
total [] = 0
total (row ∷ rows) = length row + total rows

-- ---- the rows one by one

abbrev pub row_reduced : List Piece → List Literal → Reduction
row_reduced pieces row = reduced (λ a b. Both a b) (reduction pieces row)

-- One literal is left of each row.
pub rows_total : (pieces : List Piece) (rows : List (List Literal)) → HaveLiterals rows
    → (length (reduced_rows pieces rows).left ≡ length rows) × (length (reduced_rows pieces rows).pieces + length rows ≡ length pieces + total rows)
rows_total pieces [] some = (refl, refl)
rows_total pieces (row ∷ rows) (some, others) =
    let one : Reduction = row_reduced pieces row in
    let single : length (row_reduced pieces row).left ≡ 1 = reduced_one (λ a b. Both a b) (reduction pieces row) some in
    let count : length (row_reduced pieces row).pieces + length (row_reduced pieces row).left ≡ length pieces + length row = reduced_total (λ a b. Both a b) (reduction pieces row) in
    let (lefts, counts) = rows_total (row_reduced pieces row).pieces rows others in
    let both : length ((row_reduced pieces row).left ++ (reduced_rows (row_reduced pieces row).pieces rows).left) ≡ length (row_reduced pieces row).left + length (reduced_rows (row_reduced pieces row).pieces rows).left = length-append (row_reduced pieces row).left (reduced_rows (row_reduced pieces row).pieces rows).left in
    (omega arith, omega arith)

-- What was made stays.
rows_keep : (pieces : List Piece) (rows : List (List Literal)) → (more : List Piece) × ((reduced_rows pieces rows).pieces ≡ pieces ++ more)
rows_keep pieces [] = ([], sym (append-nil pieces))
rows_keep pieces (row ∷ rows) =
    let (made_here, here) = reduced_keeps (λ a b. Both a b) (reduction pieces row) in
    let (made_later, later) = rows_keep (row_reduced pieces row).pieces rows in
    (made_here ++ made_later, later ∙ (ap (λ ps. ps ++ made_later) here ∙ append_assoc pieces made_here made_later))

rows_wired : (free : Bool) (P : ℕ → Type 0) (pieces : List Piece) (rows : List (List Literal)) → AreWiredBy free P 0 pieces
    → AreRowsOf P rows → IsWiredReduction free P (reduced_rows pieces rows)
rows_wired free P pieces [] are given = record { pieces = are; left = tt }
rows_wired free P pieces (row ∷ rows) are (given, others) =
    let first : IsWiredReduction free P (reduction pieces row) = record { pieces = are; left = literals_later P 0 (length pieces) row (omega arith) given } in
    let one : IsWiredReduction free P (row_reduced pieces row) = reduced_wired (λ a b. Both a b) both_reads free P (reduction pieces row) first in
    let rest : IsWiredReduction free P (reduced_rows (row_reduced pieces row).pieces rows) = rows_wired free P (row_reduced pieces row).pieces rows one.pieces others in
    let (more, kept) = rows_keep (row_reduced pieces row).pieces rows in
    let longer : length (reduced_rows (row_reduced pieces row).pieces rows).pieces ≡ length (row_reduced pieces row).pieces + length more = ap (λ (ps : List Piece). length ps) kept ∙ length-append (row_reduced pieces row).pieces more in
    record {
      pieces = rest.pieces;
      left = literals_join P (length (reduced_rows (row_reduced pieces row).pieces rows).pieces) (row_reduced pieces row).left (reduced_rows (row_reduced pieces row).pieces rows).left (literals_later P (length (row_reduced pieces row).pieces) (length (reduced_rows (row_reduced pieces row).pieces rows).pieces) (row_reduced pieces row).left (omega arith) one.left) rest.left;
    }

abbrev pub all_of : (Wire → Bool) → List Literal → Bool
all_of v row = folded (λ a b. a && b) true v row

abbrev pub some_of : (Wire → Bool) → List Literal → Bool
some_of v row = folded (λ a b. a || b) false v row

single_value : (v : Wire → Bool) (ls others : List Literal) → length ls ≡ 1 → some_of v (ls ++ others) ≡ (all_of v ls || some_of v others)
single_value v [] others one = absurd (omega arith)
single_value v (l ∷ []) others one = ap (λ b. b || some_of v others) (sym (and_neutral (literal_value v l)))
single_value v (l ∷ m ∷ ls) others one = absurd (omega arith)

-- Some literal that is left of the rows holds where all literals of some row do.
rows_value : (v : Wire → Bool) (pieces : List Piece) (rows : List (List Literal)) → HaveLiterals rows
    → Obeys v 0 (reduced_rows pieces rows).pieces
    → some_of v (reduced_rows pieces rows).left ≡ list_any (λ row. all_of v row) rows
rows_value v pieces [] some obeys = refl
rows_value v pieces (row ∷ rows) (some, others) obeys =
    let single : length (row_reduced pieces row).left ≡ 1 = reduced_one (λ a b. Both a b) (reduction pieces row) some in
    let (more, kept) = rows_keep (row_reduced pieces row).pieces rows in
    let first : Obeys v 0 (row_reduced pieces row).pieces = obeys_first v 0 (row_reduced pieces row).pieces more (subst (λ (ps : List Piece). Obeys v 0 ps) kept obeys) in
    let here : all_of v (row_reduced pieces row).left ≡ all_of v row = reduced_value (λ a b. a && b) true (λ a b. Both a b) both_joins v (reduction pieces row) first in
    let rest : some_of v (reduced_rows (row_reduced pieces row).pieces rows).left ≡ list_any (λ r. all_of v r) rows = rows_value v (row_reduced pieces row).pieces rows others obeys in
    single_value v (row_reduced pieces row).left (reduced_rows (row_reduced pieces row).pieces rows).left single
    ∙ (ap (λ b. b || some_of v (reduced_rows (row_reduced pieces row).pieces rows).left) here
    ∙ ap (λ b. all_of v row || b) rest)

-- ---- the rows joined

abbrev pub all_reduced : List (List Literal) → Reduction
all_reduced rows = reduced (λ a b. Either a b) (reduced_rows [] rows)

-- Either no gate was made, or the literal that is left is the gate made last.
abbrev pub EndsInLast : Reduction → Type 0
EndsInLast r = (r.pieces ≡ []) ⊎ (r.left ≡ made (length r.pieces - 1) ∷ [])

one_row_last : (row : List Literal) → 0 < length row → EndsInLast (all_reduced (row ∷ []))
one_row_last row some =
    let single : length (row_reduced [] row).left ≡ 1 = reduced_one (λ a b. Both a b) (reduction [] row) some in
    let longer : length ((row_reduced [] row).left ++ []) ≡ length (row_reduced [] row).left + 0 = length-append (row_reduced [] row).left [] in
    let same : all_reduced (row ∷ []) ≡ reduction (row_reduced [] row).pieces ((row_reduced [] row).left ++ []) =
    rounds_steady (λ a b. Either a b) (length ((row_reduced [] row).left ++ [])) (reduction (row_reduced [] row).pieces ((row_reduced [] row).left ++ [])) (omega arith) in
    let back : row_reduced [] row ≡ all_reduced (row ∷ []) = ap (λ ls. reduction (row_reduced [] row).pieces ls) (sym (append-nil (row_reduced [] row).left)) ∙ sym same in
    subst (λ (r : Reduction). EndsInLast r) back
    (elim (cases_lt 1 (length row)) [
      | inl many ↦ inr (reduced_last (λ a b. Both a b) (reduction [] row) many)
      | inr one ↦ inl (ap (λ (r : Reduction). r.pieces) (rounds_steady (λ a b. Both a b) (length row) (reduction [] row) one))
    ])

all_last : (row : List Literal) (rows : List (List Literal)) → HaveLiterals (row ∷ rows) → EndsInLast (all_reduced (row ∷ rows))
all_last row [] some = one_row_last row some.0
all_last row (next ∷ rows) some =
    let (lefts, counts) = rows_total [] (row ∷ next ∷ rows) some in
    inr (reduced_last (λ a b. Either a b) (reduced_rows [] (row ∷ next ∷ rows)) (omega arith))

-- ---- with no gate made

or_left_wired : (free : Bool) (P : ℕ → Type 0) (pieces : List Piece) (left : List Literal) → length left ≡ 1
    → AreWiredBy free P 0 pieces → AreLiteralsOf P (length pieces) left
    → AreWiredBy free P 0 (pieces_or_left (reduction pieces left))
or_left_wired free P [] [] one are given = absurd (omega arith)
or_left_wired free P [] (l ∷ []) one are given = (given.0, tt)
or_left_wired free P [] (l ∷ m ∷ left) one are given = absurd (omega arith)
or_left_wired free P (piece ∷ pieces) left one are given = are

or_left_count : (pieces : List Piece) (left : List Literal) → length left ≡ 1
    → (length (pieces_or_left (reduction pieces left)) - 1 ≡ length pieces - 1) × (0 < length (pieces_or_left (reduction pieces left)))
or_left_count [] [] one = absurd (omega arith)
or_left_count [] (l ∷ []) one = (refl, omega arith)
or_left_count [] (l ∷ m ∷ left) one = absurd (omega arith)
or_left_count (piece ∷ pieces) left one = (refl, omega arith)

-- The literal that is left has the value of the last piece.
or_left_value : (v : Wire → Bool) (pieces : List Piece) (left : List Literal) → length left ≡ 1
    → EndsInLast (reduction pieces left) → Obeys v 0 (pieces_or_left (reduction pieces left))
    → v (Made (length (pieces_or_left (reduction pieces left)) - 1)) ≡ some_of v left
or_left_value v [] [] one ends obeys = absurd (omega arith)
or_left_value v [] (l ∷ []) one ends obeys = obeys.0 ∙ sym (or_neutral (literal_value v l))
or_left_value v [] (l ∷ m ∷ left) one ends obeys = absurd (omega arith)
or_left_value v (piece ∷ pieces) left one ends obeys =
    elim ends [
      | inl none ↦ cc
      | inr last ↦ sym (ap (λ ls. some_of v ls) last ∙ or_neutral (v (Made (length (piece ∷ pieces) - 1))))
    ]

or_left_obeys : (v : Wire → Bool) (pieces : List Piece) (left : List Literal)
    → Obeys v 0 (pieces_or_left (reduction pieces left)) → Obeys v 0 pieces
or_left_obeys v [] left obeys = tt
or_left_obeys v (piece ∷ pieces) left obeys = obeys

-- ---- the whole gate

all_one : (row : List Literal) (rows : List (List Literal)) → HaveLiterals (row ∷ rows) → length (all_reduced (row ∷ rows)).left ≡ 1
all_one row rows some =
    let (lefts, counts) = rows_total [] (row ∷ rows) some in
    reduced_one (λ a b. Either a b) (reduced_rows [] (row ∷ rows)) (omega arith)

all_wired : (free : Bool) (P : ℕ → Type 0) (row : List Literal) (rows : List (List Literal)) → HaveLiterals (row ∷ rows)
    → AreRowsOf P (row ∷ rows) → AreWiredBy free P 0 (pieces_or_left (all_reduced (row ∷ rows)))
all_wired free P row rows some given =
    let first : IsWiredReduction free P (reduced_rows [] (row ∷ rows)) = rows_wired free P [] (row ∷ rows) tt given in
    let is : IsWiredReduction free P (all_reduced (row ∷ rows)) = reduced_wired (λ a b. Either a b) either_reads free P (reduced_rows [] (row ∷ rows)) first in
    or_left_wired free P (all_reduced (row ∷ rows)).pieces (all_reduced (row ∷ rows)).left (all_one row rows some) is.pieces is.left

all_count : (row : List Literal) (rows : List (List Literal)) → HaveLiterals (row ∷ rows)
    → (length (pieces_or_left (all_reduced (row ∷ rows))) - 1 ≡ total (row ∷ rows) - 2) × (0 < length (pieces_or_left (all_reduced (row ∷ rows))))
all_count row rows some =
    let (lefts, counts) = rows_total [] (row ∷ rows) some in
    let count : length (all_reduced (row ∷ rows)).pieces + length (all_reduced (row ∷ rows)).left ≡ length (reduced_rows [] (row ∷ rows)).pieces + length (reduced_rows [] (row ∷ rows)).left = reduced_total (λ a b. Either a b) (reduced_rows [] (row ∷ rows)) in
    let one : length (all_reduced (row ∷ rows)).left ≡ 1 = all_one row rows some in
    let (is, some_piece) = or_left_count (all_reduced (row ∷ rows)).pieces (all_reduced (row ∷ rows)).left one in
    (omega arith, some_piece)

all_value : (v : Wire → Bool) (row : List Literal) (rows : List (List Literal)) → HaveLiterals (row ∷ rows)
    → Obeys v 0 (pieces_or_left (all_reduced (row ∷ rows)))
    → v (Made (length (pieces_or_left (all_reduced (row ∷ rows))) - 1)) ≡ list_any (λ r. all_of v r) (row ∷ rows)
all_value v row rows some obeys =
    let one : length (all_reduced (row ∷ rows)).left ≡ 1 = all_one row rows some in
    let pieces : Obeys v 0 (all_reduced (row ∷ rows)).pieces = or_left_obeys v (all_reduced (row ∷ rows)).pieces (all_reduced (row ∷ rows)).left obeys in
    let (more, kept) = reduced_keeps (λ a b. Either a b) (reduced_rows [] (row ∷ rows)) in
    let first : Obeys v 0 (reduced_rows [] (row ∷ rows)).pieces = obeys_first v 0 (reduced_rows [] (row ∷ rows)).pieces more (subst (λ (ps : List Piece). Obeys v 0 ps) kept pieces) in
    or_left_value v (all_reduced (row ∷ rows)).pieces (all_reduced (row ∷ rows)).left one (all_last row rows some) obeys
    ∙ (reduced_value (λ a b. a || b) false (λ a b. Either a b) either_joins v (reduced_rows [] (row ∷ rows)) pieces
    ∙ rows_value v [] (row ∷ rows) some first)

or_true : (a b : Bool) → b ≡ true → (a || b) ≡ true
or_true true b is = refl
or_true false b is = is

-- A row without literals holds.
bare_value : (v : Wire → Bool) (rows : List (List Literal)) → list_any is_empty rows ≡ true → list_any (λ r. all_of v r) rows ≡ true
bare_value v [] some = some
bare_value v ([] ∷ rows) some = refl
bare_value v ((l ∷ ls) ∷ rows) some = or_true (all_of v (l ∷ ls)) (list_any (λ r. all_of v r) rows) (bare_value v rows some)

abbrev pub pieces_by : Bool → List (List Literal) → List Piece
pieces_by bare rows = cond bare (BareRow ∷ []) (pieces_or_left (all_reduced rows))

-- The pieces read the signals of the rows and pieces before themselves. Only without rows there is a piece that has none.
pub pieces_wired : (P : ℕ → Type 0) (rows : List (List Literal)) → AreRowsOf P rows
    → AreWiredBy (is_empty rows) P 0 (pieces_of_rows rows)
pieces_wired P [] given = (refl, tt)
pieces_wired P (row ∷ rows) given = by_bare (list_any is_empty (row ∷ rows)) refl
  where
    by_bare : (bare : Bool) → list_any is_empty (row ∷ rows) ≡ bare → AreWiredBy false P 0 (pieces_by bare (row ∷ rows))
    by_bare true is = (tt, tt)
    by_bare false is = all_wired false P row rows (have_literals (row ∷ rows) is) given

-- How many pieces there are: one less than there are literals, but at least one.
pub pieces_count : (rows : List (List Literal))
    → (length (pieces_of_rows rows) - 1 ≡ cond (list_any is_empty rows) 0 (total rows - 2)) × (0 < length (pieces_of_rows rows))
pieces_count [] = (refl, omega arith)
pieces_count (row ∷ rows) = by_bare (list_any is_empty (row ∷ rows)) refl
  where
    by_bare : (bare : Bool) → list_any is_empty (row ∷ rows) ≡ bare
        → (length (pieces_by bare (row ∷ rows)) - 1 ≡ cond bare 0 (total (row ∷ rows) - 2)) × (0 < length (pieces_by bare (row ∷ rows)))
    by_bare true is = (refl, omega arith)
    by_bare false is = all_count row rows (have_literals (row ∷ rows) is)

-- Where each piece has the value that its wires ask for, the last has the value of the rows.
pub pieces_value : (v : Wire → Bool) (rows : List (List Literal)) → Obeys v 0 (pieces_of_rows rows)
    → v (Made (length (pieces_of_rows rows) - 1)) ≡ list_any (λ r. all_of v r) rows
pieces_value v [] obeys = obeys.0
pieces_value v (row ∷ rows) obeys = by_bare (list_any is_empty (row ∷ rows)) refl obeys
  where
    by_bare : (bare : Bool) → list_any is_empty (row ∷ rows) ≡ bare → Obeys v 0 (pieces_by bare (row ∷ rows))
        → v (Made (length (pieces_by bare (row ∷ rows)) - 1)) ≡ list_any (λ r. all_of v r) (row ∷ rows)
    by_bare true is obeys = obeys.0 ∙ sym (bare_value v (row ∷ rows) is)
    by_bare false is obeys = all_value v row rows (have_literals (row ∷ rows) is) obeys

-- ---- the loop over the rows

rows_push : (pieces : List Piece) (rows : List (List Literal)) (row : List Literal)
    → reduced_rows pieces (rows ++ row ∷ []) ≡ reduction (row_reduced (reduced_rows pieces rows).pieces row).pieces ((reduced_rows pieces rows).left ++ (row_reduced (reduced_rows pieces rows).pieces row).left)
rows_push pieces [] row = ap (λ ls. reduction (row_reduced pieces row).pieces ls) (append-nil (row_reduced pieces row).left)
rows_push pieces (first ∷ rows) row =
    let one : Reduction = row_reduced pieces first in
    let before : Reduction = reduced_rows (row_reduced pieces first).pieces rows in
    let last : Reduction = row_reduced (reduced_rows (row_reduced pieces first).pieces rows).pieces row in
    ap (λ (o : Reduction). reduction o.pieces (one.left ++ o.left)) (rows_push one.pieces rows row)
    ∙ ap (λ ls. reduction last.pieces ls) (sym (append_assoc one.left before.left last.left))

pub next_row : (pins : List ℕ) (rows : List (List Place)) (i : ℕ) (row : List Place) (before pieces pieces' : List Piece) (left left' literals one slice : List Literal)
    → i < length rows → row ≡ get_or rows i row
    → reduction pieces left ≡ reduced_rows before (map (literals_of pins) (take i rows))
    → literals ≡ literals_of pins row → reduction pieces' one ≡ row_reduced pieces literals → slice ≡ one → left' ≡ left ++ slice
    → reduction pieces' left' ≡ reduced_rows before (map (literals_of pins) (take (i + 1) rows))
next_row pins rows i row before pieces pieces' left left' literals one slice within is so_far are made_one same more =
    let earlier : List (List Literal) = map (literals_of pins) (take i rows) in
    let lists : map (literals_of pins) (take (i + 1) rows) ≡ earlier ++ literals_of pins (get_or rows i row) ∷ [] = map_more (literals_of pins) rows i row within in
    let this : literals ≡ literals_of pins (get_or rows i row) = are ∙ ap (λ r. literals_of pins r) is in
    let all : map (literals_of pins) (take (i + 1) rows) ≡ earlier ++ literals ∷ [] = lists ∙ ap (λ ls. earlier ++ ls ∷ []) (sym this) in
    let step : Reduction → Reduction = λ r. reduction (row_reduced r.pieces literals).pieces (r.left ++ (row_reduced r.pieces literals).left) in
    let now : reduction pieces' left' ≡ step (reduction pieces left) =
    ap (λ ls. reduction pieces' ls) (more ∙ ap (λ ls. left ++ ls) same) ∙ ap (λ (r : Reduction). reduction r.pieces (left ++ r.left)) made_one in
    now ∙ (ap step so_far ∙ (sym (rows_push before earlier literals) ∙ ap (λ ls. reduced_rows before ls) (sym all)))
