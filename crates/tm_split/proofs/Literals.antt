-- The literals of rows: how many, of which signals, and their value.
use Rattle.std.proofs.Common.{◌≡◌, ℕ, zero, suc, ◌+◌, ◌<◌, Bool, true, false, not, ◌&&◌, ◌||◌, cond, eqb, List, [], ◌∷◌, map, length, refl, sym, ◌∙◌, ap, arith}
use Rattle.std.specs.Prelude.{All, sum_by, count_by}
use Rattle.std.specs.List.{list_any}
use Rattle.std.proofs.Math.Dec.{eqb-suc-zero}
use Rattle.std.proofs.lemmas.Bool.{eqb-false, eqb-true}
use Rattle.std.proofs.lemmas.List.{length-map}
use Rattle.std.proofs.lemmas.List.Sums.{sum_by-cons}
use Rattle.std.proofs.lemmas.List.Elements.{All-head, All-tail}
use Rattle.tm_bits.specs.declared.cover.Place.{Place}
use Rattle.tm_bits.specs.declared.cover.Place.TheVariants.{Zero, One, Any}
use Rattle.tm_bits.specs.Rows.{row_agrees}
use Rattle.tm_split.specs.declared.piece.Wire.{Wire}
use Rattle.tm_split.specs.declared.piece.Wire.TheVariants.{Pin}
use Rattle.tm_split.specs.declared.piece.Literal.{Literal}
use Rattle.tm_split.specs.declared.piece.Piece.{Piece}
use Rattle.tm_split.specs.declared.piece.Piece.TheVariants.{BareRow, Alone, Either}
use Rattle.tm_split.specs.Pieces.{literals_of, is_empty, Reduction, reduction, reduced, reduced_rows, pieces_or_left, pieces_of_rows}
use Rattle.tm_split.specs.Counts.{asks, literal_count}
use Rattle.tm_split.proofs.Rounds.{AreLiteralsOf}
use Rattle.tm_split.proofs.Whole.{AreRowsOf, total, all_of, pieces_by, all_reduced}

count_more : (place : Place) (places : List Place) → count_by asks (place ∷ places) ≡ cond (asks place) 1 0 + count_by asks places
count_more place places = sum_by-cons (λ x. cond (asks x) 1 0) place places

-- A row has a literal for each place that asks.
pub length-literals_of : (pins : List ℕ) (places : List Place) → length places ≡ length pins
    → length (literals_of pins places) ≡ literal_count places
length-literals_of [] [] same = refl
length-literals_of [] (place ∷ places) same = absurd (omega arith)
length-literals_of (pin ∷ pins) [] same = absurd (omega arith)
length-literals_of (pin ∷ pins) (Zero ∷ places) same =
    let rest : length (literals_of pins places) ≡ literal_count places = length-literals_of pins places (omega arith) in
    let more : count_by asks (Zero ∷ places) ≡ 1 + count_by asks places = count_more Zero places in
    omega arith
length-literals_of (pin ∷ pins) (One ∷ places) same =
    let rest : length (literals_of pins places) ≡ literal_count places = length-literals_of pins places (omega arith) in
    let more : count_by asks (One ∷ places) ≡ 1 + count_by asks places = count_more One places in
    omega arith
length-literals_of (pin ∷ pins) (Any ∷ places) same =
    let rest : length (literals_of pins places) ≡ literal_count places = length-literals_of pins places (omega arith) in
    let more : count_by asks (Any ∷ places) ≡ 0 + count_by asks places = count_more Any places in
    omega arith

is_empty_count : (ls : List Literal) (n : ℕ) → length ls ≡ n → is_empty ls ≡ eqb n 0
is_empty_count [] zero same = refl
is_empty_count [] (suc n) same = absurd (omega arith)
is_empty_count (l ∷ ls) zero same = absurd (omega arith)
is_empty_count (l ∷ ls) (suc n) same = sym (eqb-suc-zero n)

abbrev pub rows_of_literals : List ℕ → List (List Place) → List (List Literal)
rows_of_literals pins rows = map (literals_of pins) rows

pub bare_rows : (pins : List ℕ) (rows : List (List Place)) → All (λ row. length row ≡ length pins) rows
    → list_any is_empty (rows_of_literals pins rows) ≡ list_any (λ row. eqb (literal_count row) 0) rows
bare_rows pins [] wide = refl
bare_rows pins (row ∷ rows) wide =
    let here : length row ≡ length pins = All-head (λ r. length r ≡ length pins) row rows wide in
    let rest : list_any is_empty (rows_of_literals pins rows) ≡ list_any (λ r. eqb (literal_count r) 0) rows = bare_rows pins rows (All-tail (λ r. length r ≡ length pins) row rows wide) in
    ap (λ b. b || list_any is_empty (rows_of_literals pins rows)) (is_empty_count (literals_of pins row) (literal_count row) (length-literals_of pins row here))
    ∙ ap (λ b. eqb (literal_count row) 0 || b) rest

pub total_rows : (pins : List ℕ) (rows : List (List Place)) → All (λ row. length row ≡ length pins) rows
    → total (rows_of_literals pins rows) ≡ sum_by literal_count rows
total_rows pins [] wide = refl
total_rows pins (row ∷ rows) wide =
    let here : length (literals_of pins row) ≡ literal_count row = length-literals_of pins row (All-head (λ r. length r ≡ length pins) row rows wide) in
    let rest : total (rows_of_literals pins rows) ≡ sum_by literal_count rows = total_rows pins rows (All-tail (λ r. length r ≡ length pins) row rows wide) in
    let more : sum_by literal_count (row ∷ rows) ≡ literal_count row + sum_by literal_count rows = sum_by-cons literal_count row rows in
    omega arith

-- The literals are of the pins.
literals_wired : (P : ℕ → Type 0) (pins : List ℕ) (places : List Place) → All P pins
    → AreLiteralsOf P 0 (literals_of pins places)
literals_wired P [] places below = tt
literals_wired P (pin ∷ pins) [] below = tt
literals_wired P (pin ∷ pins) (Zero ∷ places) below =
    (All-head P pin pins below, literals_wired P pins places (All-tail P pin pins below))
literals_wired P (pin ∷ pins) (One ∷ places) below =
    (All-head P pin pins below, literals_wired P pins places (All-tail P pin pins below))
literals_wired P (pin ∷ pins) (Any ∷ places) below = literals_wired P pins places (All-tail P pin pins below)

pub rows_wired_by : (P : ℕ → Type 0) (pins : List ℕ) (rows : List (List Place)) → All P pins
    → AreRowsOf P (rows_of_literals pins rows)
rows_wired_by P pins [] below = tt
rows_wired_by P pins (row ∷ rows) below = (literals_wired P pins row below, rows_wired_by P pins rows below)

-- A row agrees where all its literals hold.
row_value : (v : Wire → Bool) (pins : List ℕ) (places : List Place)
    → row_agrees places (map (λ p. v (Pin p)) pins) ≡ all_of v (literals_of pins places)
row_value v [] [] = refl
row_value v [] (place ∷ places) = refl
row_value v (pin ∷ pins) [] = refl
row_value v (pin ∷ pins) (Zero ∷ places) = ap (λ b. not (v (Pin pin)) && b) (row_value v pins places)
row_value v (pin ∷ pins) (One ∷ places) = ap (λ b. v (Pin pin) && b) (row_value v pins places)
row_value v (pin ∷ pins) (Any ∷ places) = row_value v pins places

pub rows_agree : (v : Wire → Bool) (pins : List ℕ) (rows : List (List Place))
    → list_any (λ row. row_agrees row (map (λ p. v (Pin p)) pins)) rows ≡ list_any (λ ls. all_of v ls) (rows_of_literals pins rows)
rows_agree v pins [] = refl
rows_agree v pins (row ∷ rows) =
    ap (λ b. b || list_any (λ r. row_agrees r (map (λ p. v (Pin p)) pins)) rows) (row_value v pins row)
    ∙ ap (λ b. all_of v (literals_of pins row) || b) (rows_agree v pins rows)

-- ---- the code's ways to the pieces

pub pieces_bare : (rows : List (List Literal)) → list_any is_empty rows ≡ true → pieces_of_rows rows ≡ BareRow ∷ []
pieces_bare [] bare = cc
pieces_bare (row ∷ rows) bare = ap (λ b. pieces_by b (row ∷ rows)) bare

pieces_full : (rows : List (List Literal)) → 0 < length rows → list_any is_empty rows ≡ false
    → pieces_of_rows rows ≡ pieces_or_left (all_reduced rows)
pieces_full [] some bare = absurd (omega arith)
pieces_full (row ∷ rows) some bare = ap (λ b. pieces_by b (row ∷ rows)) bare

or_left_none : (pieces : List Piece) (left : List Literal) → length pieces ≡ 0 → pieces_or_left (reduction pieces left) ≡ map Alone left
or_left_none [] left none = refl
or_left_none (piece ∷ pieces) left none = absurd (omega arith)

or_left_some : (pieces : List Piece) (left : List Literal) → 0 < length pieces → pieces_or_left (reduction pieces left) ≡ pieces
or_left_some [] left some = absurd (omega arith)
or_left_some (piece ∷ pieces) left some = refl

-- What the code made of the rows.
pub record IsMadeOf (pins : List ℕ) (rows : List (List Place)) (pieces : List Piece) (left : List Literal) : Type 0 where
  pub some : 0 < length rows
  pub wide : All (λ row. length row ≡ length pins) rows
  pub bare : list_any (λ row. eqb (literal_count row) 0) rows ≡ false
  pub reduced : reduction pieces left ≡ all_reduced (rows_of_literals pins rows)

pub made_of : (pins : List ℕ) (rows slice : List (List Place)) (none first pieces : List Piece) (lefts left : List Literal)
    → 0 < length rows → All (λ row. length row ≡ length pins) rows
    → list_any (λ row. eqb (literal_count row) 0) rows ≡ false → slice ≡ rows → none ≡ []
    → reduction first lefts ≡ reduced_rows none (rows_of_literals pins slice)
    → reduction pieces left ≡ reduced (λ a b. Either a b) (reduction first lefts)
    → IsMadeOf pins rows pieces left
made_of pins rows slice none first pieces lefts left some wide bare same empty one all = record {
  some = some;
  wide = wide;
  bare = bare;
  reduced = all ∙ ap (λ (r : Reduction). reduced (λ a b. Either a b) r) (one ∙ (ap (λ ps. reduced_rows ps (rows_of_literals pins slice)) empty ∙ ap (λ rs. reduced_rows [] (rows_of_literals pins rs)) same));
}

made_pieces : (pins : List ℕ) (rows : List (List Place)) (pieces : List Piece) (left : List Literal) → IsMadeOf pins rows pieces left
    → pieces_or_left (reduction pieces left) ≡ pieces_of_rows (rows_of_literals pins rows)
made_pieces pins rows pieces left is =
    let some : 0 < length (rows_of_literals pins rows) = omega (arith, is.some, length-map rows (literals_of pins)) in
    ap (λ (r : Reduction). pieces_or_left r) is.reduced ∙ sym (pieces_full (rows_of_literals pins rows) some (bare_rows pins rows is.wide ∙ is.bare))

pub made_none : (pins : List ℕ) (rows : List (List Place)) (pieces result : List Piece) (left slice : List Literal)
    → IsMadeOf pins rows pieces left → length pieces ≡ 0 → slice ≡ left → result ≡ map Alone slice
    → result ≡ pieces_of_rows (rows_of_literals pins rows)
made_none pins rows pieces result left slice is none same alone =
    alone ∙ (ap (λ ls. map Alone ls) same ∙ (sym (or_left_none pieces left none) ∙ made_pieces pins rows pieces left is))

pub made_some : (pins : List ℕ) (rows : List (List Place)) (pieces : List Piece) (left : List Literal)
    → IsMadeOf pins rows pieces left → 0 < length pieces → pieces ≡ pieces_of_rows (rows_of_literals pins rows)
made_some pins rows pieces left is some = sym (or_left_some pieces left some) ∙ made_pieces pins rows pieces left is

pub made_bare : (pins : List ℕ) (rows : List (List Place)) → All (λ row. length row ≡ length pins) rows
    → list_any (λ row. eqb (literal_count row) 0) rows ≡ true → pieces_of_rows (rows_of_literals pins rows) ≡ BareRow ∷ []
made_bare pins rows wide bare = pieces_bare (rows_of_literals pins rows) (bare_rows pins rows wide ∙ bare)

-- ---- tests

pub some_by_test : {X : Type 0} (xs ys : List X) (test : Bool) → test ≡ eqb (length xs) 0 → test ≡ false → xs ≡ ys → 0 < length ys
some_by_test {X} xs ys test is fails same =
    let differ : length xs ≡ 0 → ⊥ = eqb-false (length xs) 0 (sym is ∙ fails) in
    let count : length xs ≡ length ys = ap (λ (zs : List X). length zs) same in
    omega arith

pub some_by_count : (n : ℕ) (test : Bool) → test ≡ eqb n 0 → test ≡ false → 0 < n
some_by_count n test is fails =
    let differ : n ≡ 0 → ⊥ = eqb-false n 0 (sym is ∙ fails) in
    omega arith

pub none_by_count : (n : ℕ) (test : Bool) → test ≡ eqb n 0 → test ≡ true → n ≡ 0
none_by_count n test is passes = eqb-true n 0 (sym is ∙ passes)
