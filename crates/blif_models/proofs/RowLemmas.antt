-- Rows read one by one, against all rows of a gate.
use Rattle.std.proofs.Common.{◌≡◌, ℕ, ◌+◌, ◌-◌, ◌<◌, ◌≤◌, ◌==◌, suc, zero, Bool, true, false, not, ◌&&◌, List, [], ◌∷◌, ◌++◌, None, Some, length, map, drop, slice_range, refl, sym, ◌∙◌, ap, arith, add-one, append_assoc, All, bytes_eq, codes}
use mathlib.Core.Bool.{beq}
use Rattle.std.specs.List.{list_all}
use Rattle.std.specs.Option.{option_or}
use Rattle.std.proofs.Math.Seq.{drop-cons}
use Rattle.std.proofs.lemmas.List.{length-map, append-nil}
use Rattle.std.proofs.lemmas.Bool.{eqb-true}
use Rattle.std.proofs.lemmas.List.Elements.{All-append}
use Rattle.std.specs.Borrow.{Bor}
use Rattle.tm_bits.specs.Rows.{IsEven}
use Rattle.tm_bits.specs.declared.cover.Place.{Place}
use Rattle.tm_bits.proofs.Evenness.{even_from_width}
use Rattle.blif_lex.specs.Words.{Line}
use Rattle.blif_lex.specs.Spans.{nth_line}
use Rattle.blif_unit.specs.declared.fault.BlifKind.TheVariants.{BadRow, MixedRows}
use Rattle.blif_models.specs.Words.{texts}
use Rattle.blif_models.proofs.WordLemmas.{length_texts}
use Rattle.blif_models.specs.Statement.{is_row_of, is_bit, is_place, is_on, places_of, place_of, output_of, last_of, word_at, differs, fault_in_row, fault_in_rows, at_line, cover_of}

-- a stretch of lines begins with its first line
pub range-step : (lines : List Line) (i e : ℕ) → i < e → e ≤ length lines → slice_range lines i e ≡ nth_line lines i ∷ slice_range lines (i + 1) e
range-step lines i e lt le =
    let k : e - i ≡ suc (e - (i + 1)) = omega arith in
    let inside : i < length lines = omega arith in
    let d : drop i lines ≡ nth_line lines i ∷ drop (i + 1) lines = rw add-one (drop-cons lines i _ inside) in
    rw (k, d) refl

pub range-end : (lines : List Line) (e : ℕ) → slice_range lines e e ≡ []
range-end lines e = let k : e - e ≡ 0 = omega arith in rw k refl

pub and_left : (a b : Bool) → a && b ≡ true → a ≡ true
and_left true b h = refl
and_left false b h = h

pub and_right : (a b : Bool) → a && b ≡ true → b ≡ true
and_right true b h = h
and_right false b h = cc

pub all_one : {X : Type 0} (P : X → Type 0) (x : X) → P x → All P (x ∷ [])
all_one P x h zero d inside = h
all_one P x h (suc k) d inside = absurd (omega arith)

-- A cover without rows is on.
pub on_empty : (lines : List Line) → map (λ row. places_of row.words) lines ≡ [] → is_on lines ≡ true
on_empty [] e = refl
on_empty (row ∷ rows) e = cc

-- the length of a row's places
pub places-width : (pins : ℕ) (row : List (List ℕ)) → is_row_of pins row ≡ true → length (places_of row) ≡ pins
places-width pins row h = by_pins (pins == 0) refl
  where
    by_pins : (t : Bool) → (pins == 0) ≡ t → length (places_of row) ≡ pins
    by_pins true z =
        let found : (length row == 1) && is_bit (last_of row) ≡ true = rw z at h in
        let one : (length row == 1) ≡ true = and_left _ _ found in
        rw one (sym (eqb-true pins 0 z))
    by_pins false z =
        let found : ((length row == 2) && (length (word_at row 0) == pins)) && list_all is_place (word_at row 0) && is_bit (last_of row) ≡ true = rw z at h in
        let both : (length row == 2) && (length (word_at row 0) == pins) ≡ true = and_left _ _ (and_left _ _ found) in
        let two : length row ≡ 2 = eqb-true (length row) 2 (and_left _ _ both) in
        let wide : length (word_at row 0) ≡ pins = eqb-true _ _ (and_right _ _ both) in
        rw two (length-map (word_at row 0) place_of ∙ wide)

-- Rows read up to a line: none was at fault, and their places are kept.
pub record IsReading (pins : ℕ) (on : Bool) (lines : List Line) (start line end : ℕ) (rows : List (List Place)) : Type 0 where
  pub rest : fault_in_rows pins on (slice_range lines start end) ≡ fault_in_rows pins on (slice_range lines line end)
  pub kept : map (λ row. places_of row.words) (slice_range lines start end) ≡ rows ++ map (λ row. places_of row.words) (slice_range lines line end)
  pub even : All (λ row. length row ≡ pins) rows

pub begun : (pins : ℕ) (on : Bool) (lines : List Line) (start end : ℕ) → IsReading pins on lines start start end []
begun pins on lines start end = record { rest = refl; kept = refl; even = λ k d lt. absurd (omega arith) }

pub rows-cons : (pins : ℕ) (on : Bool) (row : Line) (rows : List Line)
    → fault_in_rows pins on (row ∷ rows) ≡ option_or (at_line row (fault_in_row pins on row.words)) (fault_in_rows pins on rows)
unfolding fault_in_rows
rows-cons pins on row rows = refl

pub bad_row : (pins : ℕ) (on : Bool) (lines : List Line) (start line end : ℕ) (rows : List (List Place))
    → IsReading pins on lines start line end rows → line < end → end ≤ length lines
    → is_row_of pins (nth_line lines line).words ≡ false
    → fault_in_rows pins on (slice_range lines start end) ≡ Some ((nth_line lines line).number, BadRow)
bad_row pins on lines start line end rows r lt le bad =
    r.rest ∙ ap (fault_in_rows pins on) (range-step lines line end lt le)
    ∙ rows-cons pins on (nth_line lines line) (slice_range lines (line + 1) end) ∙ rw bad refl

pub mixed_row : (pins : ℕ) (on : Bool) (lines : List Line) (start line end : ℕ) (rows : List (List Place))
    → IsReading pins on lines start line end rows → line < end → end ≤ length lines
    → is_row_of pins (nth_line lines line).words ≡ true → differs on (output_of (nth_line lines line).words) ≡ true
    → fault_in_rows pins on (slice_range lines start end) ≡ Some ((nth_line lines line).number, MixedRows)
mixed_row pins on lines start line end rows r lt le good mixed =
    r.rest ∙ ap (fault_in_rows pins on) (range-step lines line end lt le)
    ∙ rows-cons pins on (nth_line lines line) (slice_range lines (line + 1) end) ∙ rw (good, mixed) refl

pub read_row : (pins : ℕ) (on : Bool) (lines : List Line) (start line end : ℕ) (rows : List (List Place))
    → IsReading pins on lines start line end rows → line < end → end ≤ length lines
    → is_row_of pins (nth_line lines line).words ≡ true → differs on (output_of (nth_line lines line).words) ≡ false
    → IsReading pins on lines start (line + 1) end (rows ++ places_of (nth_line lines line).words ∷ [])
read_row pins on lines start line end rows r lt le good same =
    let row = nth_line lines line in
    let places = λ (l : Line). places_of l.words in
    record {
      rest = r.rest ∙ ap (fault_in_rows pins on) (range-step lines line end lt le)
          ∙ rows-cons pins on row (slice_range lines (line + 1) end) ∙ rw (good, same) refl;
      kept = r.kept ∙ ap (λ ls. rows ++ map places ls) (range-step lines line end lt le)
          ∙ sym (append_assoc rows (places row ∷ []) (map places (slice_range lines (line + 1) end)));
      even = All-append (λ p. length p ≡ pins) rows (places row ∷ []) r.even (all_one (λ p. length p ≡ pins) (places row) (places-width pins row.words good));
    }

pub all_read : (pins : ℕ) (on : Bool) (lines : List Line) (start end : ℕ) (rows : List (List Place))
    → IsReading pins on lines start end end rows → fault_in_rows pins on (slice_range lines start end) ≡ None
unfolding fault_in_rows
all_read pins on lines start end rows r = r.rest ∙ ap (fault_in_rows pins on) (range-end lines end)

pub rows_read : (pins : ℕ) (on : Bool) (lines : List Line) (start end : ℕ) (rows : List (List Place))
    → IsReading pins on lines start end end rows → rows ≡ (cover_of (slice_range lines start end)).rows
rows_read pins on lines start end rows r =
    sym (r.kept ∙ ap (λ ls. rows ++ map (λ l. places_of l.words) ls) (range-end lines end) ∙ append-nil rows)

-- The rows of a gate make a cover.
pub even_read : (pins : ℕ) (lines : List Line) (start end : ℕ) (rows : List (List Place)) → start ≤ end → end ≤ length lines
    → IsReading pins (is_on (slice_range lines start end)) lines start end end rows
    → IsEven (record { on = is_on (slice_range lines start end); rows = rows })
even_read pins lines start end rows le inside r = record {
  lengths = even_from_width rows pins r.even;
  off_has_row = λ off none.
      let on : is_on (slice_range lines start end) ≡ true = on_empty _ (sym (rows_read pins _ lines start end rows r) ∙ none) in cc;
}

-- the output of the first row, by its words
pub first_on : (lines : List Line) (start end : ℕ) (ws : List (Bor (List ℕ))) → start < end → end ≤ length lines
    → texts ws ≡ (nth_line lines start).words
    → bytes_eq (word_at (texts ws) (length ws - 1)) (codes "1") ≡ is_on (slice_range lines start end)
first_on lines start end ws lt le h = rw (range-step lines start end lt le, ← h, length_texts ws) refl

pub differs-beq : (a b : Bool) → not (beq a b) ≡ differs a b
differs-beq true true = refl
differs-beq true false = refl
differs-beq false true = refl
differs-beq false false = refl
