-- The lines of a text from its front, and the text of rows.
use Rattle.std.proofs.Common.{◌≡◌, ℕ, ◌+◌, ◌<◌, ◌≤◌, Bool, true, false, cond, inl, inr, List, [], ◌∷◌, ◌++◌, map, length, Some, None, Ok, refl, sym, ◌∙◌, ap, arith, eq-eqb, append_assoc, ◌==◌}
use Rattle.std.specs.Prelude.{All}
use Rattle.std.specs.List.{slice_split, before_first, after_first, position_or_len, list_all, cons_option}
use Rattle.std.specs.Option.{option_map}
use Rattle.std.proofs.lemmas.Bool.{cases_lt}
use Rattle.std.proofs.lemmas.List.{take_all, drop_all, length-map}
use Rattle.std.proofs.lemmas.List.Elements.{All-head, All-tail, All-cons}
use Rattle.std.proofs.lemmas.List.Sums.{fails_before_first}
use Rattle.std.proofs.lemmas.List.Splits.{slice_split_none, slice_split_at, slice_split_first, length-slice_split}
use Rattle.tm_sim.specs.declared.vectors.VectorFault.TheVariants.{Text}
use Rattle.tm_sim.specs.declared.vectors.VectorKind.{VectorKind}
use Rattle.tm_sim.specs.declared.vectors.VectorKind.TheVariants.{Byte, Width}
use Rattle.tm_sim.specs.Vectors.{unless_empty, counted, lines_of, is_bit_byte, fault_in, row_of, faults_from, unless_fault, vectors_from, vectors_of, byte_of, line_of, text_of}

-- the test at which a text is cut
abbrev pub is_lf : ℕ → Bool
is_lf b = b == 10

-- ---- lines

-- a piece that others follow counts
counted-cons : (piece : List ℕ) (pieces : List (List ℕ)) → 0 < length pieces → counted (piece ∷ pieces) ≡ piece ∷ counted pieces
counted-cons piece [] some = absurd (omega arith)
counted-cons piece (next ∷ more) some = refl

some_piece : (text : List ℕ) → 0 < length (slice_split is_lf text)
some_piece text = omega (arith, length-slice_split is_lf text)

unless_empty-some : (piece : List ℕ) → 0 < length piece → unless_empty piece ≡ piece ∷ []
unless_empty-some [] some = absurd (omega arith)
unless_empty-some (b ∷ bs) some = refl

-- a text without LF is one line
one_line : (text : List ℕ) → 0 < length text → length text ≤ position_or_len is_lf text
    → lines_of text ≡ before_first is_lf text ∷ lines_of (after_first is_lf text)
one_line text some none =
    let plain : All (λ b. is_lf b ≡ false) text = λ k d inside. fails_before_first is_lf text k d (omega arith) in
    let whole : before_first is_lf text ≡ text = take_all (position_or_len is_lf text) text none in
    let rest : after_first is_lf text ≡ [] = drop_all (position_or_len is_lf text + 1) text (omega arith) in
    ap counted (slice_split_none is_lf text plain) ∙ unless_empty-some text some
    ∙ ap (λ line. line ∷ []) (sym whole) ∙ ap (λ left. before_first is_lf text ∷ lines_of left) (sym rest)

-- a text that is not empty begins with its first line
pub lines-first : (text : List ℕ) → 0 < length text
    → lines_of text ≡ before_first is_lf text ∷ lines_of (after_first is_lf text)
lines-first text some =
    elim (cases_lt (position_or_len is_lf text) (length text)) [
      | inl found ↦
          ap counted (slice_split_first is_lf text 0 found)
          ∙ counted-cons (before_first is_lf text) (slice_split is_lf (after_first is_lf text)) (some_piece (after_first is_lf text))
      | inr none ↦ one_line text some none
    ]

-- ---- faults

pub fault-none : (width : ℕ) (line : List ℕ) → list_all is_bit_byte line ≡ true → length line ≡ width → fault_in width line ≡ None
fault-none width line bits wide =
    ap (λ b. cond b (cond (length line == width) None (Some Width)) (Some Byte)) bits
    ∙ ap (λ b. cond b None (Some Width)) (eq-eqb (length line) width wide)

-- ---- the text of rows

not_lf : (bit : Bool) → is_lf (byte_of bit) ≡ false
not_lf true = refl
not_lf false = refl

lines-line : (row : List Bool) (rest : List ℕ) → lines_of (line_of row ++ rest) ≡ map byte_of row ∷ lines_of rest
lines-line row rest =
    let plain : All (λ b. is_lf b ≡ false) (map byte_of row) = All-bytes row in
    ap lines_of (append_assoc (map byte_of row) (10 ∷ []) rest)
    ∙ ap counted (slice_split_at is_lf (map byte_of row) 10 rest plain refl)
    ∙ counted-cons (map byte_of row) (slice_split is_lf rest) (some_piece rest)
  where
    All-bytes : (bits : List Bool) → All (λ b. is_lf b ≡ false) (map byte_of bits)
    All-bytes [] = λ k d inside. absurd (omega arith)
    All-bytes (bit ∷ bits) = All-cons (λ b. is_lf b ≡ false) (byte_of bit) (map byte_of bits) (not_lf bit) (All-bytes bits)

lines-text : (rows : List (List Bool)) → lines_of (text_of rows) ≡ map (λ row. map byte_of row) rows
lines-text [] = refl
lines-text (row ∷ rows) = lines-line row (text_of rows) ∙ ap (λ lines. map byte_of row ∷ lines) (lines-text rows)

row-again : (row : List Bool) → row_of (map byte_of row) ≡ row
row-again [] = refl
row-again (true ∷ bits) = ap (λ rest. true ∷ rest) (row-again bits)
row-again (false ∷ bits) = ap (λ rest. false ∷ rest) (row-again bits)

rows-again : (rows : List (List Bool)) → map row_of (map (λ row. map byte_of row) rows) ≡ rows
rows-again [] = refl
rows-again (row ∷ rows) =
    ap (λ first. first ∷ map row_of (map (λ row. map byte_of row) rows)) (row-again row) ∙ ap (λ rest. row ∷ rest) (rows-again rows)

bits-bytes : (row : List Bool) → list_all is_bit_byte (map byte_of row) ≡ true
bits-bytes [] = refl
bits-bytes (true ∷ bits) = bits-bytes bits
bits-bytes (false ∷ bits) = bits-bytes bits

faults-none : (width number : ℕ) (rows : List (List Bool)) → All (λ row. length row ≡ width) rows
    → faults_from width number (map (λ row. map byte_of row) rows) ≡ []
faults-none width number [] even = refl
faults-none width number (row ∷ rows) even =
    let wide : length (map byte_of row) ≡ width = length-map row byte_of ∙ All-head (λ row. length row ≡ width) row rows even in
    let rest = faults_from width (number + 1) (map (λ row. map byte_of row) rows) in
    ap (λ o. cons_option (option_map (λ (kind : VectorKind). Text number kind) o) rest) (fault-none width (map byte_of row) (bits-bytes row) wide)
    ∙ faults-none width (number + 1) rows (All-tail (λ row. length row ≡ width) row rows even)

-- what is written reads back as the same rows
pub text-again : (width : ℕ) (rows : List (List Bool)) → All (λ row. length row ≡ width) rows → vectors_of width (text_of rows) ≡ Ok rows
text-again width rows even =
    let lines = map (λ row. map byte_of row) rows in
    ap (vectors_from width 1) (lines-text rows)
    ∙ ap (λ faults. unless_fault faults (map row_of lines)) (faults-none width 1 rows even)
    ∙ ap Ok (rows-again rows)
