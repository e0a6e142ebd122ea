-- A text of which some lines are read.
use Rattle.std.proofs.Common.{◌≡◌, ℕ, ◌+◌, ◌*◌, ◌<◌, ◌≤◌, Bool, true, false, cond, List, [], ◌∷◌, ◌++◌, map, length, Option, Some, None, Result, Ok, Err, ◌==◌, refl, sym, ◌∙◌, ap, arith, append_assoc}
use Rattle.std.specs.List.{before_first, after_first, position_or_len, cons_option, list_all}
use Rattle.std.specs.Option.{option_map}
use Rattle.std.proofs.lemmas.Bool.{eqb-true}
use Rattle.std.proofs.lemmas.List.{append-nil, length-map, length-drop, length-append}
use Rattle.tm_sim.specs.declared.vectors.VectorFault.{VectorFault}
use Rattle.tm_sim.specs.declared.vectors.VectorFault.TheVariants.{Text}
use Rattle.tm_sim.specs.declared.vectors.VectorKind.{VectorKind}
use Rattle.tm_sim.specs.declared.vectors.VectorKind.TheVariants.{Byte, Width}
use Rattle.tm_sim.specs.Grid.{rows_at}
use Rattle.tm_sim.specs.Vectors.{lines_of, is_bit_byte, fault_in, row_of, faults_from, unless_fault, vectors_from, vectors_of}
use Rattle.tm_sim.proofs.RowLemmas.{rows-more}
use Rattle.tm_sim.proofs.LineLemmas.{is_lf, lines-first}

-- Rows before those of an answer.
abbrev pub onto : List (List Bool) → Result (List (List Bool)) VectorFault → Result (List (List Bool)) VectorFault
onto rows (Ok more) = Ok (rows ++ more)
onto rows (Err fault) = Err fault

onto-nil : (answer : Result (List (List Bool)) VectorFault) → onto [] answer ≡ answer
onto-nil (Ok more) = refl
onto-nil (Err fault) = refl

onto-onto : (rows : List (List Bool)) (row : List Bool) (answer : Result (List (List Bool)) VectorFault)
    → onto rows (onto (row ∷ []) answer) ≡ onto (rows ++ row ∷ []) answer
onto-onto rows row (Ok more) = ap Ok (sym (append_assoc rows (row ∷ []) more))
onto-onto rows row (Err fault) = refl

unless_fault-cons : (faults : List VectorFault) (row : List Bool) (rows : List (List Bool))
    → unless_fault faults (row ∷ rows) ≡ onto (row ∷ []) (unless_fault faults rows)
unless_fault-cons [] row rows = refl
unless_fault-cons (first ∷ others) row rows = refl

-- the faults of a line and of those after it
abbrev faults_with : ℕ → ℕ → List (List ℕ) → Option VectorKind → List VectorFault
faults_with width number lines found =
    cons_option (option_map (λ (kind : VectorKind). Text number kind) found) (faults_from width (number + 1) lines)

-- a lawful line is a row
vectors-more : (width number : ℕ) (line : List ℕ) (lines : List (List ℕ)) → fault_in width line ≡ None
    → vectors_from width number (line ∷ lines) ≡ onto (row_of line ∷ []) (vectors_from width (number + 1) lines)
vectors-more width number line lines lawful =
    ap (λ found. unless_fault (faults_with width number lines found) (row_of line ∷ map row_of lines)) lawful
    ∙ unless_fault-cons (faults_from width (number + 1) lines) (row_of line) (map row_of lines)

-- a line with a fault is the first such line
vectors-fault : (width number : ℕ) (line : List ℕ) (lines : List (List ℕ)) (kind : VectorKind) → fault_in width line ≡ Some kind
    → vectors_from width number (line ∷ lines) ≡ Err (Text number kind)
vectors-fault width number line lines kind found =
    ap (λ found. unless_fault (faults_with width number lines found) (row_of line ∷ map row_of lines)) found

-- a lawful line has the width
tested_width : (bits same : Bool) (n width : ℕ) → (same ≡ true → n ≡ width)
    → cond bits (cond same None (Some Width)) (Some Byte) ≡ None → n ≡ width
tested_width true true n width means lawful = means refl
tested_width true false n width means lawful = cc
tested_width false same n width means lawful = cc

pub lawful-width : (width : ℕ) (line : List ℕ) → fault_in width line ≡ None → length line ≡ width
lawful-width width line lawful =
    tested_width (list_all is_bit_byte line) (length line == width) (length line) width (eqb-true (length line) width) lawful

-- The bits so far are the rows of the lines so far, and the rest of the text decides.
pub record IsReading (width : ℕ) (text : List ℕ) (bits : List Bool) (steps : ℕ) (rest : List ℕ) : Type 0 where
  pub sized : length bits ≡ width * steps
  pub answer : vectors_of width text ≡ onto (rows_at width steps bits) (vectors_from width (steps + 1) (lines_of rest))
  pub shorter : steps + length rest ≤ length text

pub reading-start : (width : ℕ) (text : List ℕ) → IsReading width text [] 0 text
reading-start width text = record {
  sized = omega arith;
  answer = sym (onto-nil (vectors_from width 1 (lines_of text)));
  shorter = omega arith;
}

-- what the first line of the rest decides
first_decides : (width : ℕ) (text : List ℕ) (bits : List Bool) (steps : ℕ) (rest : List ℕ) → IsReading width text bits steps rest
    → 0 < length rest
    → vectors_of width text ≡ onto (rows_at width steps bits) (vectors_from width (steps + 1) (before_first is_lf rest ∷ lines_of (after_first is_lf rest)))
first_decides width text bits steps rest reading some =
    reading.answer ∙ ap (λ lines. onto (rows_at width steps bits) (vectors_from width (steps + 1) lines)) (lines-first rest some)

pub reading-fault : (width : ℕ) (text : List ℕ) (bits : List Bool) (steps : ℕ) (rest : List ℕ) (kind : VectorKind)
    → IsReading width text bits steps rest → 0 < length rest → fault_in width (before_first is_lf rest) ≡ Some kind
    → vectors_of width text ≡ Err (Text (steps + 1) kind)
reading-fault width text bits steps rest kind reading some found =
    first_decides width text bits steps rest reading some
    ∙ ap (onto (rows_at width steps bits)) (vectors-fault width (steps + 1) (before_first is_lf rest) (lines_of (after_first is_lf rest)) kind found)

pub reading-more : (width : ℕ) (text : List ℕ) (bits : List Bool) (steps : ℕ) (rest : List ℕ) → IsReading width text bits steps rest
    → 0 < length rest → fault_in width (before_first is_lf rest) ≡ None
    → IsReading width text (bits ++ row_of (before_first is_lf rest)) (steps + 1) (after_first is_lf rest)
reading-more width text bits steps rest reading some lawful =
    let line = before_first is_lf rest in
    let later = vectors_from width (steps + 1 + 1) (lines_of (after_first is_lf rest)) in
    let row_wide : length (row_of line) ≡ width = length-map line (λ b. b == 49) ∙ lawful-width width line lawful in
    record {
      sized = omega (arith, reading.sized, length-append bits (row_of line), row_wide);
      answer = first_decides width text bits steps rest reading some
          ∙ ap (onto (rows_at width steps bits)) (vectors-more width (steps + 1) line (lines_of (after_first is_lf rest)) lawful)
          ∙ onto-onto (rows_at width steps bits) (row_of line) later
          ∙ ap (λ rows. onto rows later) (sym (rows-more width steps bits (row_of line) reading.sized row_wide));
      shorter = omega (arith, reading.shorter, length-drop (position_or_len is_lf rest + 1) rest);
    }

pub reading-end : (width : ℕ) (text : List ℕ) (bits : List Bool) (steps : ℕ) (rest : List ℕ) → IsReading width text bits steps rest
    → rest ≡ [] → vectors_of width text ≡ Ok (rows_at width steps bits)
reading-end width text bits steps rest reading none =
    reading.answer ∙ ap (λ left. onto (rows_at width steps bits) (vectors_from width (steps + 1) (lines_of left))) none
    ∙ ap Ok (append-nil (rows_at width steps bits))
