-- A text of short lines, read with any limit on names that is no less, and its length.
use Rattle.std.proofs.Common.{◌≡◌, ◌≢◌, ℕ, suc, ◌+◌, ◌-◌, ◌*◌, ◌≤◌, Bool, true, false, cond, eqb, ltb, List, [], ◌∷◌, ◌++◌, length, get_or, map, Option, None, Some, refl, ap, ◌∙◌, arith, All, IsOkAnd, ⊎_elim}
use Rattle.std.specs.Prelude.{nat_lt}
use Rattle.std.specs.List.{flat_map, filter_map, list_any, slice_split, onto_first, before_first, position_or_len, suffix_len}
use Rattle.std.specs.Option.{option_map}
use Rattle.std.proofs.lemmas.Bool.{cases_Bool, le-ltb, ne_eqb}
use Rattle.std.proofs.lemmas.List.{length-take, length-append, append_assoc}
use Rattle.std.proofs.lemmas.List.Elements.{All-cons, All-nil, All-head, All-tail, All-take, All-filter, All-map, All-weaker, All-get_or}
use Rattle.tm_circuit.specs.Plain.{Plain}
use Rattle.blif_lex.specs.Words.{Line, Logical, physical_lines, content_of, is_trailing, goes_on, logical_lines, is_blank, words_in, line_of, is_kept, lines_of, has_bad_byte, fault_in, faults_of, unless_fault, words_of}
use Rattle.blif_lex.specs.declared.fault.LexFault.{LexFault}
use Rattle.blif_lex.specs.declared.fault.LexFault.TheVariants.{Text}
use Rattle.blif_lex.specs.declared.fault.LexKind.{LexKind}
use Rattle.blif_lex.specs.declared.fault.LexKind.TheVariants.{BadByte, LongName}
use Rattle.blif_read.specs.declared.TheConstants.{SOURCE, MAPPED}
use Rattle.blif_read.specs.Text.{IsCircuitOf, IsCircuitOfLines}
use Rattle.blif_write.specs.Text.{further_word, line_text, lines_text}

-- ---- short lines of words

-- The bytes of a line of words without its LF.
abbrev pub line_bytes : List (List ℕ) → List ℕ
line_bytes [] = []
line_bytes (word ∷ words) = word ++ flat_map further_word words

-- No LF and no `\` stands in the line.
abbrev pub IsLineByte : ℕ → Type 0
IsLineByte b = (b ≢ 10) × (b ≢ 92)

pub record IsShort (line : List (List ℕ)) : Type 0 where
  pub bytes : All IsLineByte (line_bytes line)
  pub short : length (line_bytes line) ≤ 255

line_is : (line : List (List ℕ)) → line_text line ≡ line_bytes line ++ 10 ∷ []
line_is [] = refl
line_is (word ∷ words) = refl

-- ---- the length of a text

pub short_text : (lines : List (List (List ℕ))) → All IsShort lines → length (lines_text lines) ≤ 256 * length lines
short_text [] all = omega arith
short_text (line ∷ lines) all =
    let rest = short_text lines (All-tail IsShort line lines all) in
    let here = (All-head IsShort line lines all).short in
    let one : length (line_text line) ≡ length (line_bytes line) + 1 = ap length (line_is line) ∙ length-append (line_bytes line) (10 ∷ []) in
    let both = length-append (line_text line) (lines_text lines) in
    omega arith

-- ---- physical lines

physical_at : (bytes rest : List ℕ) → All IsLineByte bytes → physical_lines (bytes ++ 10 ∷ rest) ≡ bytes ∷ physical_lines rest
physical_at [] rest all = refl
physical_at (b ∷ bytes) rest all =
    let here : eqb b 10 ≡ false = ne_eqb b 10 ((All-head IsLineByte b bytes all).0) in
    rw (here, physical_at bytes rest (All-tail IsLineByte b bytes all)) refl

pub record IsShortBytes (bytes : List ℕ) : Type 0 where
  pub lawful : All IsLineByte bytes
  pub short : length bytes ≤ 255

physical_short : (lines : List (List (List ℕ))) → All IsShort lines → All IsShortBytes (physical_lines (lines_text lines))
physical_short [] all = All-nil IsShortBytes
physical_short (line ∷ lines) all =
    let here = All-head IsShort line lines all in
    let split : line_text line ++ lines_text lines ≡ line_bytes line ++ 10 ∷ lines_text lines
    = ap (λ l. l ++ lines_text lines) (line_is line) ∙ append_assoc (line_bytes line) (10 ∷ []) (lines_text lines) in
    let cut : physical_lines (line_text line ++ lines_text lines) ≡ line_bytes line ∷ physical_lines (lines_text lines)
    = ap physical_lines split ∙ physical_at (line_bytes line) (lines_text lines) here.bytes in
    rw cut
    (All-cons IsShortBytes (line_bytes line) (physical_lines (lines_text lines)) (record { lawful = here.bytes; short = here.short })
    (physical_short lines (All-tail IsShort line lines all)))

-- ---- contents and logical lines

content_short : (line : List ℕ) → IsShortBytes line → IsShortBytes (content_of line)
unfolding content_of
content_short line short =
    let front = before_first (λ b. eqb b 35) line in
    let kept = length front - suffix_len is_trailing front in
    record {
      lawful = All-take IsLineByte kept front (All-take IsLineByte (position_or_len (λ b. eqb b 35) line) line short.lawful);
      short =
          let all = short.short in
          let one = length-take (position_or_len (λ b. eqb b 35) line) line in
          let two = length-take kept front in
          omega arith;
    }

stops : (content : List ℕ) → IsShortBytes content → goes_on content ≡ false
stops [] short = refl
stops (b ∷ content) short =
    let last = length (b ∷ content) - 1 in
    let at = All-get_or IsLineByte (b ∷ content) last 0 (omega arith) short.lawful in
    ne_eqb (get_or (b ∷ content) last 0) 92 at.1

abbrev IsShortLogical : Logical → Type 0
IsShortLogical l = length l.bytes ≤ 255

logical_short : (number : ℕ) (contents : List (List ℕ)) → All IsShortBytes contents → All IsShortLogical (logical_lines number contents)
logical_short number [] all = All-nil IsShortLogical
logical_short number (c ∷ contents) all =
    let here = All-head IsShortBytes c contents all in
    rw (stops c here)
    (All-cons IsShortLogical (record { number = number; bytes = c }) (logical_lines (number + 1) contents) here.short
    (logical_short (number + 1) contents (All-tail IsShortBytes c contents all)))

-- ---- words

abbrev IsShortWord : List ℕ → Type 0
IsShortWord word = length word ≤ 255

abbrev AreWithin : ℕ → List (List ℕ) → Type 0
AreWithin most parts = All (λ part. length part ≤ most) parts

onto_first_short : (most b : ℕ) (parts : List (List ℕ)) → AreWithin most parts → AreWithin (suc most) (onto_first b parts)
onto_first_short most b [] all = All-cons (λ part. length part ≤ suc most) (b ∷ []) [] (omega arith) (All-nil (λ part. length part ≤ suc most))
onto_first_short most b (part ∷ parts) all =
    let here = All-head (λ part. length part ≤ most) part parts all in
    All-cons (λ part. length part ≤ suc most) (b ∷ part) parts (omega arith)
    (All-weaker (λ part. length part ≤ most) (λ part. length part ≤ suc most) (λ part within. omega arith) parts
    (All-tail (λ part. length part ≤ most) part parts all))

split_short : (p : ℕ → Bool) (bytes : List ℕ) → AreWithin (length bytes) (slice_split p bytes)
split_short p [] = All-cons (λ part. length part ≤ 0) [] [] (omega arith) (All-nil (λ part. length part ≤ 0))
split_short p (b ∷ bytes) =
    let rest = split_short p bytes in
    ⊎_elim
    (λ (cuts : p b ≡ true).
    rw cuts
    (All-cons (λ part. length part ≤ suc (length bytes)) [] (slice_split p bytes) (omega arith)
    (All-weaker (λ part. length part ≤ length bytes) (λ part. length part ≤ suc (length bytes)) (λ part within. omega arith) (slice_split p bytes) rest)))
    (λ (stays : p b ≡ false). rw stays (onto_first_short (length bytes) b (slice_split p bytes) rest))
    (cases_Bool (p b))

abbrev IsShortLine : Line → Type 0
IsShortLine l = All IsShortWord l.words

words_short : (bytes : List ℕ) → length bytes ≤ 255 → All IsShortWord (words_in bytes)
words_short bytes short =
    All-filter (λ w. nat_lt 0 (length w)) IsShortWord (slice_split is_blank bytes)
    (All-weaker (λ part. length part ≤ length bytes) IsShortWord (λ part within. omega arith) (slice_split is_blank bytes) (split_short is_blank bytes))

lines_short : (lines : List (List (List ℕ))) → All IsShort lines → All IsShortLine (lines_of (lines_text lines))
unfolding lines_of
lines_short lines all =
    let physical = physical_lines (lines_text lines) in
    let contents = map content_of physical in
    All-filter (λ l. is_kept l.words) IsShortLine (map line_of (logical_lines 1 contents))
    (All-map IsShortLine line_of (logical_lines 1 contents)
    (All-weaker IsShortLogical (λ l. IsShortLine (line_of l)) (λ l short. words_short l.bytes short) (logical_lines 1 contents)
    (logical_short 1 contents
    (All-map IsShortBytes content_of physical
    (All-weaker IsShortBytes (λ line. IsShortBytes (content_of line)) content_short physical (physical_short lines all))))))

-- ---- faults

no_long_word : (words : List (List ℕ)) → All IsShortWord words → list_any (λ n. nat_lt 255 (length n)) words ≡ false
no_long_word [] all = refl
no_long_word (word ∷ words) all =
    let here : ltb 255 (length word) ≡ false = le-ltb 255 (length word) (All-head IsShortWord word words all) in
    rw here (no_long_word words (All-tail IsShortWord word words all))

-- A line of short words without a fault has none with the lesser limit.
no_fault_in : (words : List (List ℕ)) → All IsShortWord words → fault_in 1023 false words ≡ None → fault_in 255 false words ≡ None
unfolding fault_in
no_fault_in words all none = by_byte (list_any has_bad_byte words) refl
  where
    short : list_any (λ n. nat_lt 255 (length n)) words ≡ false
    short = no_long_word words all

    by_byte : (bad : Bool) → list_any has_bad_byte words ≡ bad
        → cond (list_any has_bad_byte words) (Some BadByte) (cond (list_any (λ n. nat_lt 255 (length n)) words) (Some LongName) None) ≡ None
    by_byte false e = rw (e, short) refl
    by_byte true e =
        let found : Some BadByte ≡ None = rw e at none in cc

none_from_map : (f : LexKind → LexFault) (fault : Option LexKind) → option_map f fault ≡ None → fault ≡ None
none_from_map f None e = refl
none_from_map f (Some kind) e = cc

filter_map_front : (f : Line → Option LexFault) (l : Line) (lines : List Line) → filter_map f (l ∷ lines) ≡ [] → (f l ≡ None) × (filter_map f lines ≡ [])
filter_map_front f l lines none = by_value (f l) refl
  where
    by_value : (o : Option LexFault) → f l ≡ o → (f l ≡ None) × (filter_map f lines ≡ [])
    by_value None e = (e, rw e at none)
    by_value (Some fault) e = absurd (let more : fault ∷ filter_map f lines ≡ [] = rw e at none in let never : ⊥ = cc in never)

no_faults : (lines : List Line) → All IsShortLine lines → faults_of 1023 false lines ≡ [] → faults_of 255 false lines ≡ []
no_faults [] all none = refl
no_faults (l ∷ lines) all none =
    let parts = filter_map_front (λ l. option_map (λ kind. Text l.number kind) (fault_in 1023 false l.words)) l lines none in
    let before = none_from_map (λ kind. Text l.number kind) (fault_in 1023 false l.words) parts.0 in
    let here : fault_in 255 false l.words ≡ None = no_fault_in l.words (All-head IsShortLine l lines all) before in
    rw here (no_faults lines (All-tail IsShortLine l lines all) parts.1)

-- ---- the circuit

circuit_within : (lines : List Line) (c : Plain) → length c.names ≤ 100000 → IsCircuitOfLines MAPPED lines c → IsCircuitOfLines SOURCE lines c
circuit_within lines c few is =
    let low : ltb 100000 (length c.names) ≡ false = le-ltb 100000 (length c.names) few in
    let high : ltb 900000 (length c.names) ≡ false = le-ltb 900000 (length c.names) (omega arith) in
    record {
      lawful = is.lawful;
      circuit = record {
        lawful = rw (← is.circuit.spelled.names, low) (rw (← is.circuit.spelled.names, high) at is.circuit.lawful);
        spelled = is.circuit.spelled;
        open_ended = is.circuit.open_ended;
      };
    }

-- A circuit of a text of short lines, read with the limits that no circuit exceeds, is that read with the limits on a text that is
-- mapped, where it has few signals.
pub source_from_mapped : (lines : List (List (List ℕ))) (c : Plain) → All IsShort lines → length c.names ≤ 100000
    → IsCircuitOf MAPPED (lines_text lines) c → IsCircuitOf SOURCE (lines_text lines) c
unfolding words_of
source_from_mapped lines c all few is = by_faults (faults_of 1023 false (lines_of (lines_text lines))) refl is
  where
    by_faults : (faults : List LexFault) → faults_of 1023 false (lines_of (lines_text lines)) ≡ faults
        → IsOkAnd (unless_fault faults (lines_of (lines_text lines))) (λ lines. IsCircuitOfLines MAPPED lines c)
        → IsOkAnd (words_of 255 false (lines_text lines)) (λ lines. IsCircuitOfLines SOURCE lines c)
    by_faults [] e found =
        let none = no_faults (lines_of (lines_text lines)) (lines_short lines all) e in
        rw none (circuit_within (lines_of (lines_text lines)) c few found)
    by_faults (fault ∷ faults) e found = absurd found
