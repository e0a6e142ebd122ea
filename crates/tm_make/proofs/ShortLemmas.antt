-- The lines of the sample text are short and few.
use Rattle.std.proofs.Common.{◌≡◌, ℕ, zero, suc, ◌+◌, ◌-◌, ◌*◌, ◌%◌, ◌<◌, ◌≤◌, true, not, ◌&&◌, eqb, List, [], ◌∷◌, ◌++◌, length, map, refl, arith, All}
use Rattle.std.specs.Prelude.{codes}
use Rattle.std.specs.Fmt.{decimal}
use Rattle.std.specs.List.{range_with_len, flat_map, list_all}
use Rattle.std.proofs.lemmas.Bool.{and_parts, not-true, eqb-false}
use Rattle.std.proofs.lemmas.List.{length-append}
use Rattle.std.proofs.lemmas.List.Elements.{All-append, All-cons, All-nil, All-head, All-tail, All-weaker}
use Rattle.std.proofs.lemmas.List.FromFn.{length-map-range_with_len}
use Rattle.tm_circuit.specs.Sound.{IsNameByte}
use Rattle.blif_write.specs.Text.{further_word}
use Rattle.tm_make.specs.Sample.{input_name, latch_name, gate_name, choice_name, latches_of, first_choice, second_choice, kind, kind_lines, latch_line, gate_lines, sample_lines, sample_text}
use Rattle.tm_make.proofs.NameLemmas.{letter_named, decimal_named, decimal_short, Region, an_input, a_latch, a_gate, region}
use Rattle.tm_make.proofs.CircuitLemmas.{all_range, all_one, all_two, first_below, second_below, few_signals, few_names, narrow_gates}
use Rattle.blif_read.specs.declared.TheConstants.{MAPPED}
use Rattle.blif_read.specs.Text.{IsCircuitOf}
use Rattle.tm_make.specs.SampleCircuit.{sample_circuit, HasNarrowCircuit}
use Rattle.tm_make.proofs.NarrowLemmas.{source_from_mapped, IsLineByte, IsShort, short_text}

-- ---- words

record IsFine (word : List ℕ) : Type 0 where
  bytes : All IsLineByte word
  short : length word ≤ 8

bytes_from_test : (word : List ℕ) → list_all (λ b. not (eqb b 10) && not (eqb b 92)) word ≡ true → All IsLineByte word
bytes_from_test [] passes = All-nil IsLineByte
bytes_from_test (b ∷ word) passes =
    let parts = and_parts (not (eqb b 10) && not (eqb b 92)) (list_all (λ b. not (eqb b 10) && not (eqb b 92)) word) passes in
    let own = and_parts (not (eqb b 10)) (not (eqb b 92)) parts.0 in
    All-cons IsLineByte b word (eqb-false b 10 (not-true (eqb b 10) own.0), eqb-false b 92 (not-true (eqb b 92) own.1)) (bytes_from_test word parts.1)

name_bytes : (bytes : List ℕ) → All IsNameByte bytes → All IsLineByte bytes
name_bytes bytes all =
    All-weaker IsNameByte IsLineByte (λ b lawful. ((λ (e : b ≡ 10). let low : 33 ≤ b = lawful.0 in omega arith), lawful.3)) bytes all

decimal_fine : (n : ℕ) → n < 100000 → IsFine (decimal n)
decimal_fine n few =
    let short = decimal_short n few in record { bytes = name_bytes (decimal n) (decimal_named n (omega arith)); short = omega arith }

letter_fine : (letter n : ℕ) → IsNameByte letter → n < 100000 → IsFine (letter ∷ decimal n)
letter_fine letter n byte few =
    let short = decimal_short n few in
    record { bytes = name_bytes (letter ∷ decimal n) (letter_named letter n byte few).lawful; short = omega arith }

lower : (b : ℕ) → 93 ≤ b → b ≤ 126 → IsNameByte b
lower b low high = (omega arith, omega arith, (λ (e : b ≡ 35). omega arith), (λ (e : b ≡ 92). omega arith))

input_fine : (n : ℕ) → n < 100000 → IsFine (input_name n)
input_fine n few = letter_fine 105 n (lower 105 (omega arith) (omega arith)) few

latch_fine : (n : ℕ) → n < 100000 → IsFine (latch_name n)
latch_fine n few = letter_fine 108 n (lower 108 (omega arith) (omega arith)) few

gate_fine : (n : ℕ) → n < 100000 → IsFine (gate_name n)
gate_fine n few = letter_fine 103 n (lower 103 (omega arith) (omega arith)) few

choice_fine : (latches choice : ℕ) → choice < 100000 → IsFine (choice_name latches choice)
choice_fine latches choice few = by_region (region latches choice)
  where
    by_region : Region latches choice → IsFine (choice_name latches choice)
    by_region (an_input below is) = rw is (input_fine choice few)
    by_region (a_latch past below is) = rw is (latch_fine (choice - 8) (omega arith))
    by_region (a_gate above is) = rw is (gate_fine (choice - (8 + latches)) (omega arith))

-- ---- lines

further_bytes : (words : List (List ℕ)) → All IsFine words → All IsLineByte (flat_map further_word words)
further_bytes [] all = All-nil IsLineByte
further_bytes (word ∷ words) all =
    All-append IsLineByte (further_word word) (flat_map further_word words)
    (All-cons IsLineByte 32 word ((λ (e : 32 ≡ 10). omega arith), (λ (e : 32 ≡ 92). omega arith)) (All-head IsFine word words all).bytes)
    (further_bytes words (All-tail IsFine word words all))

further_length : (words : List (List ℕ)) → All IsFine words → length (flat_map further_word words) ≤ 9 * length words
further_length [] all = omega arith
further_length (word ∷ words) all =
    let here = (All-head IsFine word words all).short in
    let rest = further_length words (All-tail IsFine word words all) in
    let both = length-append (further_word word) (flat_map further_word words) in
    omega arith

short_line : (word : List ℕ) (words : List (List ℕ)) → IsFine word → All IsFine words → length words ≤ 20 → IsShort (word ∷ words)
short_line word words fine all few =
    record {
      bytes = All-append IsLineByte word (flat_map further_word words) fine.bytes (further_bytes words all);
      short =
          let here = fine.short in
          let rest = further_length words all in
          let both = length-append word (flat_map further_word words) in
          omega arith;
    }

one_more : (word : List ℕ) (words : List (List ℕ)) → IsFine word → All IsFine words → All IsFine (word ∷ words)
one_more word words fine all = All-cons IsFine word words fine all

none : All IsFine []
none = All-nil IsFine

literal : (word : List ℕ) → list_all (λ b. not (eqb b 10) && not (eqb b 92)) word ≡ true → length word ≤ 8 → IsFine word
literal word passes short = record { bytes = bytes_from_test word passes; short = short }

row_short : (row : List ℕ) → IsFine row → IsShort (row ∷ codes "1" ∷ [])
row_short row fine = short_line row (codes "1" ∷ []) fine (one_more (codes "1") [] (literal (codes "1") refl (omega arith)) none) (omega arith)

kind_short : (k : ℕ) → All IsShort (kind_lines k)
kind_short zero = all_one IsShort (codes "11" ∷ codes "1" ∷ []) (row_short (codes "11") (literal (codes "11") refl (omega arith)))
kind_short (suc zero) =
    all_two IsShort (codes "1-" ∷ codes "1" ∷ []) (codes "-1" ∷ codes "1" ∷ []) (row_short (codes "1-") (literal (codes "1-") refl (omega arith)))
    (row_short (codes "-1") (literal (codes "-1") refl (omega arith)))
kind_short (suc (suc k)) =
    all_two IsShort (codes "10" ∷ codes "1" ∷ []) (codes "01" ∷ codes "1" ∷ []) (row_short (codes "10") (literal (codes "10") refl (omega arith)))
    (row_short (codes "01") (literal (codes "01") refl (omega arith)))

kind_few : (k : ℕ) → length (kind_lines k) ≤ 2
kind_few zero = omega arith
kind_few (suc zero) = omega arith
kind_few (suc (suc k)) = omega arith

three : (a b c : List ℕ) → IsFine a → IsFine b → IsFine c → All IsFine (a ∷ b ∷ c ∷ [])
three a b c one two more = All-cons IsFine a (b ∷ c ∷ []) one (all_two IsFine b c two more)

latch_short : (n j : ℕ) → n ≤ 20000 → j < latches_of n → IsShort (latch_line j)
latch_short n j few below =
    short_line (codes ".latch") (gate_name (4 * j + 3) ∷ latch_name j ∷ decimal (j % 2) ∷ []) (literal (codes ".latch") refl (omega arith))
    (three (gate_name (4 * j + 3)) (latch_name j) (decimal (j % 2)) (gate_fine (4 * j + 3) (omega arith)) (latch_fine j (omega arith))
    (decimal_fine (j % 2) (omega arith)))
    (omega arith)

gate_short : (n j : ℕ) → n ≤ 20000 → j < n → All IsShort (gate_lines n j)
gate_short n j few below =
    let first = choice_name (latches_of n) (first_choice n j) in
    let second = choice_name (latches_of n) (second_choice n j) in
    All-cons IsShort (codes ".names" ∷ first ∷ second ∷ gate_name j ∷ []) (kind_lines (kind n j))
    (short_line (codes ".names") (first ∷ second ∷ gate_name j ∷ []) (literal (codes ".names") refl (omega arith))
    (three first second (gate_name j) (choice_fine (latches_of n) (first_choice n j) (omega (arith, first_below n j)))
    (choice_fine (latches_of n) (second_choice n j) (omega (arith, second_below n j))) (gate_fine j (omega arith)))
    (omega arith))
    (kind_short (kind n j))

all_flat_range : {X : Type 0} (P : X → Type 0) (f : ℕ → List X) (a k : ℕ) → ((j : ℕ) → a ≤ j → j < a + k → All P (f j)) → All P (flat_map f (range_with_len a k))
all_flat_range P f a zero each = All-nil P
all_flat_range P f a (suc k) each =
    All-append P (f a) (flat_map f (range_with_len (a + 1) k)) (each a (omega arith) (omega arith))
    (all_flat_range P f (a + 1) k (λ j low high. each j (omega arith) (omega arith)))

length-flat_range : {X : Type 0} (f : ℕ → List X) (most a k : ℕ) → ((j : ℕ) → length (f j) ≤ most) → length (flat_map f (range_with_len a k)) ≤ most * k
length-flat_range f most a zero each = omega arith
length-flat_range f most a (suc k) each =
    let here = each a in
    let rest = length-flat_range f most (a + 1) k each in
    let both = length-append (f a) (flat_map f (range_with_len (a + 1) k)) in
    grind arith

pub lines_are_short : (n : ℕ) → 8 ≤ n → n ≤ 20000 → All IsShort (sample_lines n)
lines_are_short n some few =
    All-append IsShort
    (((codes ".model" ∷ codes "sample" ∷ []) ∷ (codes ".inputs" ∷ map input_name (range_with_len 0 8)) ∷ (codes ".outputs" ∷ map gate_name (range_with_len (n - 8) 8)) ∷ map latch_line (range_with_len 0 (latches_of n))) ++ flat_map (gate_lines n) (range_with_len 0 n))
    ((codes ".end" ∷ []) ∷ [])
    (All-append IsShort
    ((codes ".model" ∷ codes "sample" ∷ []) ∷ (codes ".inputs" ∷ map input_name (range_with_len 0 8)) ∷ (codes ".outputs" ∷ map gate_name (range_with_len (n - 8) 8)) ∷ map latch_line (range_with_len 0 (latches_of n)))
    (flat_map (gate_lines n) (range_with_len 0 n))
    (All-cons IsShort (codes ".model" ∷ codes "sample" ∷ []) ((codes ".inputs" ∷ map input_name (range_with_len 0 8)) ∷ (codes ".outputs" ∷ map gate_name (range_with_len (n - 8) 8)) ∷ map latch_line (range_with_len 0 (latches_of n)))
    (short_line (codes ".model") (codes "sample" ∷ []) (literal (codes ".model") refl (omega arith))
    (one_more (codes "sample") [] (literal (codes "sample") refl (omega arith)) none) (omega arith))
    (All-cons IsShort (codes ".inputs" ∷ map input_name (range_with_len 0 8)) ((codes ".outputs" ∷ map gate_name (range_with_len (n - 8) 8)) ∷ map latch_line (range_with_len 0 (latches_of n)))
    (short_line (codes ".inputs") (map input_name (range_with_len 0 8)) (literal (codes ".inputs") refl (omega arith))
    (all_range IsFine input_name 0 8 (λ j low high. input_fine j (omega arith))) (omega (arith, length-map-range_with_len input_name 0 8)))
    (All-cons IsShort (codes ".outputs" ∷ map gate_name (range_with_len (n - 8) 8)) (map latch_line (range_with_len 0 (latches_of n)))
    (short_line (codes ".outputs") (map gate_name (range_with_len (n - 8) 8)) (literal (codes ".outputs") refl (omega arith))
    (all_range IsFine gate_name (n - 8) 8 (λ j low high. gate_fine j (omega arith))) (omega (arith, length-map-range_with_len gate_name (n - 8) 8)))
    (all_range IsShort latch_line 0 (latches_of n) (λ j low high. latch_short n j few (omega arith))))))
    (all_flat_range IsShort (gate_lines n) 0 n (λ j low high. gate_short n j few (omega arith))))
    (All-cons IsShort (codes ".end" ∷ []) [] (short_line (codes ".end") [] (literal (codes ".end") refl (omega arith)) none (omega arith)) (All-nil IsShort))

lines_few : (n : ℕ) → length (sample_lines n) ≤ 4 + latches_of n + 3 * n
lines_few n =
    let front : List (List (List ℕ)) = (codes ".model" ∷ codes "sample" ∷ []) ∷ (codes ".inputs" ∷ map input_name (range_with_len 0 8)) ∷ (codes ".outputs" ∷ map gate_name (range_with_len (n - 8) 8)) ∷ map latch_line (range_with_len 0 (latches_of n)) in
    let gates = flat_map (gate_lines n) (range_with_len 0 n) in
    let gates_few : length gates ≤ 3 * n = length-flat_range (gate_lines n) 3 0 n (λ j. omega (arith, kind_few (kind n j))) in
    let one = length-append (front ++ gates) ((codes ".end" ∷ []) ∷ []) in
    let two = length-append front gates in
    let latches = length-map-range_with_len latch_line 0 (latches_of n) in
    omega arith

pub text_is_short : (n : ℕ) → 8 ≤ n → n ≤ 20000 → length (sample_text n) ≤ 16777216
unfolding sample_text
text_is_short n some few =
    let long = short_text (sample_lines n) (lines_are_short n some few) in
    let lines = lines_few n in
    omega arith

-- What the circuit written is, read with the limits on a text that is mapped.
pub narrow_circuit : (n : ℕ) → 8 ≤ n → n ≤ 20000 → (text : List ℕ) → IsCircuitOf MAPPED (sample_text n) (sample_circuit n) → text ≡ sample_text n
    → HasNarrowCircuit text (sample_circuit n)
unfolding sample_text
narrow_circuit n some few text mapped is =
    record {
      circuit = rw is (source_from_mapped (sample_lines n) (sample_circuit n) (lines_are_short n some few) (few_names n few) mapped);
      signals = few_signals n few;
      narrow = narrow_gates n;
    }
