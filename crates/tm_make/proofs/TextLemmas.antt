-- The text of the sample circuit is the sample text.
use Rattle.std.proofs.Common.{◌≡◌, ℕ, zero, suc, ◌+◌, ◌-◌, ◌*◌, ◌%◌, ◌<◌, ◌≤◌, Bool, true, false, eqb, List, [], ◌∷◌, ◌++◌, length, get_or, map, refl, sym, ap, ◌∙◌, arith, None}
use Rattle.std.specs.Prelude.{codes}
use Rattle.std.specs.Fmt.{decimal}
use Rattle.std.specs.List.{range_with_len, zip, flat_map, filter}
use Rattle.std.proofs.lemmas.Fmt.{decimal_digit}
use Rattle.std.proofs.lemmas.List.{append-nil, length-append}
use Rattle.std.proofs.lemmas.List.Elements.{filter-append}
use Rattle.std.proofs.lemmas.List.Concat.{flat_map_single}
use Rattle.std.proofs.lemmas.List.Folds.{flat_map-map}
use Rattle.std.proofs.lemmas.List.FromFn.{length-map-range_with_len}
use Rattle.std.proofs.lemmas.Grind.{flat_map-append}
use Rattle.tm_circuit.specs.Plain.{Plain, Drive, input, is_input}
use Rattle.tm_circuit.specs.Same.{input_names}
use Rattle.blif_write.specs.Text.{lines_text, name_of, names_of, with_clock, clock_lines, signals_of, bit_word, row_words, all_lines, inputs_line, outputs_line, written_lines, text_of}
use Rattle.blif_write.specs.Text as written
use Rattle.tm_make.specs.Sample.{input_name, latch_name, gate_name, choice_name, latches_of, first_choice, second_choice, kind, kind_lines, latch_line, gate_lines, sample_lines, sample_text}
use Rattle.tm_make.specs.SampleCircuit.{kind_rows, gate_signal, latch_drive, gate_drive, sample_circuit}
use Rattle.tm_make.proofs.NameLemmas.{sample_names, name_at, gate_choice}
use Rattle.tm_make.proofs.CircuitLemmas.{sample_drives, sample_outputs, first_below, second_below}

-- ---- lists

zip-append : {K X : Type 0} (ks ls : List K) (cs ds : List X) → length ks ≡ length cs → zip (ks ++ ls) (cs ++ ds) ≡ zip ks cs ++ zip ls ds
zip-append [] ls [] ds long = refl
zip-append [] ls (c ∷ cs) ds long = absurd (omega arith)
zip-append (a ∷ ks) ls [] ds long = absurd (omega arith)
zip-append (a ∷ ks) ls (c ∷ cs) ds long = ap (λ rest. (a, c) ∷ rest) (zip-append ks ls cs ds (omega arith))

zip-map : {A K X : Type 0} (f : A → K) (g : A → X) (xs : List A) → zip (map f xs) (map g xs) ≡ map (λ x. (f x, g x)) xs
zip-map f g [] = refl
zip-map f g (x ∷ xs) = ap (λ rest. (f x, g x) ∷ rest) (zip-map f g xs)

-- Functions that agree on a range give the same lists.
map_on_range : {X : Type 0} (f g : ℕ → X) (a k : ℕ) → ((j : ℕ) → a ≤ j → j < a + k → f j ≡ g j) → map f (range_with_len a k) ≡ map g (range_with_len a k)
map_on_range f g a zero same = refl
map_on_range f g a (suc k) same =
    ap (λ x. x ∷ map f (range_with_len (a + 1) k)) (same a (omega arith) (omega arith))
    ∙ ap (λ rest. g a ∷ rest) (map_on_range f g (a + 1) k (λ j low high. same j (omega arith) (omega arith)))

flat_map_on_range : {X : Type 0} (f g : ℕ → List X) (a k : ℕ) → ((j : ℕ) → a ≤ j → j < a + k → f j ≡ g j)
    → flat_map f (range_with_len a k) ≡ flat_map g (range_with_len a k)
flat_map_on_range f g a zero same = refl
flat_map_on_range f g a (suc k) same =
    ap (λ x. x ++ flat_map f (range_with_len (a + 1) k)) (same a (omega arith) (omega arith))
    ∙ ap (λ rest. g a ++ rest) (flat_map_on_range f g (a + 1) k (λ j low high. same j (omega arith) (omega arith)))

flat_map_none : {A X : Type 0} (f : A → List X) (xs : List A) → ((x : A) → f x ≡ []) → flat_map f xs ≡ []
flat_map_none f [] none = refl
flat_map_none f (x ∷ xs) none = ap (λ l. l ++ flat_map f xs) (none x) ∙ flat_map_none f xs none

filter_none : {A : Type 0} (p : A → Bool) (f : ℕ → A) (xs : List ℕ) → ((x : ℕ) → p (f x) ≡ false) → filter p (map f xs) ≡ []
filter_none p f [] none = refl
filter_none p f (x ∷ xs) none = rw (none x) (filter_none p f xs none)

filter_all : {A : Type 0} (p : A → Bool) (f : ℕ → A) (xs : List ℕ) → ((x : ℕ) → p (f x) ≡ true) → filter p (map f xs) ≡ map f xs
filter_all p f [] all = refl
filter_all p f (x ∷ xs) all = rw (all x) (ap (λ rest. f x ∷ rest) (filter_all p f xs all))

map-map : {A B C : Type 0} (g : B → C) (f : A → B) (xs : List A) → map g (map f xs) ≡ map (λ x. g (f x)) xs
map-map g f [] = refl
map-map g f (x ∷ xs) = ap (λ rest. g (f x) ∷ rest) (map-map g f xs)

-- ---- the signals

input_pair : ℕ → List ℕ × Drive
input_pair j = (input_name j, input)

latch_pair : ℕ → ℕ → List ℕ × Drive
latch_pair n j = (latch_name j, latch_drive n j)

gate_pair : ℕ → ℕ → List ℕ × Drive
gate_pair n j = (gate_name j, gate_drive n j)

abbrev pairs_of : ℕ → List (List ℕ × Drive)
pairs_of n = map input_pair (range_with_len 0 8) ++ map (latch_pair n) (range_with_len 0 (latches_of n)) ++ map (gate_pair n) (range_with_len 0 n)

signals_are : (n : ℕ) → zip (sample_names n) (sample_drives n) ≡ pairs_of n
unfolding input_pair latch_pair gate_pair
signals_are n =
    zip-append (map input_name inputs ++ map latch_name latches) (map gate_name gates) (map (λ _. input) inputs ++ map (latch_drive n) latches)
    (map (gate_drive n) gates) front_long
    ∙ ap (λ rest. zip (map input_name inputs ++ map latch_name latches) (map (λ _. input) inputs ++ map (latch_drive n) latches) ++ rest)
    (zip-map gate_name (gate_drive n) gates)
    ∙ ap (λ front. front ++ map (λ j. (gate_name j, gate_drive n j)) gates)
    (zip-append (map input_name inputs) (map latch_name latches) (map (λ _. input) inputs) (map (latch_drive n) latches) first_long
    ∙ ap (λ front. front ++ zip (map latch_name latches) (map (latch_drive n) latches)) (zip-map input_name (λ _. input) inputs)
    ∙ ap (λ rest. map (λ j. (input_name j, input)) inputs ++ rest) (zip-map latch_name (latch_drive n) latches))
  where
    inputs : List ℕ
    inputs = range_with_len 0 8

    latches : List ℕ
    latches = range_with_len 0 (latches_of n)

    gates : List ℕ
    gates = range_with_len 0 n

    first_long : length (map input_name (range_with_len 0 8)) ≡ length (map (λ _. input) (range_with_len 0 8))
    first_long = refl

    front_long : length (map input_name (range_with_len 0 8) ++ map latch_name (range_with_len 0 (latches_of n)))
        ≡ length (map (λ _. input) (range_with_len 0 8) ++ map (latch_drive n) (range_with_len 0 (latches_of n)))
    front_long =
        length-append (map input_name (range_with_len 0 8)) (map latch_name (range_with_len 0 (latches_of n)))
        ∙ (omega (
          arith,
          length-append (map (λ _. input) (range_with_len 0 8)) (map (latch_drive n) (range_with_len 0 (latches_of n))),
          length-map-range_with_len latch_name 0 (latches_of n),
          length-map-range_with_len (latch_drive n) 0 (latches_of n),
        ))

-- The lines of all signals, by their kinds.
lines_by_kind : (n : ℕ) (c : Plain) (lines : Plain → List ℕ → Drive → List (List (List ℕ))) → signals_of c ≡ pairs_of n
    → all_lines lines c
    ≡ flat_map (λ j. lines c (input_name j) input) (range_with_len 0 8)
    ++ flat_map (λ j. lines c (latch_name j) (latch_drive n j)) (range_with_len 0 (latches_of n))
    ++ flat_map (λ j. lines c (gate_name j) (gate_drive n j)) (range_with_len 0 n)
unfolding input_pair latch_pair gate_pair
lines_by_kind n c lines are =
    let h = λ (s : List ℕ × Drive). lines c s.0 s.1 in
    let inputs = map input_pair (range_with_len 0 8) in
    let latches = map (latch_pair n) (range_with_len 0 (latches_of n)) in
    let gates = map (gate_pair n) (range_with_len 0 n) in
    ap (flat_map h) are
    ∙ flat_map-append h (inputs ++ latches) gates
    ∙ ap (λ front. front ++ flat_map h gates) (flat_map-append h inputs latches)
    ∙ ap (λ x. x ++ flat_map h latches ++ flat_map h gates) (flat_map-map h input_pair (range_with_len 0 8))
    ∙ ap (λ x. flat_map (λ j. h (input_pair j)) (range_with_len 0 8) ++ x ++ flat_map h gates) (flat_map-map h (latch_pair n) (range_with_len 0 (latches_of n)))
    ∙ ap (λ x. flat_map (λ j. h (input_pair j)) (range_with_len 0 8) ++ flat_map (λ j. h (latch_pair n j)) (range_with_len 0 (latches_of n)) ++ x)
    (flat_map-map h (gate_pair n) (range_with_len 0 n))

-- ---- the lines of a signal

-- A circuit with the signals of the sample, and without a clock.
record HasSignals (n : ℕ) (c : Plain) : Type 0 where
  names : c.names ≡ sample_names n
  drives : c.drives ≡ sample_drives n
  no_clock : c.clock ≡ None
  outputs : c.outputs ≡ sample_outputs n
  model : c.model ≡ codes "sample"

name_is : (n : ℕ) (c : Plain) → HasSignals n c → (s : ℕ) → s < 8 + latches_of n + n → name_of c s ≡ choice_name (latches_of n) s
name_is n c has s inside = ap (λ names. get_or names s []) has.names ∙ name_at n s [] inside

gate_name_is : (n : ℕ) (c : Plain) → HasSignals n c → (j : ℕ) → j < n → name_of c (gate_signal n j) ≡ gate_name j
gate_name_is n c has j below =
    name_is n c has (gate_signal n j) (omega arith)
    ∙ gate_choice (latches_of n) (gate_signal n j) (omega arith)
    ∙ ap gate_name (let e : gate_signal n j - (8 + latches_of n) ≡ j = omega arith in e)

bit_is : (m : ℕ) → m < 2 → bit_word (eqb m 1) ≡ decimal m
bit_is zero small = sym (decimal_digit 0 (omega arith))
bit_is (suc zero) small = sym (decimal_digit 1 (omega arith))
bit_is (suc (suc m)) small = absurd (omega arith)

latch_lines_are : (n : ℕ) (c : Plain) → HasSignals n c → (j : ℕ) → j < latches_of n
    → written.latch_lines c (latch_name j) (latch_drive n j) ≡ latch_line j ∷ []
latch_lines_are n c has j below =
    let next = gate_name_is n c has (4 * j + 3) (omega arith) in
    let bit = bit_is (j % 2) (omega arith) in
    rw (has.no_clock, next, bit) refl

kind_lines_are : (k : ℕ) → map (row_words true) (kind_rows k) ≡ kind_lines k
kind_lines_are zero = refl
kind_lines_are (suc zero) = refl
kind_lines_are (suc (suc k)) = refl

gate_lines_are : (n : ℕ) (c : Plain) → HasSignals n c → (j : ℕ) → j < n → written.gate_lines c (gate_name j) (gate_drive n j) ≡ gate_lines n j
gate_lines_are n c has j below =
    let first = name_is n c has (first_choice n j) (omega (arith, first_below n j)) in
    let second = name_is n c has (second_choice n j) (omega (arith, second_below n j)) in
    rw (first, second, kind_lines_are (kind n j)) refl

-- ---- all lines

latches_written : (n : ℕ) (c : Plain) → HasSignals n c → signals_of c ≡ pairs_of n
    → all_lines written.latch_lines c ≡ map latch_line (range_with_len 0 (latches_of n))
latches_written n c has are =
    lines_by_kind n c written.latch_lines are
    ∙ ap (λ x. x ++ flat_map (λ j. written.latch_lines c (gate_name j) (gate_drive n j)) (range_with_len 0 n))
    (flat_map_on_range (λ j. written.latch_lines c (latch_name j) (latch_drive n j)) (λ j. latch_line j ∷ []) 0 (latches_of n)
    (λ j low high. latch_lines_are n c has j (omega arith))
    ∙ flat_map_single latch_line (range_with_len 0 (latches_of n)))
    ∙ ap (λ x. map latch_line (range_with_len 0 (latches_of n)) ++ x)
    (flat_map_none (λ j. written.latch_lines c (gate_name j) (gate_drive n j)) (range_with_len 0 n) (λ j. refl))
    ∙ append-nil (map latch_line (range_with_len 0 (latches_of n)))

gates_written : (n : ℕ) (c : Plain) → HasSignals n c → signals_of c ≡ pairs_of n
    → all_lines written.gate_lines c ≡ flat_map (gate_lines n) (range_with_len 0 n)
gates_written n c has are =
    lines_by_kind n c written.gate_lines are
    ∙ ap (λ x. x ++ flat_map (λ j. written.gate_lines c (gate_name j) (gate_drive n j)) (range_with_len 0 n))
    (flat_map_none (λ j. written.gate_lines c (latch_name j) (latch_drive n j)) (range_with_len 0 (latches_of n)) (λ j. refl))
    ∙ flat_map_on_range (λ j. written.gate_lines c (gate_name j) (gate_drive n j)) (gate_lines n) 0 n (λ j low high. gate_lines_are n c has j (omega arith))

inputs_are : (n : ℕ) (c : Plain) → signals_of c ≡ pairs_of n → input_names c ≡ map input_name (range_with_len 0 8)
unfolding input_pair latch_pair gate_pair
inputs_are n c are =
    let p = λ (s : List ℕ × Drive). is_input s.1 in
    let fst = λ (s : List ℕ × Drive). s.0 in
    let inputs = map input_pair (range_with_len 0 8) in
    let latches = map (latch_pair n) (range_with_len 0 (latches_of n)) in
    let gates = map (gate_pair n) (range_with_len 0 n) in
    ap (λ signals. map fst (filter p signals)) are
    ∙ ap (map fst) (filter-append p (inputs ++ latches) gates
    ∙ ap (λ x. filter p (inputs ++ latches) ++ x) (filter_none p (gate_pair n) (range_with_len 0 n) (λ j. refl))
    ∙ append-nil (filter p (inputs ++ latches))
    ∙ filter-append p inputs latches
    ∙ ap (λ x. filter p inputs ++ x) (filter_none p (latch_pair n) (range_with_len 0 (latches_of n)) (λ j. refl))
    ∙ append-nil (filter p inputs)
    ∙ filter_all p input_pair (range_with_len 0 8) (λ j. refl))
    ∙ map-map fst input_pair (range_with_len 0 8)

outputs_are : (n : ℕ) (c : Plain) → HasSignals n c → 8 ≤ n → names_of c c.outputs ≡ map gate_name (range_with_len (n - 8) 8)
outputs_are n c has some =
    ap (names_of c) has.outputs
    ∙ map-map (name_of c) (gate_signal n) (range_with_len (n - 8) 8)
    ∙ map_on_range (λ j. name_of c (gate_signal n j)) gate_name (n - 8) 8 (λ j low high. gate_name_is n c has j (omega arith))

lines_written : (n : ℕ) (c : Plain) → HasSignals n c → 8 ≤ n → written_lines c ≡ sample_lines n
lines_written n c has some =
    let are : signals_of c ≡ pairs_of n = ap (λ names. zip names c.drives) has.names ∙ ap (zip (sample_names n)) has.drives ∙ signals_are n in
    let ins : List (List ℕ) = map input_name (range_with_len 0 8) in
    let outs : List (List ℕ) = map gate_name (range_with_len (n - 8) 8) in
    let front : List (List (List ℕ)) = (codes ".model" ∷ codes "sample" ∷ []) ∷ (codes ".inputs" ∷ ins) ∷ (codes ".outputs" ∷ outs) ∷ [] in
    let last : List (List (List ℕ)) = (codes ".end" ∷ []) ∷ [] in
    let front_is : (codes ".model" ∷ c.model ∷ []) ∷ inputs_line c ∷ outputs_line c ∷ clock_lines c.clock ≡ front
    = ap (λ model. (codes ".model" ∷ model ∷ []) ∷ inputs_line c ∷ outputs_line c ∷ clock_lines c.clock) has.model
    ∙ ap (λ clock. (codes ".model" ∷ codes "sample" ∷ []) ∷ (codes ".inputs" ∷ with_clock clock (input_names c)) ∷ outputs_line c ∷ clock_lines clock)
    has.no_clock
    ∙ ap (λ words. (codes ".model" ∷ codes "sample" ∷ []) ∷ (codes ".inputs" ∷ words) ∷ outputs_line c ∷ []) (inputs_are n c are)
    ∙ ap (λ words. (codes ".model" ∷ codes "sample" ∷ []) ∷ (codes ".inputs" ∷ ins) ∷ (codes ".outputs" ∷ words) ∷ []) (outputs_are n c has some) in
    ap (λ lines. lines ++ all_lines written.latch_lines c ++ all_lines written.gate_lines c ++ last) front_is
    ∙ ap (λ lines. front ++ lines ++ all_lines written.gate_lines c ++ last) (latches_written n c has are)
    ∙ ap (λ lines. front ++ map latch_line (range_with_len 0 (latches_of n)) ++ lines ++ last) (gates_written n c has are)

pub text_written : (n : ℕ) → 8 ≤ n → text_of (sample_circuit n) ≡ sample_text n
unfolding sample_circuit sample_text
text_written n some =
    ap lines_text
    (lines_written n (sample_circuit n) (record { names = refl; drives = refl; no_clock = refl; outputs = refl; model = refl }) some)
