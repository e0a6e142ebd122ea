-- No line that is written is at fault.
use Rattle.std.proofs.Common.{◌≡◌, ◌≢◌, ℕ, ◌+◌, ◌-◌, ◌≤◌, ◌++◌, List, [], ◌∷◌, Bool, true, false, not, ◌&&◌, ◌||◌, cond, eqb, length, map, take, Some, None, Option, refl, sym, ap, ◌∙◌, subst, arith, append_assoc, length-append, eq-eqb}
use Rattle.std.specs.Prelude.{codes, IfSome, bytes_eq, option_map, take_while, slice_get}
use Rattle.std.specs.List.{flat_map, list_any, list_all, AllByRecursion}
use Rattle.std.specs.Option.{option_or, option_to_list}
use Rattle.std.proofs.lemmas.Bool.{le-ltb}
use Rattle.std.proofs.lemmas.List.{append-nil, length-map}
use Rattle.std.proofs.lemmas.Grind.{flat_map-append}
use Rattle.tm_bits.specs.declared.cover.Place.{Place}
use Rattle.tm_bits.specs.declared.cover.Place.TheVariants.{Zero, One, Any}
use Rattle.tm_circuit.specs.declared.parts.Clock.{Clock}
use Rattle.tm_circuit.specs.declared.parts.Edge.{Edge}
use Rattle.tm_circuit.specs.Plain.{Plain, Drive, input, latch, gate}
use Rattle.tm_circuit.specs.Sound.{IsClockName}
use Rattle.blif_lex.specs.Words.{Line}
use Rattle.blif_read.specs.declared.fault.BlifKind.TheVariants.{BadRow, MixedRows}
use Rattle.blif_read.specs.declared.keyword.Keyword.{Keyword}
use Rattle.blif_read.specs.declared.keyword.Keyword.TheVariants.{Model, Inputs, Outputs, Names, Latch, End}
use Rattle.blif_read.specs.declared.keyword.Keyword.TheVariants as keyword
use Rattle.blif_read.specs.Keyword.{keyword_at}
use Rattle.blif_read.specs.Circuit.{Faulty}
use Rattle.blif_read.specs.Statement.{keyword_in, further, is_row, blocks_of, drivers_in, outputs_in, control_in, controls_in, clocks_in, over_lines, repeats, differ, same_control, differs_from_first, is_unknown, is_end, is_left_out, is_misplaced, has_bad_count, has_too_many_pins, has_bad_type, has_bad_init, has_unknown_init, has_many_clocks, fault_in_head, is_bit, is_place, is_row_of, last_of, fault_in_row, fault_in_rows, output_of, is_on, differs, earlier, misplaced_first, fault_after_head, fault_in_block, fault_in_blocks, fault_of_lines, at_line}
use Rattle.tm_circuit.specs.Same.{input_names}
use Rattle.blif_write.specs.Text.{signals_of, name_of, names_of, with_clock, bit_word, place_byte, row_words}
use Rattle.blif_write.proofs.Lexing.{numbered, ne_eqb}
use Rattle.blif_write.proofs.Blocks.{Statement, blocks, IsStatement, lines_in, blocks_back, no_row_first}
use Rattle.blif_write.proofs.Statements.{plain_statement, clock_statements, latch_statements, latch_further, gate_statements, end_statement, statements_of, Fits}
use Rattle.blif_write.proofs.Reading.{at_model, at_inputs, at_outputs, at_clock, at_latch, at_names, at_end, last_back, row_last, ne_bytes, same_bytes, pair_of, latch_tests, latch_words, bit_told}
use Rattle.blif_write.proofs.Lists.{all_append, all_parts}

-- ---- names apart

-- No two of the names are the same.
abbrev pub AreApart : List (List ℕ) → Type 0
AreApart [] = Unit {0}
AreApart (n ∷ ns) = AllByRecursion (λ m. n ≢ m) ns × AreApart ns

all_at : (P : List ℕ → Type 0) (xs : List (List ℕ)) (y : List ℕ) (ys : List (List ℕ)) → AllByRecursion P (xs ++ y ∷ ys) → P y
all_at P [] y ys h = h.0
all_at P (x ∷ xs) y ys h = all_at P xs y ys h.1

pub apart_front : (xs ys : List (List ℕ)) → AreApart (xs ++ ys) → AreApart xs
apart_front [] ys h = tt
apart_front (x ∷ xs) ys h = ((all_parts (λ m. x ≢ m) xs ys h.0).0, apart_front xs ys h.1)

unseen : (seen : List (List ℕ)) (n : List ℕ) (ns : List (List ℕ)) → AreApart (seen ++ n ∷ ns) → list_any (λ m. bytes_eq n m) seen ≡ false
unseen [] n ns h = refl
unseen (s ∷ seen) n ns h =
    let here : bytes_eq n s ≡ false = ne_bytes n s (λ e. all_at (λ m. s ≢ m) seen n ns h.0 (sym e)) in
    rw here (unseen seen n ns h.1)

no_repeats : (seen ns : List (List ℕ)) → AreApart (seen ++ ns) → repeats seen ns ≡ false
no_repeats seen [] h = refl
no_repeats seen (n ∷ ns) h =
    let here : list_any (λ m. bytes_eq n m) seen ≡ false = unseen seen n ns h in
    rw here (no_repeats (seen ++ n ∷ []) ns (subst AreApart (sym (append_assoc seen (n ∷ []) ns)) h))

-- ---- one clock

abbrev IsThisClock : Option Clock → List ℕ → Type 0
IsThisClock None n = ⊥
IsThisClock (Some clock) n = n ≡ clock.name

all_same : (name n : List ℕ) (ns : List (List ℕ)) → n ≡ name → AllByRecursion (λ m. m ≡ name) ns → list_any (λ m. not (bytes_eq n m)) ns ≡ false
all_same name n [] e h = refl
all_same name n (m ∷ ns) e h =
    let here : bytes_eq n m ≡ true = same_bytes n m (e ∙ sym h.0) in
    rw here (all_same name n ns e h.1)

no_difference : (clock : Option Clock) (ns : List (List ℕ)) → AllByRecursion (IsThisClock clock) ns → differ ns ≡ false
no_difference clock [] h = refl
no_difference None (n ∷ ns) h = absurd h.0
no_difference (Some clock) (n ∷ ns) h = all_same clock.name n ns h.0 h.1

control_same : (k : Option (List ℕ × List ℕ)) → same_control k k ≡ true
control_same None = refl
control_same (Some p) =
    let first : bytes_eq p.0 p.0 ≡ true = same_bytes p.0 p.0 refl in
    let second : bytes_eq p.1 p.1 ≡ true = same_bytes p.1 p.1 refl in
    rw (first, second) refl

first_same : (k : Option (List ℕ × List ℕ)) (ks : List (Option (List ℕ × List ℕ))) → AllByRecursion (λ x. x ≡ k) ks → differs_from_first (slice_get ks 0) k ≡ false
first_same k [] h = refl
first_same k (x ∷ ks) h = ap (λ y. not (same_control y k)) h.0 ∙ ap not (control_same k)

first_of_all : {X : Type 0} (P : X → Type 0) (xs : List X) → AllByRecursion P xs → AllByRecursion P (option_to_list (slice_get xs 0))
first_of_all P [] h = tt
first_of_all P (x ∷ xs) h = (h.0, tt)

-- ---- the lines before

-- What the lines before say: which names they drive, which are outputs, and that their clock is this one.
record Before (clock : Option Clock) (before : List Line) (driven outs : List (List ℕ)) : Type 0 where
  no_end : list_any (λ line. is_end (keyword_in line)) before ≡ false
  drives : over_lines drivers_in before ≡ driven
  outputs : over_lines outputs_in before ≡ outs
  clocks : AllByRecursion (IsThisClock clock) (over_lines clocks_in before)
  controls : AllByRecursion (λ k. k ≡ pair_of clock) (over_lines controls_in before)

none_at_end : {X : Type 0} (p : X → Bool) (xs : List X) (y : X) → list_any p xs ≡ false → p y ≡ false → list_any p (xs ++ y ∷ []) ≡ false
none_at_end p [] y h k = rw k refl
none_at_end p (x ∷ xs) y h k = by_first (p x) (λ e. none_at_end p xs y e k) h
  where
    by_first : (b : Bool) → (list_any p xs ≡ false → list_any p (xs ++ y ∷ []) ≡ false) → (b || list_any p xs) ≡ false → (b || list_any p (xs ++ y ∷ [])) ≡ false
    by_first true more e = e
    by_first false more e = more e

over_more : {A : Type 0} (f : Keyword → List (List ℕ) → List A) (before : List Line) (n : ℕ) (word : List ℕ) (ws : List (List ℕ)) (k : Keyword) → keyword_at word ≡ k → over_lines f (before ++ record { number = n; words = word ∷ ws } ∷ []) ≡ over_lines f before ++ f k ws
over_more f before n word ws k at =
    flat_map-append (λ line. f (keyword_in line) (further line)) before (record { number = n; words = word ∷ ws } ∷ [])
    ∙ ap (λ x. over_lines f before ++ x) (append-nil (f (keyword_at word) ws) ∙ ap (λ x. f x ws) at)

before_more : (clock : Option Clock) (before : List Line) (driven outs : List (List ℕ)) (n : ℕ) (word : List ℕ) (ws : List (List ℕ)) (k : Keyword) → Before clock before driven outs → keyword_at word ≡ k → is_end k ≡ false
    → AllByRecursion (IsThisClock clock) (clocks_in k ws) → AllByRecursion (λ x. x ≡ pair_of clock) (controls_in k ws)
    → Before clock (before ++ record { number = n; words = word ∷ ws } ∷ []) (driven ++ drivers_in k ws) (outs ++ outputs_in k ws)
before_more clock before driven outs n word ws k b at no_end clocks controls = record {
  no_end = none_at_end (λ line. is_end (keyword_in line)) before (record { number = n; words = word ∷ ws }) b.no_end (ap is_end at ∙ no_end);
  drives = over_more drivers_in before n word ws k at ∙ ap (λ x. x ++ drivers_in k ws) b.drives;
  outputs = over_more outputs_in before n word ws k at ∙ ap (λ x. x ++ outputs_in k ws) b.outputs;
  clocks = subst (λ x. AllByRecursion (IsThisClock clock) x) (sym (over_more clocks_in before n word ws k at)) (all_append (IsThisClock clock) (over_lines clocks_in before) (clocks_in k ws) b.clocks clocks);
  controls = subst (λ x. AllByRecursion (λ y. y ≡ pair_of clock) x) (sym (over_more controls_in before n word ws k at)) (all_append (λ y. y ≡ pair_of clock) (over_lines controls_in before) (controls_in k ws) b.controls controls);
}

-- ---- one statement

-- No rule on the first line of a statement is broken.
head_passes : (k : Keyword) (before : List Line) (ws : List (List ℕ)) → is_unknown k ≡ false → is_left_out k (earlier before) ≡ false → is_misplaced k (earlier before) ≡ false → has_bad_count k ws ≡ false → has_too_many_pins k ws ≡ false
    → repeats (over_lines drivers_in before) (drivers_in k ws) ≡ false → repeats (over_lines outputs_in before) (outputs_in k ws) ≡ false
    → has_bad_type k ws ≡ false → has_bad_init k ws ≡ false → has_unknown_init k ws ≡ false → has_many_clocks k (earlier before) ws ≡ false → fault_in_head k (earlier before) ws ≡ None
unfolding fault_in_head
head_passes k before ws h1 h2 h3 h4 h5 h6 h7 h8 h9 h10 h11 = rw (h1, h2, h3, h4, h5, h6, h7, h8, h9, h10, h11) refl

-- After lines that drive such names, the statements are not at fault.
abbrev Passes : Option Clock → List (List ℕ) → List (List ℕ) → List Statement → Type 0
Passes clock driven outs ss = (n : ℕ) (before : List Line) → Before clock before driven outs → fault_in_blocks before (blocks n ss) ≡ None

nothing_in_front : (f : Option Faulty) (g : Option Faulty) → f ≡ None → g ≡ None → option_or f g ≡ None
nothing_in_front f g e h = ap (λ x. option_or x g) e ∙ h

block_passes : (before : List Line) (n : ℕ) (word : List ℕ) (ws : List (List ℕ)) (rows : List Line) (k : Keyword) → keyword_at word ≡ k → fault_in_head k (earlier before) ws ≡ None → fault_after_head k ws rows ≡ None
    → fault_in_block (earlier before) (record { head = record { number = n; words = word ∷ ws }; rows = rows }) ≡ None
unfolding fault_in_block
block_passes before n word ws rows k at head after =
    nothing_in_front (at_line (record { number = n; words = word ∷ ws }) (fault_in_head (keyword_at word) (earlier before) ws)) (fault_after_head (keyword_at word) ws rows)
    (ap (λ x. at_line (record { number = n; words = word ∷ ws }) (fault_in_head x (earlier before) ws)) at ∙ ap (λ x. at_line (record { number = n; words = word ∷ ws }) x) head)
    (ap (λ x. fault_after_head x ws rows) at ∙ after)

statement_passes : (clock : Option Clock) (driven outs : List (List ℕ)) (s : Statement) (ss : List Statement) (k : Keyword) → keyword_at s.word ≡ k
    → ((before : List Line) → Before clock before driven outs → fault_in_head k (earlier before) s.further ≡ None) → ((m : ℕ) → fault_after_head k s.further (numbered m s.rows) ≡ None)
    → is_end k ≡ false → AllByRecursion (IsThisClock clock) (clocks_in k s.further) → AllByRecursion (λ x. x ≡ pair_of clock) (controls_in k s.further)
    → Passes clock (driven ++ drivers_in k s.further) (outs ++ outputs_in k s.further) ss → Passes clock driven outs (s ∷ ss)
unfolding fault_in_blocks
statement_passes clock driven outs s ss k at head after no_end clocks controls more n before b =
    nothing_in_front (fault_in_block (earlier before) (record { head = record { number = n; words = s.word ∷ s.further }; rows = numbered (n + 1) s.rows })) (fault_in_blocks (before ++ record { number = n; words = s.word ∷ s.further } ∷ []) (blocks (n + 1 + length s.rows) ss))
    (block_passes before n s.word s.further (numbered (n + 1) s.rows) k at (head before b) (after (n + 1)))
    (more (n + 1 + length s.rows) (before ++ record { number = n; words = s.word ∷ s.further } ∷ []) (before_more clock before driven outs n s.word s.further k b at no_end clocks controls))

-- ---- each kind of statement

end_passes : (clock : Option Clock) (driven outs : List (List ℕ)) → Passes clock driven outs (end_statement ∷ [])
unfolding fault_in_blocks
end_passes clock driven outs n before b =
    nothing_in_front (fault_in_block (earlier before) (record { head = record { number = n; words = codes ".end" ∷ [] }; rows = [] })) None
    (block_passes before n (codes ".end") [] [] End at_end (head_passes End before [] refl refl b.no_end refl refl refl refl refl refl refl refl) refl) refl

-- rows

rows_places : (ps : List Place) → list_all is_place (map place_byte ps) ≡ true
rows_places [] = refl
rows_places (Zero ∷ ps) = rows_places ps
rows_places (One ∷ ps) = rows_places ps
rows_places (Any ∷ ps) = rows_places ps

bit_is_bit : (on : Bool) → is_bit (bit_word on) ≡ true
bit_is_bit true = refl
bit_is_bit false = refl

row_is_row : (on : Bool) (ps : List Place) → is_row_of (length ps) (row_words on ps) ≡ true
row_is_row true [] = refl
row_is_row false [] = refl
row_is_row on (p ∷ ps) =
    let row = row_words on (p ∷ ps) in
    let some : eqb (length (p ∷ ps)) 0 ≡ false = ne_eqb (length (p ∷ ps)) 0 (omega arith) in
    let size : eqb (length (map place_byte (p ∷ ps))) (length (p ∷ ps)) ≡ true = eq-eqb (length (map place_byte (p ∷ ps))) (length (p ∷ ps)) (length-map (p ∷ ps) place_byte) in
    let all : list_all is_place (map place_byte (p ∷ ps)) ≡ true = rows_places (p ∷ ps) in
    let bit : is_bit (bit_word on) ≡ true = bit_is_bit on in
    four (eqb (length row) 1 && is_bit (last_of row)) (eqb (length (p ∷ ps)) 0) (eqb (length (map place_byte (p ∷ ps))) (length (p ∷ ps))) (list_all is_place (map place_byte (p ∷ ps))) (is_bit (bit_word on)) some size all bit
  where
    four : (x a b c d : Bool) → a ≡ false → b ≡ true → c ≡ true → d ≡ true → cond a x (true && b && c && d) ≡ true
    four x a b c d h1 h2 h3 h4 = rw (h1, h2, h3, h4) refl

output_back : (on : Bool) (ps : List Place) → output_of (row_words on ps) ≡ on
output_back on ps = ap (λ w. bytes_eq w (codes "1")) (row_last on ps) ∙ bit_told on

no_differ : (on b : Bool) → b ≡ on → differs on b ≡ false
no_differ true b e = ap not e
no_differ false b e = e

row_passes : (on first : Bool) (n : ℕ) (ps : List Place) → first ≡ on → length ps ≡ n → fault_in_row n first (row_words on ps) ≡ None
row_passes on first n ps same e =
    let shape : is_row_of n (row_words on ps) ≡ true = ap (λ k. is_row_of k (row_words on ps)) (sym e) ∙ row_is_row on ps in
    let agrees : differs first (output_of (row_words on ps)) ≡ false = no_differ first (output_of (row_words on ps)) (output_back on ps ∙ sym same) in
    two (is_row_of n (row_words on ps)) (differs first (output_of (row_words on ps))) shape agrees
  where
    two : (a b : Bool) → a ≡ true → b ≡ false → cond (not a) (Some BadRow) (cond b (Some MixedRows) None) ≡ None
    two a b h1 h2 = rw (h1, h2) refl

rows_pass : (m : ℕ) (on first : Bool) (n : ℕ) (rows : List (List Place)) → first ≡ on → AllByRecursion (λ row. length row ≡ n) rows → fault_in_rows n first (numbered m (map (row_words on) rows)) ≡ None
unfolding fault_in_rows
rows_pass m on first n [] same h = refl
rows_pass m on first n (row ∷ rows) same h =
    nothing_in_front (at_line (record { number = m; words = row_words on row }) (fault_in_row n first (row_words on row))) (fault_in_rows n first (numbered (m + 1) (map (row_words on) rows)))
    (ap (λ x. at_line (record { number = m; words = row_words on row }) x) (row_passes on first n row same h.0))
    (rows_pass (m + 1) on first n rows same h.1)

all_rows_pass : (m : ℕ) (on : Bool) (n : ℕ) (rows : List (List Place)) → AllByRecursion (λ row. length row ≡ n) rows → fault_in_rows n (is_on (numbered m (map (row_words on) rows))) (numbered m (map (row_words on) rows)) ≡ None
unfolding fault_in_rows
all_rows_pass m on n [] h = refl
all_rows_pass m on n (row ∷ rows) h = rows_pass m on (output_of (row_words on row)) n (row ∷ rows) (output_back on row) h

-- gates

abbrev pub gate_name : List ℕ → Drive → List (List ℕ)
gate_name name input = []
gate_name name (latch next init) = []
gate_name name (gate pins cover) = name ∷ []

abbrev pub latch_name : List ℕ → Drive → List (List ℕ)
latch_name name input = []
latch_name name (latch next init) = name ∷ []
latch_name name (gate pins cover) = []

abbrev gates_in : List (List ℕ × Drive) → List (List ℕ)
gates_in xs = flat_map (λ s. gate_name s.0 s.1) xs

abbrev latches_in : List (List ℕ × Drive) → List (List ℕ)
latches_in xs = flat_map (λ s. latch_name s.0 s.1) xs

one_more_apart : (driven : List (List ℕ)) (name : List ℕ) (names : List (List ℕ)) → AreApart (driven ++ name ∷ names) → AreApart (driven ++ name ∷ []) × AreApart ((driven ++ name ∷ []) ++ names)
one_more_apart driven name names h =
    let all : AreApart ((driven ++ name ∷ []) ++ names) = subst AreApart (sym (append_assoc driven (name ∷ []) names)) h in
    (apart_front (driven ++ name ∷ []) names all, all)

gate_head_passes : (clock : Option Clock) (driven outs pins : List (List ℕ)) (name : List ℕ) (before : List Line) → length pins ≤ 255 → AreApart (driven ++ name ∷ []) → Before clock before driven outs → fault_in_head Names (earlier before) (pins ++ name ∷ []) ≡ None
gate_head_passes clock driven outs pins name before few apart b =
    let ws = pins ++ name ∷ [] in
    let size : length ws ≡ length pins + 1 = length-append pins (name ∷ []) in
    let count : has_bad_count Names ws ≡ false = ne_eqb (length ws) 0 (omega arith) in
    let pin_count : has_too_many_pins Names ws ≡ false = le-ltb 256 (length ws) (omega arith) in
    let once : repeats (over_lines drivers_in before) (drivers_in Names ws) ≡ false =
    ap (λ x. repeats x (last_of ws ∷ [])) b.drives ∙ ap (λ x. repeats driven (x ∷ [])) (last_back pins name) ∙ no_repeats driven (name ∷ []) apart in
    head_passes Names before ws refl refl b.no_end count pin_count once refl refl refl refl refl

gates_pass : (c : Plain) (clock : Option Clock) (driven outs : List (List ℕ)) (xs : List (List ℕ × Drive)) (ss : List Statement) → AllByRecursion (Fits c) xs → AreApart (driven ++ gates_in xs)
    → ((d : List (List ℕ)) → Passes clock d outs ss) → Passes clock driven outs (flat_map (λ s. gate_statements c s.0 s.1) xs ++ ss)
gates_pass c clock driven outs [] ss fits apart more = more driven
gates_pass c clock driven outs ((name, input) ∷ xs) ss fits apart more = gates_pass c clock driven outs xs ss fits.1 apart more
gates_pass c clock driven outs ((name, latch next init) ∷ xs) ss fits apart more = gates_pass c clock driven outs xs ss fits.1 apart more
gates_pass c clock driven outs ((name, gate pins cover) ∷ xs) ss fits apart more =
    let shape = fits.0.drive in
    let words = names_of c pins in
    let apart' = one_more_apart driven name (gates_in xs) apart in
    let few : length words ≤ 255 = omega (arith, length-map pins (λ s. name_of c s), shape.1) in
    let size : length (words ++ name ∷ []) - 1 ≡ length pins = omega (arith, length-append words (name ∷ []), length-map pins (λ s. name_of c s)) in
    let rest = flat_map (λ s. gate_statements c s.0 s.1) xs ++ ss in
    let last : last_of (words ++ name ∷ []) ≡ name = last_back words name in
    statement_passes clock driven outs (record { word = codes ".names"; further = words ++ name ∷ []; rows = map (row_words cover.on) cover.rows }) rest Names at_names
    (λ before b. gate_head_passes clock driven outs words name before few apart'.0 b)
    (λ m. ap (λ k. fault_in_rows k (is_on (numbered m (map (row_words cover.on) cover.rows))) (numbered m (map (row_words cover.on) cover.rows))) size ∙ all_rows_pass m cover.on (length pins) cover.rows shape.2)
    refl tt tt
    (let next : Passes clock (driven ++ name ∷ []) outs rest = gates_pass c clock (driven ++ name ∷ []) outs xs ss fits.1 apart'.1 more in
    let P : List (List ℕ) → Type 0 = λ d. Passes clock d (outs ++ []) rest in
    let Q : List (List ℕ) → Type 0 = λ o. Passes clock (driven ++ name ∷ []) o rest in
    subst P (ap (λ x. driven ++ x ∷ []) (sym last)) (subst Q (sym (append-nil outs)) next))

-- latches

latch_clocks : (a b : List ℕ) (clock : Option Clock) (init : Bool) → IfSome clock IsClockName → AllByRecursion (IsThisClock clock) (clocks_in Latch (latch_words a b clock init))
latch_clocks a b clock init h =
    let control : control_in (latch_words a b clock init) ≡ pair_of clock = (latch_tests a b clock init h).control in
    subst (λ x. AllByRecursion (IsThisClock clock) (option_to_list (option_map (λ words. words.1) x))) (sym control) (of_clock clock)
  where
    of_clock : (k : Option Clock) → AllByRecursion (IsThisClock k) (option_to_list (option_map (λ words. words.1) (pair_of k)))
    of_clock None = tt
    of_clock (Some k) = of_edge k.edge
      where
        of_edge : (edge : Option Edge) → AllByRecursion (IsThisClock (Some k)) (option_to_list (option_map (λ words. words.1) (pair_of (Some (record k { edge = edge })))))
        of_edge None = tt
        of_edge (Some edge) = (refl, tt)

latch_controls : (a b : List ℕ) (clock : Option Clock) (init : Bool) → IfSome clock IsClockName → AllByRecursion (λ x. x ≡ pair_of clock) (controls_in Latch (latch_words a b clock init))
latch_controls a b clock init h = ((latch_tests a b clock init h).control, tt)

or_false : (a b : Bool) → a ≡ false → b ≡ false → (a || b) ≡ false
or_false a b h k = rw (h, k) refl

latch_head_passes : (clock : Option Clock) (driven outs : List (List ℕ)) (a b : List ℕ) (init : Bool) (before : List Line) → IfSome clock IsClockName → AreApart (driven ++ b ∷ []) → Before clock before driven outs → fault_in_head Latch (earlier before) (latch_words a b clock init) ≡ None
latch_head_passes clock driven outs a b init before named apart be =
    let ws = latch_words a b clock init in
    let tests = latch_tests a b clock init named in
    let once : repeats (over_lines drivers_in before) (drivers_in Latch ws) ≡ false = ap (λ x. repeats x (b ∷ [])) be.drives ∙ no_repeats driven (b ∷ []) apart in
    let seen = option_to_list (slice_get (over_lines clocks_in before) 0) in
    let one_clock : differ (seen ++ clocks_in Latch ws) ≡ false =
    no_difference clock (seen ++ clocks_in Latch ws) (all_append (IsThisClock clock) seen (clocks_in Latch ws) (first_of_all (IsThisClock clock) (over_lines clocks_in before) be.clocks) (latch_clocks a b clock init named)) in
    let one_control : differs_from_first (slice_get (over_lines controls_in before) 0) (control_in ws) ≡ false =
    ap (λ x. differs_from_first (slice_get (over_lines controls_in before) 0) x) tests.control ∙ first_same (pair_of clock) (over_lines controls_in before) be.controls in
    head_passes Latch before ws refl refl be.no_end tests.count refl once refl tests.type tests.value tests.known
    (or_false (differ (seen ++ clocks_in Latch ws)) (differs_from_first (slice_get (over_lines controls_in before) 0) (control_in ws)) one_clock one_control)

latches_pass : (c : Plain) (driven outs : List (List ℕ)) (xs : List (List ℕ × Drive)) (ss : List Statement) → IfSome c.clock IsClockName → AreApart (driven ++ latches_in xs)
    → Passes c.clock (driven ++ latches_in xs) outs ss → Passes c.clock driven outs (flat_map (λ s. latch_statements c s.0 s.1) xs ++ ss)
latches_pass c driven outs [] ss named apart more = (let P : List (List ℕ) → Type 0 = λ d. Passes c.clock d outs ss in subst P (append-nil driven) more)
latches_pass c driven outs ((name, input) ∷ xs) ss named apart more = latches_pass c driven outs xs ss named apart more
latches_pass c driven outs ((name, gate pins cover) ∷ xs) ss named apart more = latches_pass c driven outs xs ss named apart more
latches_pass c driven outs ((name, latch next init) ∷ xs) ss named apart more =
    let apart' = one_more_apart driven name (latches_in xs) apart in
    let rest = flat_map (λ s. latch_statements c s.0 s.1) xs ++ ss in
    let P : List (List ℕ) → Type 0 = λ d. Passes c.clock d outs ss in
    let Q : List (List ℕ) → Type 0 = λ o. Passes c.clock (driven ++ name ∷ []) o rest in
    let then : Passes c.clock (driven ++ name ∷ []) outs rest =
    latches_pass c (driven ++ name ∷ []) outs xs ss named apart'.1 (subst P (sym (append_assoc driven (name ∷ []) (latches_in xs))) more) in
    statement_passes c.clock driven outs (plain_statement (codes ".latch") (latch_further c name next init)) rest Latch at_latch
    (λ before b. latch_head_passes c.clock driven outs (name_of c next) name init before named apart'.0 b)
    (λ m. refl) refl
    (latch_clocks (name_of c next) name c.clock init named) (latch_controls (name_of c next) name c.clock init named)
    (subst Q (sym (append-nil outs)) then)

-- the clock

clock_passes : (clock : Option Clock) (driven outs : List (List ℕ)) (ss : List Statement) → Passes clock driven outs ss → Passes clock driven outs (clock_statements clock ++ ss)
clock_passes None driven outs ss more = more
clock_passes (Some clock) driven outs ss more = by_declared clock.declared
  where
    by_declared : (b : Bool) → Passes (Some clock) driven outs (cond b (plain_statement (codes ".clock") (clock.name ∷ []) ∷ []) [] ++ ss)
    by_declared false = more
    by_declared true =
        (let P : List (List ℕ) → Type 0 = λ d. Passes (Some clock) d (outs ++ []) ss in
        let Q : List (List ℕ) → Type 0 = λ o. Passes (Some clock) driven o ss in
        statement_passes (Some clock) driven outs (plain_statement (codes ".clock") (clock.name ∷ [])) ss keyword.Clock at_clock
        (λ before b. head_passes keyword.Clock before (clock.name ∷ []) refl refl b.no_end refl refl refl refl refl refl refl
        (no_difference (Some clock) (option_to_list (slice_get (over_lines clocks_in before) 0) ++ clock.name ∷ [])
        (all_append (IsThisClock (Some clock)) (option_to_list (slice_get (over_lines clocks_in before) 0)) (clock.name ∷ []) (first_of_all (IsThisClock (Some clock)) (over_lines clocks_in before) b.clocks) (refl, tt))))
        (λ m. refl) refl (refl, tt) tt
        (subst P (sym (append-nil driven)) (subst Q (sym (append-nil outs)) more)))

-- the lines of inputs, of outputs and of the model

outputs_pass : (clock : Option Clock) (driven outs : List (List ℕ)) (ss : List Statement) → AreApart outs → Passes clock driven outs ss → Passes clock driven [] (plain_statement (codes ".outputs") outs ∷ ss)
outputs_pass clock driven outs ss apart more =
    let P : List (List ℕ) → Type 0 = λ d. Passes clock d outs ss in
    statement_passes clock driven [] (plain_statement (codes ".outputs") outs) ss Outputs at_outputs
    (λ before b. head_passes Outputs before outs refl refl b.no_end refl refl refl (ap (λ x. repeats x outs) b.outputs ∙ no_repeats [] outs apart) refl refl refl refl)
    (λ m. refl) refl tt tt (subst P (sym (append-nil driven)) more)

inputs_pass : (clock : Option Clock) (names : List (List ℕ)) (ss : List Statement) → AreApart names → Passes clock names [] ss → Passes clock [] [] (plain_statement (codes ".inputs") names ∷ ss)
inputs_pass clock names ss apart more =
    statement_passes clock [] [] (plain_statement (codes ".inputs") names) ss Inputs at_inputs
    (λ before b. head_passes Inputs before names refl refl b.no_end refl refl (ap (λ x. repeats x names) b.drives ∙ no_repeats [] names apart) refl refl refl refl refl)
    (λ m. refl) refl tt tt more

model_passes : (clock : Option Clock) (name : List ℕ) (ss : List Statement) (n : ℕ) → Passes clock [] [] ss → fault_in_blocks [] (blocks n (plain_statement (codes ".model") (name ∷ []) ∷ ss)) ≡ None
unfolding fault_in_blocks
model_passes clock name ss n more =
    let none : Before clock [] [] [] = record { no_end = refl; drives = refl; outputs = refl; clocks = tt; controls = tt } in
    nothing_in_front (fault_in_block (earlier []) (record { head = record { number = n; words = codes ".model" ∷ name ∷ [] }; rows = [] })) (fault_in_blocks (record { number = n; words = codes ".model" ∷ name ∷ [] } ∷ []) (blocks (n + 1 + 0) ss))
    (block_passes [] n (codes ".model") (name ∷ []) [] Model at_model (head_passes Model [] (name ∷ []) refl refl refl refl refl refl refl refl refl refl refl) refl)
    (more (n + 1 + 0) (record { number = n; words = codes ".model" ∷ name ∷ [] } ∷ []) (before_more clock [] [] [] n (codes ".model") (name ∷ []) Model none at_model refl tt tt))

-- What has to be apart: all names that are driven, in the order of the text, and the outputs.
pub record NamesApart (c : Plain) : Type 0 where
  pub driven : AreApart ((with_clock c.clock (input_names c) ++ latches_in (signals_of c)) ++ gates_in (signals_of c))
  pub outputs : AreApart (names_of c c.outputs)

statements_pass : (c : Plain) → IfSome c.clock IsClockName → AllByRecursion (Fits c) (signals_of c) → NamesApart c → (n : ℕ) → fault_in_blocks [] (blocks n (statements_of c)) ≡ None
statements_pass c named fits apart n =
    let xs = signals_of c in
    let ins = with_clock c.clock (input_names c) in
    let outs = names_of c c.outputs in
    let gates = flat_map (λ s. gate_statements c s.0 s.1) xs ++ end_statement ∷ [] in
    let latches = flat_map (λ s. latch_statements c s.0 s.1) xs ++ gates in
    let clocks = clock_statements c.clock ++ latches in
    let latched : AreApart (ins ++ latches_in xs) = apart_front (ins ++ latches_in xs) (gates_in xs) apart.driven in
    let gates_ok : Passes c.clock (ins ++ latches_in xs) outs gates = gates_pass c c.clock (ins ++ latches_in xs) outs xs (end_statement ∷ []) fits apart.driven (λ d. end_passes c.clock d outs) in
    let latches_ok : Passes c.clock ins outs latches = latches_pass c ins outs xs gates named latched gates_ok in
    let clocks_ok : Passes c.clock ins outs clocks = clock_passes c.clock ins outs latches latches_ok in
    let outputs_ok = outputs_pass c.clock ins outs clocks apart.outputs clocks_ok in
    let inputs_ok = inputs_pass c.clock ins (plain_statement (codes ".outputs") outs ∷ clocks) (apart_front ins (latches_in xs) latched) outputs_ok in
    model_passes c.clock c.model (plain_statement (codes ".inputs") ins ∷ plain_statement (codes ".outputs") outs ∷ clocks) n inputs_ok

-- No line of the statements is at fault.
pub no_fault_written : (c : Plain) → IfSome c.clock IsClockName → AllByRecursion (Fits c) (signals_of c) → NamesApart c → AllByRecursion IsStatement (statements_of c) → fault_of_lines (numbered 1 (flat_map lines_in (statements_of c))) ≡ None
no_fault_written c named fits apart statements =
    let lines = numbered 1 (flat_map lines_in (statements_of c)) in
    let front : take_while is_row lines ≡ [] = ap (λ k. take k lines) (no_row_first 1 (statements_of c) statements) in
    nothing_in_front (misplaced_first (take_while is_row lines)) (fault_in_blocks [] (blocks_of lines))
    (ap misplaced_first front)
    (ap (λ bs. fault_in_blocks [] bs) (blocks_back 1 (statements_of c) statements) ∙ statements_pass c named fits apart 1)
