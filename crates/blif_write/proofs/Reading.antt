-- What the statements that are written say, and that no line of them is at fault.
use Rattle.std.proofs.Common.{◌≡◌, ◌≢◌, ℕ, ◌+◌, ◌-◌, ◌++◌, List, [], ◌∷◌, Bool, true, false, cond, length, get_or, map, take, Some, None, Option, refl, ap, ◌∙◌, subst, arith, length-append}
use Rattle.std.specs.Prelude.{codes, IfSome, IsSome, bytes_eq, option_map}
use Rattle.std.specs.Bool.{Decides}
use Rattle.std.specs.List.{flat_map, filter_map, AllByRecursion}
use Rattle.std.proofs.lemmas.List.{append-nil}
use Rattle.std.proofs.lemmas.Slice.Eq.{bytes_eq-Decides}
use Rattle.std.proofs.Math.Seq.{get_or-append_seam}
use Rattle.tm_bits.specs.declared.cover.Place.{Place}
use Rattle.tm_bits.specs.declared.cover.Place.TheVariants.{Zero, One, Any}
use Rattle.tm_bits.specs.Rows.{Rows, IsEven}
use Rattle.tm_circuit.specs.declared.parts.Clock.{Clock}
use Rattle.tm_circuit.specs.declared.parts.Edge.{Edge}
use Rattle.tm_circuit.specs.declared.parts.Edge.TheVariants.{Rise, Fall}
use Rattle.tm_circuit.specs.Plain.{Plain, Drive}
use Rattle.tm_circuit.specs.Plain as plain
use Rattle.tm_circuit.specs.Sound.{IsClockName}
use Rattle.blif_lex.specs.Words.{Line}
use Rattle.blif_read.specs.declared.unit.Control.{Control}
use Rattle.blif_read.specs.declared.keyword.Keyword.{Keyword}
use Rattle.blif_read.specs.declared.keyword.Keyword.TheVariants.{Model, Inputs, Outputs, Names, Latch, End}
use Rattle.blif_read.specs.declared.keyword.Keyword.TheVariants as keyword
use Rattle.blif_read.specs.Keyword.{keyword_at, left_out}
use Rattle.blif_read.specs.Unit.{Told}
use Rattle.blif_read.specs.Unit as told
use Rattle.blif_read.specs.Statement.{last_of, but_last, telling_in, told_in, is_on, places_of, place_of, cover_of, has_bad_count, has_bad_type, has_bad_init, has_unknown_init, control_in, init_of, edge_of}
use Rattle.tm_circuit.specs.Same.{input_names}
use Rattle.blif_write.specs.Text.{signals_of, name_of, names_of, with_clock, control_words, edge_word, bit_word, place_byte, row_words}
use Rattle.blif_write.proofs.Lexing.{numbered}
use Rattle.blif_write.proofs.Blocks.{Statement, blocks}
use Rattle.blif_write.proofs.Statements.{plain_statement, clock_statements, latch_statements, latch_further, gate_statements, end_statement, statements_of, Fits}
use Rattle.blif_write.proofs.Lists.{take_front}

-- ---- keywords

pub at_model : keyword_at (codes ".model") ≡ Model
unfolding keyword_at left_out
at_model = refl

pub at_inputs : keyword_at (codes ".inputs") ≡ Inputs
unfolding keyword_at left_out
at_inputs = refl

pub at_outputs : keyword_at (codes ".outputs") ≡ Outputs
unfolding keyword_at left_out
at_outputs = refl

pub at_clock : keyword_at (codes ".clock") ≡ keyword.Clock
unfolding keyword_at left_out
at_clock = refl

pub at_latch : keyword_at (codes ".latch") ≡ Latch
unfolding keyword_at left_out
at_latch = refl

pub at_names : keyword_at (codes ".names") ≡ Names
unfolding keyword_at left_out
at_names = refl

pub at_end : keyword_at (codes ".end") ≡ End
unfolding keyword_at left_out
at_end = refl

-- ---- words of a line

-- The last of some words, and those before it.
pub last_back : (ws : List (List ℕ)) (w : List ℕ) → last_of (ws ++ w ∷ []) ≡ w
last_back ws w =
    let size : length (ws ++ w ∷ []) - 1 ≡ length ws = omega (arith, length-append ws (w ∷ [])) in
    ap (λ n. get_or (ws ++ w ∷ []) n []) size ∙ get_or-append_seam ws w [] []

pub front_back : (ws : List (List ℕ)) (w : List ℕ) → but_last (ws ++ w ∷ []) ≡ ws
front_back ws w =
    let size : length (ws ++ w ∷ []) - 1 ≡ length ws = omega (arith, length-append ws (w ∷ [])) in
    ap (λ n. take n (ws ++ w ∷ [])) size ∙ take_front ws (w ∷ [])

-- ---- rows

pub row_last : (on : Bool) (ps : List Place) → last_of (row_words on ps) ≡ bit_word on
row_last on [] = refl
row_last on (p ∷ ps) = refl

places_same : (ps : List Place) → map place_of (map place_byte ps) ≡ ps
places_same [] = refl
places_same (Zero ∷ ps) = ap (λ rest. Zero ∷ rest) (places_same ps)
places_same (One ∷ ps) = ap (λ rest. One ∷ rest) (places_same ps)
places_same (Any ∷ ps) = ap (λ rest. Any ∷ rest) (places_same ps)

row_places : (on : Bool) (ps : List Place) → places_of (row_words on ps) ≡ ps
row_places on [] = refl
row_places on (p ∷ ps) = places_same (p ∷ ps)

rows_same : (m : ℕ) (on : Bool) (rows : List (List Place)) → map (λ row. places_of row.words) (numbered m (map (row_words on) rows)) ≡ rows
rows_same m on [] = refl
rows_same m on (row ∷ rows) = ap (λ x. x ∷ map (λ r. places_of r.words) (numbered (m + 1) (map (row_words on) rows))) (row_places on row) ∙ ap (λ xs. row ∷ xs) (rows_same (m + 1) on rows)

on_of_bit : (on : Bool) → bytes_eq (bit_word on) (codes "1") ≡ on
on_of_bit true = refl
on_of_bit false = refl

on_same : (m : ℕ) (on : Bool) (rows : List (List Place)) → (on ≡ false → rows ≢ []) → is_on (numbered m (map (row_words on) rows)) ≡ on
on_same m true [] some = refl
on_same m false [] some = absurd (some refl refl)
on_same m on (row ∷ rows) some = ap (λ w. bytes_eq w (codes "1")) (row_last on row) ∙ on_of_bit on

pub cover_back : (m : ℕ) (cover : Rows) → IsEven cover → cover_of (numbered m (map (row_words cover.on) cover.rows)) ≡ cover
cover_back m cover even =
    let on : is_on (numbered m (map (row_words cover.on) cover.rows)) ≡ cover.on = on_same m cover.on cover.rows even.off_has_row in
    let rows : map (λ row. places_of row.words) (numbered m (map (row_words cover.on) cover.rows)) ≡ cover.rows = rows_same m cover.on cover.rows in
    rw (on, rows) refl

-- ---- what is told

-- The control that each latch tells, where the clock has an edge.
abbrev pub control_of : Option Clock → Option Control
control_of None = None
control_of (Some clock) = of_edge clock.edge
  where
    of_edge : Option Edge → Option Control
    of_edge None = None
    of_edge (Some edge) = Some (record { name = clock.name; edge = edge })

abbrev pub clock_told : Option Clock → List Told
clock_told None = []
clock_told (Some clock) = cond clock.declared (told.clock (clock.name ∷ []) ∷ []) []

abbrev pub latch_told : Plain → List ℕ → Drive → List Told
latch_told c name plain.input = []
latch_told c name (plain.latch next init) = told.latch (name_of c next) name init (control_of c.clock) ∷ []
latch_told c name (plain.gate pins cover) = []

abbrev pub gate_told : Plain → List ℕ → Drive → List Told
gate_told c name plain.input = []
gate_told c name (plain.latch next init) = []
gate_told c name (plain.gate pins cover) = told.gate (names_of c pins) name cover ∷ []

abbrev pub told_by : Plain → List Told
told_by c = told.inputs (with_clock c.clock (input_names c)) ∷ told.outputs (names_of c c.outputs)
    ∷ (clock_told c.clock ++ (flat_map (λ s. latch_told c s.0 s.1) (signals_of c) ++ flat_map (λ s. gate_told c s.0 s.1) (signals_of c)))

-- The statements tell this, whatever their numbers.
abbrev Tells : List Statement → List Told → Type 0
Tells ss ts = (n : ℕ) → map (λ t. t.what) (filter_map telling_in (blocks n ss)) ≡ ts

-- One more statement, which tells something or nothing.
tells_more : (s : Statement) (t : Told) (ss : List Statement) (ts : List Told) → ((m : ℕ) → told_in (keyword_at s.word) s.further (numbered m s.rows) ≡ Some t) → Tells ss ts → Tells (s ∷ ss) (t ∷ ts)
tells_more s t ss ts here more n =
    let e : told_in (keyword_at s.word) s.further (numbered (n + 1) s.rows) ≡ Some t = here (n + 1) in
    rw e (ap (λ xs. t ∷ xs) (more (n + 1 + length s.rows)))

tells_no_more : (s : Statement) (ss : List Statement) (ts : List Told) → ((m : ℕ) → told_in (keyword_at s.word) s.further (numbered m s.rows) ≡ None) → Tells ss ts → Tells (s ∷ ss) ts
tells_no_more s ss ts here more n =
    let e : told_in (keyword_at s.word) s.further (numbered (n + 1) s.rows) ≡ None = here (n + 1) in
    rw e (more (n + 1 + length s.rows))

pub bit_told : (b : Bool) → bytes_eq (bit_word b) (codes "1") ≡ b
bit_told true = refl
bit_told false = refl

-- ---- tests of the words of a latch

pub ne_bytes : (xs ys : List ℕ) → xs ≢ ys → bytes_eq xs ys ≡ false
ne_bytes xs ys ne = by_value (bytes_eq xs ys) (bytes_eq-Decides xs ys)
  where
    by_value : (b : Bool) → Decides b (xs ≡ ys) → b ≡ false
    by_value true d = absurd (ne (d.0 refl))
    by_value false d = refl

pub same_bytes : (xs ys : List ℕ) → xs ≡ ys → bytes_eq xs ys ≡ true
same_bytes xs ys e = (bytes_eq-Decides xs ys).1 e

-- The words of a latch's control, where it has one.
abbrev pub pair_of : Option Clock → Option (List ℕ × List ℕ)
pair_of None = None
pair_of (Some clock) = of_edge clock.edge
  where
    of_edge : Option Edge → Option (List ℕ × List ℕ)
    of_edge None = None
    of_edge (Some edge) = Some (edge_word edge, clock.name)

-- What the rules on a latch find.
pub record LatchTests (ws : List (List ℕ)) (clock : Option Clock) (bit : Bool) : Type 0 where
  pub count : has_bad_count Latch ws ≡ false
  pub type : has_bad_type Latch ws ≡ false
  pub value : has_bad_init Latch ws ≡ false
  pub known : has_unknown_init Latch ws ≡ false
  pub control : control_in ws ≡ pair_of clock
  pub init : init_of ws ≡ bit

abbrev pub latch_words : List ℕ → List ℕ → Option Clock → Bool → List (List ℕ)
latch_words a b clock init = a ∷ b ∷ control_words clock ++ bit_word init ∷ []

pub latch_tests : (a b : List ℕ) (clock : Option Clock) (init : Bool) → IfSome clock IsClockName → LatchTests (latch_words a b clock init) clock init
latch_tests a b None true h = record { count = refl; type = refl; value = refl; known = refl; control = refl; init = refl }
latch_tests a b None false h = record { count = refl; type = refl; value = refl; known = refl; control = refl; init = refl }
latch_tests a b (Some clock) init h = by_edge clock.edge init h.not_nil
  where
    by_edge : (edge : Option Edge) (bit : Bool) → (IsSome edge → clock.name ≢ codes "NIL") → LatchTests (latch_words a b (Some (record clock { edge = edge })) bit) (Some (record clock { edge = edge })) bit
    by_edge None true k = record { count = refl; type = refl; value = refl; known = refl; control = refl; init = refl }
    by_edge None false k = record { count = refl; type = refl; value = refl; known = refl; control = refl; init = refl }
    by_edge (Some Rise) true k = let e : bytes_eq clock.name (codes "NIL") ≡ false = ne_bytes clock.name (codes "NIL") (k refl) in record { count = refl; type = refl; value = refl; known = refl; control = rw e refl; init = refl }
    by_edge (Some Rise) false k = let e : bytes_eq clock.name (codes "NIL") ≡ false = ne_bytes clock.name (codes "NIL") (k refl) in record { count = refl; type = refl; value = refl; known = refl; control = rw e refl; init = refl }
    by_edge (Some Fall) true k = let e : bytes_eq clock.name (codes "NIL") ≡ false = ne_bytes clock.name (codes "NIL") (k refl) in record { count = refl; type = refl; value = refl; known = refl; control = rw e refl; init = refl }
    by_edge (Some Fall) false k = let e : bytes_eq clock.name (codes "NIL") ≡ false = ne_bytes clock.name (codes "NIL") (k refl) in record { count = refl; type = refl; value = refl; known = refl; control = rw e refl; init = refl }

control_told : (clock : Option Clock) → option_map (λ words. record { name = words.1; edge = edge_of words.0 }) (pair_of clock) ≡ control_of clock
control_told None = refl
control_told (Some clock) = by_edge clock.edge
  where
    by_edge : (edge : Option Edge) → option_map (λ words. record { name = words.1; edge = edge_of words.0 }) (pair_of (Some (record clock { edge = edge }))) ≡ control_of (Some (record clock { edge = edge }))
    by_edge None = refl
    by_edge (Some Rise) = refl
    by_edge (Some Fall) = refl

-- The statement of a latch tells the latch.
latch_tells : (a b : List ℕ) (clock : Option Clock) (init : Bool) → IfSome clock IsClockName → (rows : List Line) → told_in Latch (latch_words a b clock init) rows ≡ Some (told.latch a b init (control_of clock))
latch_tells a b clock init h rows =
    let tests = latch_tests a b clock init h in
    let control = ap (λ x. option_map (λ words. record { name = words.1; edge = edge_of words.0 }) x) tests.control ∙ control_told clock in
    ap (λ x. Some (told.latch a b x (option_map (λ words. record { name = words.1; edge = edge_of words.0 }) (control_in (latch_words a b clock init))))) tests.init
    ∙ ap (λ x. Some (told.latch a b init x)) control

gate_tells : (pins : List (List ℕ)) (name : List ℕ) (cover : Rows) (m : ℕ) → IsEven cover → told_in Names (pins ++ name ∷ []) (numbered m (map (row_words cover.on) cover.rows)) ≡ Some (told.gate pins name cover)
gate_tells pins name cover m even =
    let rows = numbered m (map (row_words cover.on) cover.rows) in
    ap (λ x. Some (told.gate x (last_of (pins ++ name ∷ [])) (cover_of rows))) (front_back pins name)
    ∙ ap (λ x. Some (told.gate pins x (cover_of rows))) (last_back pins name)
    ∙ ap (λ x. Some (told.gate pins name x)) (cover_back m cover even)

told_at : (word : List ℕ) (k : Keyword) (ws : List (List ℕ)) (rows : List Line) (t : Option Told) → keyword_at word ≡ k → told_in k ws rows ≡ t → told_in (keyword_at word) ws rows ≡ t
told_at word k ws rows t at is = ap (λ x. told_in x ws rows) at ∙ is

latches_tell : (c : Plain) → IfSome c.clock IsClockName → (xs : List (List ℕ × Drive)) (ss : List Statement) (ts : List Told) → Tells ss ts → Tells (flat_map (λ s. latch_statements c s.0 s.1) xs ++ ss) (flat_map (λ s. latch_told c s.0 s.1) xs ++ ts)
latches_tell c h [] ss ts more = more
latches_tell c h ((name, plain.input) ∷ xs) ss ts more = latches_tell c h xs ss ts more
latches_tell c h ((name, plain.latch next init) ∷ xs) ss ts more =
    tells_more (plain_statement (codes ".latch") (latch_further c name next init)) (told.latch (name_of c next) name init (control_of c.clock)) (flat_map (λ s. latch_statements c s.0 s.1) xs ++ ss) (flat_map (λ s. latch_told c s.0 s.1) xs ++ ts)
    (λ m. told_at (codes ".latch") Latch (latch_further c name next init) [] (Some (told.latch (name_of c next) name init (control_of c.clock))) at_latch (latch_tells (name_of c next) name c.clock init h []))
    (latches_tell c h xs ss ts more)
latches_tell c h ((name, plain.gate pins cover) ∷ xs) ss ts more = latches_tell c h xs ss ts more

gates_tell : (c : Plain) (xs : List (List ℕ × Drive)) (ss : List Statement) (ts : List Told) → AllByRecursion (Fits c) xs → Tells ss ts → Tells (flat_map (λ s. gate_statements c s.0 s.1) xs ++ ss) (flat_map (λ s. gate_told c s.0 s.1) xs ++ ts)
gates_tell c [] ss ts h more = more
gates_tell c ((name, plain.input) ∷ xs) ss ts h more = gates_tell c xs ss ts h.1 more
gates_tell c ((name, plain.latch next init) ∷ xs) ss ts h more = gates_tell c xs ss ts h.1 more
gates_tell c ((name, plain.gate pins cover) ∷ xs) ss ts h more =
    let fits = h.0.drive in
    tells_more (record { word = codes ".names"; further = names_of c pins ++ name ∷ []; rows = map (row_words cover.on) cover.rows }) (told.gate (names_of c pins) name cover) (flat_map (λ s. gate_statements c s.0 s.1) xs ++ ss) (flat_map (λ s. gate_told c s.0 s.1) xs ++ ts)
    (λ m. told_at (codes ".names") Names (names_of c pins ++ name ∷ []) (numbered m (map (row_words cover.on) cover.rows)) (Some (told.gate (names_of c pins) name cover)) at_names (gate_tells (names_of c pins) name cover m fits.3))
    (gates_tell c xs ss ts h.1 more)

clocks_tell : (clock : Option Clock) (ss : List Statement) (ts : List Told) → Tells ss ts → Tells (clock_statements clock ++ ss) (clock_told clock ++ ts)
clocks_tell None ss ts more = more
clocks_tell (Some clock) ss ts more = by_declared clock.declared
  where
    by_declared : (b : Bool) → Tells (cond b (plain_statement (codes ".clock") (clock.name ∷ []) ∷ []) [] ++ ss) (cond b (told.clock (clock.name ∷ []) ∷ []) [] ++ ts)
    by_declared true = tells_more (plain_statement (codes ".clock") (clock.name ∷ [])) (told.clock (clock.name ∷ [])) ss ts (λ m. told_at (codes ".clock") keyword.Clock (clock.name ∷ []) [] (Some (told.clock (clock.name ∷ []))) at_clock refl) more
    by_declared false = more

-- The statements of a circuit tell what it is.
pub circuit_tells : (c : Plain) → IfSome c.clock IsClockName → AllByRecursion (Fits c) (signals_of c) → Tells (statements_of c) (told_by c)
circuit_tells c h fits =
    let xs = signals_of c in
    let latches = flat_map (λ s. latch_statements c s.0 s.1) xs in
    let gates = flat_map (λ s. gate_statements c s.0 s.1) xs in
    let last = end_statement ∷ [] in
    let latches' = flat_map (λ s. latch_told c s.0 s.1) xs in
    let gates' = flat_map (λ s. gate_told c s.0 s.1) xs in
    let end : Tells last [] = tells_no_more end_statement [] [] (λ m. told_at (codes ".end") End [] [] None at_end refl) (λ n. refl) in
    let with_gates : Tells (gates ++ last) gates' = (let e : gates' ++ [] ≡ gates' = append-nil gates' in subst (λ ts. Tells (gates ++ last) ts) e (gates_tell c xs last [] fits end)) in
    let with_latches : Tells (latches ++ (gates ++ last)) (latches' ++ gates') = latches_tell c h xs (gates ++ last) gates' with_gates in
    let with_clock' : Tells (clock_statements c.clock ++ (latches ++ (gates ++ last))) (clock_told c.clock ++ (latches' ++ gates')) = clocks_tell c.clock (latches ++ (gates ++ last)) (latches' ++ gates') with_latches in
    let inputs = with_clock c.clock (input_names c) in
    let outputs = names_of c c.outputs in
    let rest = clock_statements c.clock ++ (latches ++ (gates ++ last)) in
    let rest' = clock_told c.clock ++ (latches' ++ gates') in
    let with_outputs : Tells (plain_statement (codes ".outputs") outputs ∷ rest) (told.outputs outputs ∷ rest') =
    tells_more (plain_statement (codes ".outputs") outputs) (told.outputs outputs) rest rest' (λ m. told_at (codes ".outputs") Outputs outputs [] (Some (told.outputs outputs)) at_outputs refl) with_clock' in
    let with_inputs : Tells (plain_statement (codes ".inputs") inputs ∷ plain_statement (codes ".outputs") outputs ∷ rest) (told.inputs inputs ∷ told.outputs outputs ∷ rest') =
    tells_more (plain_statement (codes ".inputs") inputs) (told.inputs inputs) (plain_statement (codes ".outputs") outputs ∷ rest) (told.outputs outputs ∷ rest') (λ m. told_at (codes ".inputs") Inputs inputs [] (Some (told.inputs inputs)) at_inputs refl) with_outputs in
    tells_no_more (plain_statement (codes ".model") (c.model ∷ [])) (plain_statement (codes ".inputs") inputs ∷ plain_statement (codes ".outputs") outputs ∷ rest) (told.inputs inputs ∷ told.outputs outputs ∷ rest') (λ m. told_at (codes ".model") Model (c.model ∷ []) [] None at_model refl) with_inputs
