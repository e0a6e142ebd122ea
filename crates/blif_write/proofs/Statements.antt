-- The statements of a circuit that are written, and that their words are lawful.
use Rattle.std.proofs.Common.{◌≡◌, ℕ, ◌<◌, ◌≤◌, ◌++◌, List, [], ◌∷◌, Bool, true, false, not, ◌&&◌, cond, eqb, leb, length, map, zip, Some, None, Option, refl, sym, ap, ◌∙◌, subst, arith, append_assoc, take, drop}
use Rattle.std.specs.Prelude.{codes, IfSome}
use Rattle.std.specs.List.{flat_map, list_all, AllByRecursion}
use Rattle.std.proofs.lemmas.Bool.{leb-true, eqb-false}
use Rattle.std.proofs.lemmas.List.{length-map}
use Rattle.std.proofs.lemmas.List.Elements.{recursion_from_All}
use Rattle.std.proofs.lemmas.Grind.{flat_map-append}
use Rattle.tm_bits.specs.declared.cover.Place.{Place}
use Rattle.tm_bits.specs.declared.cover.Place.TheVariants.{Zero, One, Any}
use Rattle.tm_bits.specs.Rows.{IsEven}
use Rattle.tm_circuit.specs.declared.parts.Clock.{Clock}
use Rattle.tm_circuit.specs.declared.parts.Edge.{Edge}
use Rattle.tm_circuit.specs.declared.parts.Edge.TheVariants.{Rise, Fall}
use Rattle.tm_circuit.specs.Plain.{Plain, Drive, input, latch, gate}
use Rattle.tm_circuit.specs.Sound.{IsSound, IsNameByte, IsName, IsClockName, ReadsBelow, FitsPins}
use Rattle.blif_read.specs.Keyword.{keyword_at, left_out}
use Rattle.blif_read.specs.Statement.{begins_row}
use Rattle.tm_circuit.specs.Same.{input_names}
use Rattle.blif_write.proofs.Order.{input_name, input_names_flat}
use Rattle.blif_write.specs.Even.{IsEvenDrive}
use Rattle.blif_write.specs.Text.{signals_of, name_of, names_of, with_clock, clock_lines, control_words, bit_word, latch_lines, gate_lines, place_byte, row_words, all_lines, written_lines}
use Rattle.blif_write.proofs.Lexing.{IsWord, IsLine, IsKeptFirst}
use Rattle.blif_write.proofs.Blocks.{Statement, lines_in, IsStatement, HasRow}
use Rattle.blif_write.proofs.Lists.{all_append, all_take, all_drop}

-- ---- the statements

abbrev pub plain_statement : List ℕ → List (List ℕ) → Statement
plain_statement word further = record { word = word; further = further; rows = [] }

abbrev pub clock_statements : Option Clock → List Statement
clock_statements None = []
clock_statements (Some clock) = cond clock.declared (plain_statement (codes ".clock") (clock.name ∷ []) ∷ []) []

abbrev pub latch_further : Plain → List ℕ → ℕ → Bool → List (List ℕ)
latch_further c name next init = name_of c next ∷ name ∷ control_words c.clock ++ bit_word init ∷ []

abbrev pub latch_statements : Plain → List ℕ → Drive → List Statement
latch_statements c name input = []
latch_statements c name (latch next init) = plain_statement (codes ".latch") (latch_further c name next init) ∷ []
latch_statements c name (gate pins cover) = []

abbrev pub gate_statements : Plain → List ℕ → Drive → List Statement
gate_statements c name input = []
gate_statements c name (latch next init) = []
gate_statements c name (gate pins cover) = record { word = codes ".names"; further = names_of c pins ++ name ∷ []; rows = map (row_words cover.on) cover.rows } ∷ []

abbrev pub end_statement : Statement
end_statement = plain_statement (codes ".end") []

abbrev pub statements_of : Plain → List Statement
statements_of c =
    plain_statement (codes ".model") (c.model ∷ []) ∷ plain_statement (codes ".inputs") (with_clock c.clock (input_names c)) ∷ plain_statement (codes ".outputs") (names_of c c.outputs)
    ∷ (clock_statements c.clock ++ (flat_map (λ s. latch_statements c s.0 s.1) (signals_of c) ++ (flat_map (λ s. gate_statements c s.0 s.1) (signals_of c) ++ end_statement ∷ [])))

clock_same : (clock : Option Clock) → flat_map lines_in (clock_statements clock) ≡ clock_lines clock
clock_same None = refl
clock_same (Some clock) = by_declared clock.declared
  where
    by_declared : (b : Bool) → flat_map lines_in (cond b (plain_statement (codes ".clock") (clock.name ∷ []) ∷ []) []) ≡ cond b ((codes ".clock" ∷ clock.name ∷ []) ∷ []) []
    by_declared true = refl
    by_declared false = refl

latches_same : (c : Plain) (xs : List (List ℕ × Drive)) → flat_map lines_in (flat_map (λ s. latch_statements c s.0 s.1) xs) ≡ flat_map (λ s. latch_lines c s.0 s.1) xs
latches_same c [] = refl
latches_same c ((name, input) ∷ xs) = latches_same c xs
latches_same c ((name, latch next init) ∷ xs) = ap (λ ls. (codes ".latch" ∷ latch_further c name next init) ∷ ls) (latches_same c xs)
latches_same c ((name, gate pins cover) ∷ xs) = latches_same c xs

gates_same : (c : Plain) (xs : List (List ℕ × Drive)) → flat_map lines_in (flat_map (λ s. gate_statements c s.0 s.1) xs) ≡ flat_map (λ s. gate_lines c s.0 s.1) xs
gates_same c [] = refl
gates_same c ((name, input) ∷ xs) = gates_same c xs
gates_same c ((name, latch next init) ∷ xs) = gates_same c xs
gates_same c ((name, gate pins cover) ∷ xs) = ap (λ ls. ((codes ".names" ∷ names_of c pins ++ name ∷ []) ∷ map (row_words cover.on) cover.rows) ++ ls) (gates_same c xs)

-- The lines written are those of the statements.
pub statements_same : (c : Plain) → flat_map lines_in (statements_of c) ≡ written_lines c
statements_same c =
    let clocks = clock_statements c.clock in
    let latches = flat_map (λ s. latch_statements c s.0 s.1) (signals_of c) in
    let gates = flat_map (λ s. gate_statements c s.0 s.1) (signals_of c) in
    let last = end_statement ∷ [] in
    let e1 : flat_map lines_in (gates ++ last) ≡ all_lines gate_lines c ++ (codes ".end" ∷ []) ∷ [] =
    flat_map-append lines_in gates last ∙ ap (λ ls. ls ++ (codes ".end" ∷ []) ∷ []) (gates_same c (signals_of c)) in
    let e2 : flat_map lines_in (latches ++ (gates ++ last)) ≡ all_lines latch_lines c ++ (all_lines gate_lines c ++ (codes ".end" ∷ []) ∷ []) =
    flat_map-append lines_in latches (gates ++ last) ∙ ap (λ ls. ls ++ flat_map lines_in (gates ++ last)) (latches_same c (signals_of c)) ∙ ap (λ ls. all_lines latch_lines c ++ ls) e1 in
    let e3 : flat_map lines_in (clocks ++ (latches ++ (gates ++ last))) ≡ clock_lines c.clock ++ (all_lines latch_lines c ++ (all_lines gate_lines c ++ (codes ".end" ∷ []) ∷ [])) =
    flat_map-append lines_in clocks (latches ++ (gates ++ last)) ∙ ap (λ ls. ls ++ flat_map lines_in (latches ++ (gates ++ last))) (clock_same c.clock) ∙ ap (λ ls. clock_lines c.clock ++ ls) e2 in
    let e4 : clock_lines c.clock ++ (all_lines latch_lines c ++ (all_lines gate_lines c ++ (codes ".end" ∷ []) ∷ [])) ≡ clock_lines c.clock ++ all_lines latch_lines c ++ all_lines gate_lines c ++ (codes ".end" ∷ []) ∷ [] =
    sym (append_assoc (clock_lines c.clock) (all_lines latch_lines c) (all_lines gate_lines c ++ (codes ".end" ∷ []) ∷ [])) ∙ sym (append_assoc (clock_lines c.clock ++ all_lines latch_lines c) (all_lines gate_lines c) ((codes ".end" ∷ []) ∷ [])) in
    ap (λ ls. (codes ".model" ∷ c.model ∷ []) ∷ (codes ".inputs" ∷ with_clock c.clock (input_names c)) ∷ (codes ".outputs" ∷ names_of c c.outputs) ∷ ls) (e3 ∙ e4)

-- ---- lawful words

and_true : (a b : Bool) → (a && b) ≡ true → (a ≡ true) × (b ≡ true)
and_true true b h = (refl, h)
and_true false b h = absurd (cc)

not_true : (b : Bool) → not b ≡ true → b ≡ false
not_true true h = absurd (cc)
not_true false h = refl

abbrev is_name_byte : ℕ → Bool
is_name_byte b = leb 33 b && (leb b 126 && (not (eqb b 35) && not (eqb b 92)))

name_byte_of : (b : ℕ) → is_name_byte b ≡ true → IsNameByte b
name_byte_of b h =
    let first = and_true (leb 33 b) (leb b 126 && (not (eqb b 35) && not (eqb b 92))) h in
    let second = and_true (leb b 126) (not (eqb b 35) && not (eqb b 92)) first.1 in
    let third = and_true (not (eqb b 35)) (not (eqb b 92)) second.1 in
    (leb-true 33 b first.0, leb-true b 126 second.0, eqb-false b 35 (not_true (eqb b 35) third.0), eqb-false b 92 (not_true (eqb b 92) third.1))

bytes_of_test : (w : List ℕ) → list_all is_name_byte w ≡ true → AllByRecursion IsNameByte w
bytes_of_test [] h = tt
bytes_of_test (b ∷ bs) h = let parts = and_true (is_name_byte b) (list_all is_name_byte bs) h in (name_byte_of b parts.0, bytes_of_test bs parts.1)

-- A word that passes the tests, as each keyword does.
abbrev passes : List ℕ → Bool
passes w = leb 1 (length w) && (leb (length w) 1023 && list_all is_name_byte w)

word_of_test : (w : List ℕ) → passes w ≡ true → IsWord w
word_of_test w h =
    let first = and_true (leb 1 (length w)) (leb (length w) 1023 && list_all is_name_byte w) h in
    let second = and_true (leb (length w) 1023) (list_all is_name_byte w) first.1 in
    record { some = leb-true 1 (length w) first.0; short = leb-true (length w) 1023 second.0; bytes = bytes_of_test w second.1 }

word_of_name : (w : List ℕ) → IsName w → IsWord w
word_of_name w h = record { some = h.some; short = h.short; bytes = recursion_from_All IsNameByte w h.lawful }

bit_is_word : (b : Bool) → IsWord (bit_word b)
bit_is_word true = word_of_test (codes "1") refl
bit_is_word false = word_of_test (codes "0") refl

place_bytes : (ps : List Place) → AllByRecursion IsNameByte (map place_byte ps)
place_bytes [] = tt
place_bytes (Zero ∷ ps) = (name_byte_of 48 refl, place_bytes ps)
place_bytes (One ∷ ps) = (name_byte_of 49 refl, place_bytes ps)
place_bytes (Any ∷ ps) = (name_byte_of 45 refl, place_bytes ps)

-- ---- what each signal has

abbrev pub FitsDrive : Plain → Drive → Type 0
FitsDrive c input = Unit {0}
FitsDrive c (latch next init) = next < length c.names
FitsDrive c (gate pins cover) = AllByRecursion (λ p. p < length c.names) pins × (length pins ≤ 255) × AllByRecursion (λ row. length row ≡ length pins) cover.rows × IsEven cover

-- A signal with a lawful name and a drive that fits.
pub record Fits (c : Plain) (s : List ℕ × Drive) : Type 0 where
  pub name : IsWord s.0
  pub drive : FitsDrive c s.1

fits_drive : (c : Plain) (n : ℕ) (d : Drive) → n ≡ length c.names → ReadsBelow n d → FitsPins d → IsEvenDrive d → FitsDrive c d
fits_drive c n input e r f v = tt
fits_drive c n (latch next init) e r f v = omega arith
fits_drive c n (gate pins cover) e r f v =
    let P : ℕ → Type 0 = λ m. AllByRecursion (λ p. p < m) pins in
    (subst P e (recursion_from_All (λ p. p < n) pins r), f.0, recursion_from_All (λ row. length row ≡ length pins) cover.rows f.1, v)

fits_drives : (c : Plain) (n : ℕ) (names : List (List ℕ)) (ds : List Drive) → n ≡ length c.names → AllByRecursion IsName names → AllByRecursion (ReadsBelow n) ds → AllByRecursion FitsPins ds → AllByRecursion IsEvenDrive ds → AllByRecursion (Fits c) (zip names ds)
fits_drives c n [] ds e named r f v = tt
fits_drives c n (name ∷ names) [] e named r f v = tt
fits_drives c n (name ∷ names) (d ∷ ds) e named r f v =
    (record { name = word_of_name name named.0; drive = fits_drive c n d e r.0 f.0 v.0 }, fits_drives c n names ds e named.1 r.1 f.1 v.1)

pub fits_of : (c : Plain) → IsSound c → AllByRecursion IsEvenDrive c.drives → AllByRecursion (Fits c) (signals_of c)
fits_of c sound even =
    fits_drives c (length c.drives) c.names c.drives (sym sound.named)
    (recursion_from_All IsName c.names sound.names.signals)
    (recursion_from_All (ReadsBelow (length c.drives)) c.drives sound.range.reads)
    (recursion_from_All FitsPins c.drives sound.range.pins) even

name_is_word : (c : Plain) → IsSound c → (s : ℕ) → s < length c.names → IsWord (name_of c s)
name_is_word c sound s inside = word_of_name (name_of c s) (sound.names.signals s [] inside)

names_are_words : (c : Plain) → IsSound c → (signals : List ℕ) → AllByRecursion (λ p. p < length c.names) signals → AllByRecursion IsWord (names_of c signals)
names_are_words c sound [] h = tt
names_are_words c sound (s ∷ signals) h = (name_is_word c sound s h.0, names_are_words c sound signals h.1)

clock_is_word : (clock : Clock) → IsClockName clock → IsWord clock.name
clock_is_word clock h = word_of_name clock.name h.lawful

control_is_words : (clock : Option Clock) → IfSome clock IsClockName → AllByRecursion IsWord (control_words clock)
control_is_words None h = tt
control_is_words (Some clock) h = by_edge clock.edge
  where
    by_edge : (edge : Option Edge) → AllByRecursion IsWord (control_words (Some (record clock { edge = edge })))
    by_edge None = tt
    by_edge (Some Rise) = (word_of_test (codes "re") refl, (clock_is_word clock h, tt))
    by_edge (Some Fall) = (word_of_test (codes "fe") refl, (clock_is_word clock h, tt))

-- ---- lawful statements

-- Its lines come back as their words, and it begins a block.
pub record IsLawful (s : Statement) : Type 0 where
  pub lines : AllByRecursion IsLine (lines_in s)
  pub statement : IsStatement s

line_of : (word : List ℕ) (further : List (List ℕ)) → IsKeptFirst (word ∷ further) → IsWord word → AllByRecursion IsWord further → IsLine (word ∷ further)
line_of word further kept first others = record { kept = kept; words = (first, others) }

row_is_line : (on : Bool) (ps : List Place) (n : ℕ) → n ≤ 255 → length ps ≡ n → IsLine (row_words on ps)
row_is_line true [] n few e = line_of (codes "1") [] refl (bit_is_word true) tt
row_is_line false [] n few e = line_of (codes "0") [] refl (bit_is_word false) tt
row_is_line on (p ∷ ps) n few e =
    line_of (map place_byte (p ∷ ps)) (bit_word on ∷ []) (kept p)
    (record { some = omega (arith, length-map (p ∷ ps) place_byte); short = omega (arith, length-map (p ∷ ps) place_byte); bytes = place_bytes (p ∷ ps) })
    (bit_is_word on, tt)
  where
    kept : (q : Place) → IsKeptFirst (map place_byte (q ∷ ps) ∷ bit_word on ∷ [])
    kept Zero = refl
    kept One = refl
    kept Any = refl

row_begins : (on : Bool) (ps : List Place) → HasRow (row_words on ps)
unfolding keyword_at left_out
row_begins true [] = refl
row_begins false [] = refl
row_begins on (Zero ∷ ps) = refl
row_begins on (One ∷ ps) = refl
row_begins on (Any ∷ ps) = refl

rows_are_lines : (on : Bool) (rows : List (List Place)) (n : ℕ) → n ≤ 255 → AllByRecursion (λ row. length row ≡ n) rows → AllByRecursion IsLine (map (row_words on) rows)
rows_are_lines on [] n few h = tt
rows_are_lines on (row ∷ rows) n few h = (row_is_line on row n few h.0, rows_are_lines on rows n few h.1)

rows_begin : (on : Bool) (rows : List (List Place)) → AllByRecursion HasRow (map (row_words on) rows)
rows_begin on [] = tt
rows_begin on (row ∷ rows) = (row_begins on row, rows_begin on rows)

model_begins : begins_row (keyword_at (codes ".model")) ≡ false
unfolding keyword_at left_out
model_begins = refl

inputs_begins : begins_row (keyword_at (codes ".inputs")) ≡ false
unfolding keyword_at left_out
inputs_begins = refl

outputs_begins : begins_row (keyword_at (codes ".outputs")) ≡ false
unfolding keyword_at left_out
outputs_begins = refl

clock_begins : begins_row (keyword_at (codes ".clock")) ≡ false
unfolding keyword_at left_out
clock_begins = refl

latch_begins : begins_row (keyword_at (codes ".latch")) ≡ false
unfolding keyword_at left_out
latch_begins = refl

names_begins : begins_row (keyword_at (codes ".names")) ≡ false
unfolding keyword_at left_out
names_begins = refl

end_begins : begins_row (keyword_at (codes ".end")) ≡ false
unfolding keyword_at left_out
end_begins = refl

plain_lawful : (word : List ℕ) (further : List (List ℕ)) → begins_row (keyword_at word) ≡ false → IsKeptFirst (word ∷ further) → IsWord word → AllByRecursion IsWord further → IsLawful (plain_statement word further)
plain_lawful word further head kept first others = record { lines = (line_of word further kept first others, tt); statement = record { head = head; rows = tt } }

-- The words on the line of the inputs.
pub all_with_clock : (P : List ℕ → Type 0) (clock : Option Clock) (names : List (List ℕ)) → IfSome clock (λ k. P k.name) → AllByRecursion P names → AllByRecursion P (with_clock clock names)
all_with_clock P None names k h = h
all_with_clock P (Some clock) names k h = by_place clock.place
  where
    by_place : (place : Option ℕ) → AllByRecursion P (with_clock (Some (record clock { place = place })) names)
    by_place None = h
    by_place (Some place) = all_append P (take place names) (clock.name ∷ drop place names) (all_take P place names h) (k, all_drop P place names h)

clock_name_is_word : (clock : Option Clock) → IfSome clock IsClockName → IfSome clock (λ k. IsWord k.name)
clock_name_is_word None h = tt
clock_name_is_word (Some clock) h = clock_is_word clock h

inputs_are_words : (c : Plain) (xs : List (List ℕ × Drive)) → AllByRecursion (Fits c) xs → AllByRecursion IsWord (flat_map (λ s. input_name s.0 s.1) xs)
inputs_are_words c [] h = tt
inputs_are_words c ((name, input) ∷ xs) h = (h.0.name, inputs_are_words c xs h.1)
inputs_are_words c ((name, latch next init) ∷ xs) h = inputs_are_words c xs h.1
inputs_are_words c ((name, gate pins cover) ∷ xs) h = inputs_are_words c xs h.1

clocks_lawful : (clock : Option Clock) → IfSome clock IsClockName → AllByRecursion IsLawful (clock_statements clock)
clocks_lawful None h = tt
clocks_lawful (Some clock) h = by_declared clock.declared
  where
    by_declared : (b : Bool) → AllByRecursion IsLawful (cond b (plain_statement (codes ".clock") (clock.name ∷ []) ∷ []) [])
    by_declared true = (plain_lawful (codes ".clock") (clock.name ∷ []) clock_begins refl (word_of_test (codes ".clock") refl) (clock_is_word clock h, tt), tt)
    by_declared false = tt

latches_lawful : (c : Plain) → IsSound c → (xs : List (List ℕ × Drive)) → AllByRecursion (Fits c) xs → AllByRecursion IsLawful (flat_map (λ s. latch_statements c s.0 s.1) xs)
latches_lawful c sound [] h = tt
latches_lawful c sound ((name, input) ∷ xs) h = latches_lawful c sound xs h.1
latches_lawful c sound ((name, latch next init) ∷ xs) h = (
  plain_lawful (codes ".latch") (latch_further c name next init) latch_begins refl (word_of_test (codes ".latch") refl)
      (name_is_word c sound next h.0.drive, (h.0.name, all_append IsWord (control_words c.clock) (bit_word init ∷ []) (control_is_words c.clock sound.names.clock) (bit_is_word init, tt))),
  latches_lawful c sound xs h.1,
)
latches_lawful c sound ((name, gate pins cover) ∷ xs) h = latches_lawful c sound xs h.1

gates_lawful : (c : Plain) → IsSound c → (xs : List (List ℕ × Drive)) → AllByRecursion (Fits c) xs → AllByRecursion IsLawful (flat_map (λ s. gate_statements c s.0 s.1) xs)
gates_lawful c sound [] h = tt
gates_lawful c sound ((name, input) ∷ xs) h = gates_lawful c sound xs h.1
gates_lawful c sound ((name, latch next init) ∷ xs) h = gates_lawful c sound xs h.1
gates_lawful c sound ((name, gate pins cover) ∷ xs) h =
    let fits = h.0.drive in (
      record {
        lines = (
          line_of (codes ".names") (names_of c pins ++ name ∷ []) refl (word_of_test (codes ".names") refl)
              (all_append IsWord (names_of c pins) (name ∷ []) (names_are_words c sound pins fits.0) (h.0.name, tt)),
          rows_are_lines cover.on cover.rows (length pins) fits.1 fits.2,
        );
        statement = record { head = names_begins; rows = rows_begin cover.on cover.rows };
      },
      gates_lawful c sound xs h.1,
    )

pub statements_lawful : (c : Plain) → IsSound c → AllByRecursion IsEvenDrive c.drives → AllByRecursion IsLawful (statements_of c)
statements_lawful c sound even =
    let fits = fits_of c sound even in
    let outputs : AllByRecursion (λ s. s < length c.names) c.outputs =
    (let P : ℕ → Type 0 = λ n. AllByRecursion (λ s. s < n) c.outputs in subst P (sym sound.named) (recursion_from_All (λ s. s < length c.drives) c.outputs sound.range.outputs)) in (
      plain_lawful (codes ".model") (c.model ∷ []) model_begins refl (word_of_test (codes ".model") refl) (word_of_name c.model sound.names.model, tt),
      (
        plain_lawful (codes ".inputs") (with_clock c.clock (input_names c)) inputs_begins refl (word_of_test (codes ".inputs") refl)
            (all_with_clock IsWord c.clock (input_names c) (clock_name_is_word c.clock sound.names.clock) (subst (λ ns. AllByRecursion IsWord ns) (sym (input_names_flat c)) (inputs_are_words c (signals_of c) fits))),
        (
          plain_lawful (codes ".outputs") (names_of c c.outputs) outputs_begins refl (word_of_test (codes ".outputs") refl) (names_are_words c sound c.outputs outputs),
          all_append IsLawful (clock_statements c.clock) (flat_map (λ s. latch_statements c s.0 s.1) (signals_of c) ++ (flat_map (λ s. gate_statements c s.0 s.1) (signals_of c) ++ end_statement ∷ []))
              (clocks_lawful c.clock sound.names.clock)
              (all_append IsLawful (flat_map (λ s. latch_statements c s.0 s.1) (signals_of c)) (flat_map (λ s. gate_statements c s.0 s.1) (signals_of c) ++ end_statement ∷ [])
              (latches_lawful c sound (signals_of c) fits)
              (all_append IsLawful (flat_map (λ s. gate_statements c s.0 s.1) (signals_of c)) (end_statement ∷ [])
              (gates_lawful c sound (signals_of c) fits)
              (plain_lawful (codes ".end") [] end_begins refl (word_of_test (codes ".end") refl) tt, tt))),
        ),
      ),
    )

pub lines_of_lawful : (ss : List Statement) → AllByRecursion IsLawful ss → AllByRecursion IsLine (flat_map lines_in ss)
lines_of_lawful [] h = tt
lines_of_lawful (s ∷ ss) h = all_append IsLine (lines_in s) (flat_map lines_in ss) h.0.lines (lines_of_lawful ss h.1)

pub statements_of_lawful : (ss : List Statement) → AllByRecursion IsLawful ss → AllByRecursion IsStatement ss
statements_of_lawful [] h = tt
statements_of_lawful (s ∷ ss) h = (h.0.statement, statements_of_lawful ss h.1)
