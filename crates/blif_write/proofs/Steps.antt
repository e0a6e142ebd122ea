-- One more item of a list, in the text written so far.
use Rattle.std.proofs.Common.{◌≡◌, ℕ, zero, suc, ◌+◌, ◌-◌, ◌<◌, ◌≤◌, ◌++◌, List, [], ◌∷◌, false, length, get_or, take, drop, map, Some, None, Option, Bool, subst, refl, sym, ap, ◌∙◌, arith, length-drop, append_assoc}
use Rattle.std.specs.Prelude.{slice_get, slice_range, IfSome, codes, Result, Ok, Err, OnOk}
use Rattle.std.specs.List.{flat_map, insert}
use Rattle.std.proofs.lemmas.List.{append-nil, take_more, map-append, take_all, get_or_default, get_or-drop, drop-take}
use Rattle.std.proofs.lemmas.Slice.Zip.{get_or-zip, length-zip}
use Rattle.std.proofs.lemmas.Grind.{flat_map-append, common_steps}
use Rattle.std.proofs.lemmas.Option.{get_or_from_slice_get, slice_get_within}
use Rattle.tm_bits.specs.Rows.{Rows}
use Rattle.tm_circuit.specs.declared.parts.Clock.{Clock}
use Rattle.tm_circuit.specs.Plain.{Plain, Drive, latch, gate, drive, input_count, latch_count}
use Rattle.tm_circuit.specs.Sound.{IsSound, IsClockOf}
use Rattle.blif_write.specs.Text.{further_word, names_of, name_of, lines_text, line_text, signals_of, all_lines, with_clock, control_words, bit_word, latch_lines, gate_lines, row_words}
use Rattle.tm_circuit.specs.Same.{input_names}
use Rattle.blif_write.proofs.Order.{input_names_first}

-- One more name.
pub names_more : (c : Plain) (signals : List ℕ) (i s : ℕ) (name : List ℕ) → i < length signals → s ≡ get_or signals i s → slice_get c.names s ≡ Some name → flat_map further_word (names_of c (take (i + 1) signals)) ≡ flat_map further_word (names_of c (take i signals)) ++ further_word name
names_more c signals i s name inside here is =
    let e = take_more signals i s inside in
    let named : name_of c s ≡ name = get_or_from_slice_get c.names s name [] is in
    rw e (rw (← here) (grind (arith, common_steps, flat_map-append, map-append)))

take_nothing : (k : ℕ) → take {A = List ℕ} k [] ≡ []
take_nothing zero = refl
take_nothing (suc k) = refl

take_take_le : (k n : ℕ) (xs : List (List ℕ)) → k ≤ n → take k (take n xs) ≡ take k xs
take_take_le zero n xs order = refl
take_take_le (suc k) n [] order = ap (λ ys. take (suc k) ys) (take_nothing n)
take_take_le (suc k) zero (x ∷ xs) order = absurd (omega arith)
take_take_le (suc k) (suc n) (x ∷ xs) order = ap (λ ys. x ∷ ys) (take_take_le k n xs (omega arith))

-- The lines of the signals below a number.
unfoldable pub lines_below : (Plain → List ℕ → Drive → List (List (List ℕ))) → Plain → ℕ → List ℕ
lines_below lines c n = lines_text (flat_map (λ s. lines c s.0 s.1) (take n (signals_of c)))

pub lines_below_none : (lines : Plain → List ℕ → Drive → List (List (List ℕ))) (c : Plain) → lines_below lines c 0 ≡ []
unfolding lines_below
lines_below_none lines c = refl

lines_more : (f : List ℕ × Drive → List (List (List ℕ))) (xs : List (List ℕ × Drive)) (i : ℕ) (x : List ℕ × Drive) → i < length xs → get_or xs i x ≡ x → lines_text (flat_map f (take (i + 1) xs)) ≡ lines_text (flat_map f (take i xs)) ++ lines_text (f x)
lines_more f xs i x inside here =
    let e = take_more xs i x inside in
    rw e (rw here (grind (arith, common_steps, flat_map-append)))

pub lines_below_more : (lines : Plain → List ℕ → Drive → List (List (List ℕ))) (c : Plain) (n : ℕ) → length c.names ≡ length c.drives → n < length c.drives → lines_below lines c (n + 1) ≡ lines_below lines c n ++ lines_text (lines c (name_of c n) (drive c n))
unfolding lines_below
lines_below_more lines c n named inside =
    let d : List ℕ × Drive = ([], latch n false) in
    let x : List ℕ × Drive = (name_of c n, drive c n) in
    let within : n < length (signals_of c) = omega (arith, length-zip c.names c.drives) in
    let here : get_or (signals_of c) n d ≡ x = get_or-zip c.names c.drives n d (omega arith) inside in
    lines_more (λ s. lines c s.0 s.1) (signals_of c) n x within (get_or_default (signals_of c) n x d within ∙ here)

pub lines_below_all : (lines : Plain → List ℕ → Drive → List (List (List ℕ))) (c : Plain) (n : ℕ) → length c.drives ≤ n → lines_below lines c n ≡ lines_text (all_lines lines c)
unfolding lines_below
lines_below_all lines c n whole =
    let all : take n (signals_of c) ≡ signals_of c = take_all n (signals_of c) (omega (arith, length-zip c.names c.drives)) in
    ap (λ xs. lines_text (flat_map (λ s. lines c s.0 s.1) xs)) all

-- One more name of a stretch of names.
pub range_more : (names : List (List ℕ)) (a n : ℕ) (x : List ℕ) → a ≤ n → slice_get names n ≡ Some x → flat_map further_word (slice_range names a (n + 1)) ≡ flat_map further_word (slice_range names a n) ++ further_word x
range_more names a n x order is =
    let k : ℕ = n - a in
    let inside : n < length names = slice_get_within names n x is in
    let at_end : n + 1 - a ≡ k + 1 = omega arith in
    let here : get_or (drop a names) k [] ≡ x = get_or-drop a names k [] ∙ ap (λ m. get_or names m []) (omega arith) ∙ get_or_from_slice_get names n x [] is in
    let e = take_more (drop a names) k [] (omega (arith, length-drop a names)) in
    rw at_end (rw e (rw here (grind (arith, common_steps, flat_map-append))))

-- Names below n, with one put in at a place.
pub names_with : (names : List (List ℕ)) (place n : ℕ) (x : List ℕ) → place ≤ n → flat_map further_word (insert (take n names) place x) ≡ flat_map further_word (slice_range names 0 place) ++ further_word x ++ flat_map further_word (slice_range names place n)
names_with names place n x order =
    let m : ℕ = n - place in
    let split : place + m ≡ n = omega arith in
    let before : take place (take n names) ≡ take place names = take_take_le place n names order in
    let after : drop place (take n names) ≡ take m (drop place names) = ap (λ k. drop place (take k names)) (sym split) ∙ drop-take place m names in
    rw before (rw after (grind (arith, common_steps, flat_map-append)))

-- The names on the line of the inputs, by what the clock is.
pub inputs_without_clock : (c : Plain) → IsSound c → c.clock ≡ None → flat_map further_word (with_clock c.clock (input_names c)) ≡ flat_map further_word (slice_range c.names 0 (input_count c.drives))
inputs_without_clock c sound none =
    let whole : input_count c.drives ≡ input_count c.drives - 0 = omega arith in
    let first : input_names c ≡ slice_range c.names 0 (input_count c.drives) = input_names_first c sound ∙ ap (λ k. take k c.names) whole in
    rw none (ap (λ xs. flat_map further_word xs) first)

pub inputs_without_place : (c : Plain) (clock : Clock) → IsSound c → c.clock ≡ Some clock → clock.place ≡ None → flat_map further_word (with_clock c.clock (input_names c)) ≡ flat_map further_word (slice_range c.names 0 (input_count c.drives))
inputs_without_place c clock sound some none =
    let whole : input_count c.drives ≡ input_count c.drives - 0 = omega arith in
    let first : input_names c ≡ slice_range c.names 0 (input_count c.drives) = input_names_first c sound ∙ ap (λ k. take k c.names) whole in
    rw (some, none) (ap (λ xs. flat_map further_word xs) first)

pub inputs_with_place : (c : Plain) (clock : Clock) (place : ℕ) → IsSound c → c.clock ≡ Some clock → clock.place ≡ Some place → place ≤ input_count c.drives → flat_map further_word (with_clock c.clock (input_names c)) ≡ flat_map further_word (slice_range c.names 0 place) ++ further_word clock.name ++ flat_map further_word (slice_range c.names place (input_count c.drives))
inputs_with_place c clock place sound some is order =
    let first : input_names c ≡ take (input_count c.drives) c.names = input_names_first c sound in
    rw (some, is, first) (names_with c.names place (input_count c.drives) clock.name order)

pub place_below : (c : Plain) (clock : Clock) (place : ℕ) → IsSound c → c.clock ≡ Some clock → clock.place ≡ Some place → place ≤ input_count c.drives
place_below c clock place sound some is =
    let P : Option Clock → Type 0 = λ o. IfSome o (IsClockOf (input_count c.drives) (latch_count c.drives)) in
    let of : IsClockOf (input_count c.drives) (latch_count c.drives) clock = subst P some sound.range.clock in
    let Q : Option ℕ → Type 0 = λ o. IfSome o (λ before. before ≤ input_count c.drives) in
    subst Q is of.place

words_end : (words : List (List ℕ)) (last : List ℕ) → flat_map further_word (words ++ last ∷ []) ≡ flat_map further_word words ++ further_word last
words_end words last = flat_map-append further_word words (last ∷ []) ∙ ap (λ x. flat_map further_word words ++ x) (append-nil (further_word last))

regrouped : (old first a b c d end : List ℕ) → (((((old ++ first) ++ a) ++ b) ++ c) ++ d) ++ end ≡ old ++ (((first ++ (a ++ (b ++ (c ++ d)))) ++ end) ++ [])
regrouped old first a b c d end = simp (append_assoc, append-nil)

latch_line : (old first a b bit : List ℕ) (control : List (List ℕ)) → ((((old ++ first) ++ further_word a) ++ further_word b) ++ flat_map further_word control) ++ further_word bit ++ 10 ∷ [] ≡ old ++ lines_text ((first ∷ a ∷ b ∷ control ++ bit ∷ []) ∷ [])
latch_line old first a b bit control =
    let line : List ℕ → List ℕ = λ x. old ++ (((first ++ (further_word a ++ (further_word b ++ x))) ++ 10 ∷ []) ++ []) in
    regrouped old first (further_word a) (further_word b) (flat_map further_word control) (further_word bit) (10 ∷ []) ∙ ap line (sym (words_end control bit))

names_line : (old first name rows : List ℕ) (pins : List (List ℕ)) → ((((old ++ first) ++ flat_map further_word pins) ++ further_word name) ++ 10 ∷ []) ++ rows ≡ old ++ line_text (first ∷ pins ++ name ∷ []) ++ rows
names_line old first name rows pins =
    let line : List ℕ → List ℕ = λ x. (old ++ ((first ++ x) ++ 10 ∷ [])) ++ rows in
    let left : ((((old ++ first) ++ flat_map further_word pins) ++ further_word name) ++ 10 ∷ []) ++ rows ≡ line (flat_map further_word pins ++ further_word name) = simp (append_assoc) in
    left ∙ ap line (sym (words_end pins name))

-- The line of a latch, as it is written.
pub latch_written : (c : Plain) (s next : ℕ) (init : Bool) (next_name name old : List ℕ) → drive c s ≡ latch next init → slice_get c.names next ≡ Some next_name → slice_get c.names s ≡ Some name →
    ((((old ++ codes ".latch") ++ further_word next_name) ++ further_word name) ++ flat_map further_word (control_words c.clock)) ++ further_word (bit_word init) ++ 10 ∷ [] ≡ old ++ lines_text (latch_lines c (name_of c s) (drive c s))
latch_written c s next init next_name name old is next_is name_is =
    let e : name_of c next ≡ next_name = get_or_from_slice_get c.names next next_name [] next_is in
    let f : name_of c s ≡ name = get_or_from_slice_get c.names s name [] name_is in
    rw (is, f, e) (latch_line old (codes ".latch") next_name name (bit_word init) (control_words c.clock))

-- The lines of a gate, as they are written.
pub gate_written : (c : Plain) (s : ℕ) (pins : List ℕ) (cover : Rows) (name old : List ℕ) → drive c s ≡ gate pins cover → slice_get c.names s ≡ Some name →
    ((((old ++ codes ".names") ++ flat_map further_word (names_of c pins)) ++ further_word name) ++ 10 ∷ []) ++ lines_text (map (row_words cover.on) cover.rows) ≡ old ++ lines_text (gate_lines c (name_of c s) (drive c s))
gate_written c s pins cover name old is name_is =
    let f : name_of c s ≡ name = get_or_from_slice_get c.names s name [] name_is in
    rw (is, f) (names_line old (codes ".names") name (lines_text (map (row_words cover.on) cover.rows)) (names_of c pins) ∙ append_assoc old _ _)

-- What follows from a fact of an `Ok` is one too.
pub on_ok : {T E P Q : Type 0} (r : Result T E) → (P → Q) → OnOk r P → OnOk r Q
on_ok (Ok x) f h = f h
on_ok (Err e) f h = h
