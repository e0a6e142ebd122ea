-- The subject circuit is Same as the circuit.
use Rattle.std.proofs.Common.{◌≡◌, ℕ, zero, suc, ◌+◌, ◌-◌, ◌<◌, ◌≤◌, Bool, true, false, cond, ltb, List, [], ◌∷◌, ◌++◌, map, length, take, get_or, Some, slice_get, refl, sym, ◌∙◌, ap, subst, inl, inr, append_assoc, length-append, arith}
use Rattle.std.specs.Prelude.{All, sum_by}
use Rattle.std.specs.List.{zip, filter}
use Rattle.std.proofs.lemmas.Bool.{cases_lt}
use Rattle.std.proofs.lemmas.List.{get_or_past, get_or_at}
use Rattle.std.proofs.lemmas.List.Elements.{All-head, All-tail, All-get_or}
use Rattle.std.proofs.lemmas.Option.{get_or_from_slice_get, slice_get_within}
use Rattle.tm_bits.specs.Rows.{Rows, holds}
use Rattle.tm_circuit.specs.Plain.{Plain, Drive, input, latch, gate, drive, is_input, input_count, latch_count}
use Rattle.tm_circuit.specs.Trace.{IsTrace, row_bit, driven, shown}
use Rattle.tm_circuit.specs.Sound.{IsSound, ReadsBelow, IsPlaced}
use Rattle.tm_circuit.specs.Same.{IsSame, ShowsAlike, input_names, output_names}
use Rattle.tm_split.specs.declared.piece.Piece.{Piece}
use Rattle.tm_split.specs.Pieces.{pieces_of}
use Rattle.tm_parts.specs.Runs.{joiner_of}
use Rattle.tm_split.specs.Names.{tilde, piece_names}
use Rattle.tm_split.specs.Subject.{extra, first_number, number, gates_of, drives_for, names_for, in_places, drives_at, names_at, subject_of}
use Rattle.tm_split.proofs.Numbers.{first_next, length-subject_of, length-drives_for, length-names_for, length-gates_of, some_pieces}
use Rattle.tm_split.proofs.Places.{IsAt, places_at, slice_get_at, number_past}
use Rattle.tm_split.proofs.Spelling.{names_for_at}
use Rattle.tm_split.proofs.Ranks.{drive_at, own_at}
use Rattle.tm_split.proofs.Tracing.{GatesObey, split_value}

-- ---- gates of a trace

later : (given : ℕ → Bool) (u : ℕ → ℕ → Bool) (step n : ℕ) (g : Drive) (rest : List Drive)
    → ((i : ℕ) → i < length (g ∷ rest) → u (n + i) step ≡ driven (get_or (g ∷ rest) i (latch (n + i) false)) (given (n + i)) u step)
    → (i : ℕ) → i < length rest → u (suc n + i) step ≡ driven (get_or rest i (latch (suc n + i) false)) (given (suc n + i)) u step
later given u step n g rest each i within =
    let index : n + suc i ≡ suc n + i = omega arith in
    subst (λ (m : ℕ). u m step ≡ driven (get_or rest i (latch m false)) (given m) u step) index (each (suc i) (omega arith))

pub gates_obey : (given : ℕ → Bool) (u : ℕ → ℕ → Bool) (step n : ℕ) (gs : List Drive)
    → ((i : ℕ) → i < length gs → u (n + i) step ≡ driven (get_or gs i (latch (n + i) false)) (given (n + i)) u step)
    → GatesObey (λ p. u p step) n gs
gates_obey given u step n [] each = tt
gates_obey given u step n (input ∷ rest) each = gates_obey given u step (suc n) rest (later given u step n input rest each)
gates_obey given u step n (latch next init ∷ rest) each = gates_obey given u step (suc n) rest (later given u step n (latch next init) rest each)
gates_obey given u step n (gate pins cover ∷ rest) each =
    let here : n + 0 ≡ n = omega arith in
    (subst (λ (m : ℕ). u m step ≡ holds cover (map (λ p. u p step) pins)) here (each 0 (omega arith)), gates_obey given u step (suc n) rest (later given u step n (gate pins cover) rest each))

-- ---- the numbers of inputs

extra_before : (k : ℕ) (c : Plain) (s t : ℕ) (e : Drive) → s < input_count c.drives → t ≤ s
    → IsPlaced (input_count c.drives) (latch_count c.drives) t e → extra k e ≡ 0
extra_before k c s t input below less placed = refl
extra_before k c s t (latch next init) below less placed =
    let late : (input_count c.drives ≤ t) × (t < input_count c.drives + latch_count c.drives) = placed in
    absurd (omega arith)
extra_before k c s t (gate pins cover) below less placed =
    let late : input_count c.drives + latch_count c.drives ≤ t = placed in
    absurd (omega arith)

first_before : (k : ℕ) (c : Plain) (s : ℕ) → IsSound c → s < input_count c.drives → s < length c.drives → (m : ℕ) → m ≤ s
    → first_number k c.drives m ≡ m
first_before k c s sound below within zero less = refl
first_before k c s sound below within (suc m) less =
    let (e, is) = slice_get_at c.drives m (omega arith) in
    let (step, itself) = first_next k c.drives m e is in
    let none : extra k e ≡ 0 = extra_before k c s m e below (omega arith) (sound.placed m e is) in
    let before : first_number k c.drives m ≡ m = first_before k c s sound below within m (omega arith) in
    omega arith

-- Inputs keep their numbers.
pub input_number : (k : ℕ) (c : Plain) (s : ℕ) → IsSound c → slice_get c.drives s ≡ Some input → number k c.drives s ≡ s
input_number k c s sound is =
    let within : s < length c.drives = slice_get_within c.drives s input is in
    let below : s < input_count c.drives = sound.placed s input is in
    let (step, itself) = first_next k c.drives s input is in
    let before : first_number k c.drives s ≡ s = first_before k c s sound below within s (omega arith) in
    let none : extra k input ≡ 0 = refl in
    omega arith

-- ---- each signal of the circuit

-- The bits of the subject circuit, read at the numbers of the old signals.
abbrev pub read_back : ℕ → Plain → (ℕ → ℕ → Bool) → ℕ → ℕ → Bool
read_back k c u s step = u (number k c.drives s) step

map_twice : (f : ℕ → Bool) (g : ℕ → ℕ) (xs : List ℕ) → map f (map g xs) ≡ map (λ x. f (g x)) xs
map_twice f g [] = refl
map_twice f g (x ∷ xs) = ap (λ ys. f (g x) ∷ ys) (map_twice f g xs)

-- What the trace says of the drive of an old signal itself.
own_bit : (k : ℕ) (c : Plain) (rows : List (List Bool)) (u : ℕ → ℕ → Bool) (s step : ℕ) (d : Drive) → IsTrace (subject_of k c) rows u
    → step < length rows → slice_get c.drives s ≡ Some d
    → u (number k c.drives s) step ≡ driven (get_or (drives_at k c s d) (extra k d) (latch (number k c.drives s) false)) (row_bit rows (number k c.drives s) step) u step
own_bit k c rows u s step d is_u within is =
    is_u (number k c.drives s) step within
    ∙ ap (λ e. driven e (row_bit rows (number k c.drives s) step) u step) (drive_at k c s (extra k d) (number k c.drives s) d (own_at k c.drives s d is))

latch_back : (number : ℕ → ℕ) (next : ℕ) (init given other : Bool) (u : ℕ → ℕ → Bool) (step : ℕ)
    → driven (latch (number next) init) given u step ≡ driven (latch next init) other (λ s t. u (number s) t) step
latch_back number next init given other u zero = refl
latch_back number next init given other u (suc before) = refl

-- The gates in the place of a wide gate obey the trace.
wide_obeys : (k : ℕ) (c : Plain) (rows : List (List Bool)) (u : ℕ → ℕ → Bool) (s step : ℕ) (pins : List ℕ) (cover : Rows)
    → IsTrace (subject_of k c) rows u → step < length rows → slice_get c.drives s ≡ Some (gate pins cover) → ltb k (length pins) ≡ true
    → GatesObey (λ p. u p step) (first_number k c.drives s) (gates_of cover.on (number k c.drives) (first_number k c.drives s) (pieces_of pins cover))
wide_obeys k c rows u s step pins cover is_u within is wide =
    let first : ℕ = first_number k c.drives s in
    let more : extra k (gate pins cover) ≡ length (pieces_of pins cover) - 1 = ap (λ b. cond b (length (pieces_of pins cover) - 1) 0) wide in
    let some : 0 < length (pieces_of pins cover) = some_pieces pins cover in
    let size : length (gates_of cover.on (number k c.drives) (first_number k c.drives s) (pieces_of pins cover)) ≡ length (pieces_of pins cover) = length-gates_of cover.on (number k c.drives) (first_number k c.drives s) (pieces_of pins cover) in
    let chosen : drives_at k c s (gate pins cover) ≡ gates_of cover.on (number k c.drives) (first_number k c.drives s) (pieces_of pins cover) =
    ap (λ b. cond b (gates_of cover.on (number k c.drives) (first_number k c.drives s) (pieces_of pins cover)) (gate (map (number k c.drives) pins) cover ∷ [])) wide in
    gates_obey (λ n. row_bit rows n step) u step (first_number k c.drives s) (gates_of cover.on (number k c.drives) (first_number k c.drives s) (pieces_of pins cover)) (λ i inside.
    let at : IsAt (extra k) c.drives (first_number k c.drives s + i) s i (gate pins cover) = record { drive = is; within = omega arith; index = refl } in
    is_u (first + i) step within
    ∙ (ap (λ e. driven e (row_bit rows (first + i) step) u step) (drive_at k c s i (first + i) (gate pins cover) at)
    ∙ ap (λ ds. driven (get_or ds i (latch (first + i) false)) (row_bit rows (first + i) step) u step) chosen))

gate_back : (k : ℕ) (c : Plain) (rows : List (List Bool)) (u : ℕ → ℕ → Bool) (s step : ℕ) (pins : List ℕ) (cover : Rows)
    → IsTrace (subject_of k c) rows u → step < length rows → slice_get c.drives s ≡ Some (gate pins cover) → All (λ p. p < length c.drives) pins
    → (wide : Bool) → ltb k (length pins) ≡ wide
    → u (number k c.drives s) step ≡ holds cover (map (λ p. u (number k c.drives p) step) pins)
gate_back k c rows u s step pins cover is_u within is below true wide =
    let (next, itself) = first_next k c.drives s (gate pins cover) is in
    let more : extra k (gate pins cover) ≡ length (pieces_of pins cover) - 1 = ap (λ b. cond b (length (pieces_of pins cover) - 1) 0) wide in
    let index : number k c.drives s ≡ first_number k c.drives s + (length (pieces_of pins cover) - 1) = omega arith in
    ap (λ n. u n step) index
    ∙ split_value (length c.drives) pins cover (number k c.drives) (first_number k c.drives s) (λ p. u p step) below (wide_obeys k c rows u s step pins cover is_u within is wide)
gate_back k c rows u s step pins cover is_u within is below false kept =
    let none : extra k (gate pins cover) ≡ 0 = ap (λ b. cond b (length (pieces_of pins cover) - 1) 0) kept in
    let chosen : drives_at k c s (gate pins cover) ≡ gate (map (number k c.drives) pins) cover ∷ [] =
    ap (λ b. cond b (gates_of cover.on (number k c.drives) (first_number k c.drives s) (pieces_of pins cover)) (gate (map (number k c.drives) pins) cover ∷ [])) kept in
    own_bit k c rows u s step (gate pins cover) is_u within is
    ∙ (ap (λ ds. driven (get_or ds (extra k (gate pins cover)) (latch (number k c.drives s) false)) (row_bit rows (number k c.drives s) step) u step) chosen
    ∙ (ap (λ i. driven (get_or (gate (map (number k c.drives) pins) cover ∷ []) i (latch (number k c.drives s) false)) (row_bit rows (number k c.drives s) step) u step) none
    ∙ ap (λ bits. holds cover bits) (map_twice (λ p. u p step) (number k c.drives) pins)))

signal_back : (k : ℕ) (c : Plain) (rows : List (List Bool)) (u : ℕ → ℕ → Bool) (s step : ℕ) (d : Drive) → IsSound c
    → IsTrace (subject_of k c) rows u → step < length rows → slice_get c.drives s ≡ Some d → ReadsBelow (length c.drives) d
    → u (number k c.drives s) step ≡ driven d (row_bit rows s step) (read_back k c u) step
signal_back k c rows u s step input sound is_u within is reads =
    own_bit k c rows u s step input is_u within is ∙ ap (λ n. row_bit rows n step) (input_number k c s sound is)
signal_back k c rows u s step (latch next init) sound is_u within is reads =
    own_bit k c rows u s step (latch next init) is_u within is
    ∙ latch_back (number k c.drives) next init (row_bit rows (number k c.drives s) step) (row_bit rows s step) u step
signal_back k c rows u s step (gate pins cover) sound is_u within is reads =
    gate_back k c rows u s step pins cover is_u within is reads (ltb k (length pins)) refl

pub back_trace : (k : ℕ) (c : Plain) (rows : List (List Bool)) (u : ℕ → ℕ → Bool) → IsSound c → IsTrace (subject_of k c) rows u
    → IsTrace c rows (read_back k c u)
back_trace k c rows u sound is_u s step within =
    elim (cases_lt s (length c.drives)) [
      | inl inside ↦
          let (d, is) = slice_get_at c.drives s inside in
          let here : drive c s ≡ d = get_or_from_slice_get c.drives s d (latch s false) is in
          let reads : ReadsBelow (length c.drives) d = subst (λ (e : Drive). ReadsBelow (length c.drives) e) here (All-get_or (ReadsBelow (length c.drives)) c.drives s (latch s false) inside sound.range.reads) in
          signal_back k c rows u s step d sound is_u within is reads ∙ ap (λ e. driven e (row_bit rows s step) (read_back k c u) step) (sym here)
      | inr past ↦
          let none : drive c s ≡ latch s false = get_or_past c.drives s (latch s false) past in
          let far : first_number k c.drives (length c.drives) ≤ number k c.drives s = number_past k c.drives s past in
          let size : length (subject_of k c).drives ≡ first_number k c.drives (length c.drives) = length-subject_of k c in
          let there : drive (subject_of k c) (number k c.drives s) ≡ latch (number k c.drives s) false = get_or_past (subject_of k c).drives (number k c.drives s) (latch (number k c.drives s) false) (omega arith) in
          is_u (number k c.drives s) step within
          ∙ (ap (λ e. driven e (row_bit rows (number k c.drives s) step) u step) there
          ∙ (latch_back (number k c.drives) s false (row_bit rows (number k c.drives s) step) (row_bit rows s step) u step
          ∙ ap (λ e. driven e (row_bit rows s step) (read_back k c u) step) (sym none)))
    ]

-- ---- names

abbrev input_list : List (List ℕ) → List Drive → List (List ℕ)
input_list names drives = map (λ signal. signal.0) (filter (λ signal. is_input signal.1) (zip names drives))

input_list_cons : (name : List ℕ) (d : Drive) (names : List (List ℕ)) (drives : List Drive)
    → input_list (name ∷ names) (d ∷ drives) ≡ input_list (name ∷ []) (d ∷ []) ++ input_list names drives
input_list_cons name input names drives = refl
input_list_cons name (latch next init) names drives = refl
input_list_cons name (gate pins cover) names drives = refl

input_list_append : (xs ys : List (List ℕ)) (ds es : List Drive) → length xs ≡ length ds
    → input_list (xs ++ ys) (ds ++ es) ≡ input_list xs ds ++ input_list ys es
input_list_append [] ys [] es same = refl
input_list_append [] ys (d ∷ ds) es same = absurd (omega arith)
input_list_append (x ∷ xs) ys [] es same = absurd (omega arith)
input_list_append (x ∷ xs) ys (d ∷ ds) es same =
    let rest : input_list (xs ++ ys) (ds ++ es) ≡ input_list xs ds ++ input_list ys es = input_list_append xs ys ds es (omega arith) in
    input_list_cons x d (xs ++ ys) (ds ++ es)
    ∙ (ap (λ zs. input_list (x ∷ []) (d ∷ []) ++ zs) rest
    ∙ (sym (append_assoc (input_list (x ∷ []) (d ∷ [])) (input_list xs ds) (input_list ys es))
    ∙ ap (λ zs. zs ++ input_list ys es) (sym (input_list_cons x d xs ds))))

no_inputs : (names : List (List ℕ)) (on : Bool) (f : ℕ → ℕ) (first : ℕ) (pieces : List Piece) → input_list names (gates_of on f first pieces) ≡ []
no_inputs [] on f first pieces = refl
no_inputs (name ∷ names) on f first [] = refl
no_inputs (name ∷ names) on f first (piece ∷ rest) = no_inputs names on f first rest

inputs_by_test : (test : Bool) (name : List ℕ) (names : List (List ℕ)) (on : Bool) (f : ℕ → ℕ) (first : ℕ) (pieces : List Piece) (pins : List ℕ) (cover : Rows)
    → input_list (cond test names (name ∷ [])) (cond test (gates_of on f first pieces) (gate pins cover ∷ [])) ≡ []
inputs_by_test true name names on f first pieces pins cover = no_inputs names on f first pieces
inputs_by_test false name names on f first pieces pins cover = refl

inputs_for : (k : ℕ) (name joiner : List ℕ) (f : ℕ → ℕ) (first : ℕ) (d : Drive)
    → input_list (names_for k name joiner d) (drives_for k f first d) ≡ input_list (name ∷ []) (d ∷ [])
inputs_for k name joiner f first input = refl
inputs_for k name joiner f first (latch next init) = refl
inputs_for k name joiner f first (gate pins cover) =
    inputs_by_test (ltb k (length pins)) name (piece_names name joiner 1 (pieces_of pins cover)) cover.on f first (pieces_of pins cover) (map f pins) cover

inputs_in_places : (k : ℕ) (c : Plain) (front names : List (List ℕ)) (t : ℕ) (ds : List Drive) → c.names ≡ front ++ names → length front ≡ t
    → length names ≡ length ds
    → input_list (in_places (names_at k c) t ds) (in_places (drives_at k c) t ds) ≡ input_list names ds
inputs_in_places k c front [] t [] whole here same = refl
inputs_in_places k c front [] t (d ∷ ds) whole here same = absurd (omega arith)
inputs_in_places k c front (name ∷ names) t [] whole here same = absurd (omega arith)
inputs_in_places k c front (name ∷ names) t (d ∷ ds) whole here same =
    let at_t : get_or c.names t [] ≡ name = ap (λ ns. get_or ns t []) whole ∙ get_or_at front name names [] t here in
    let sizes : length (names_at k c t d) ≡ length (drives_at k c t d) = length-names_for k (get_or c.names t []) (joiner_of tilde c) d ∙ sym (length-drives_for k (number k c.drives) (first_number k c.drives t) d) in
    let first : input_list (names_at k c t d) (drives_at k c t d) ≡ input_list (name ∷ []) (d ∷ []) =
    inputs_for k (get_or c.names t []) (joiner_of tilde c) (number k c.drives) (first_number k c.drives t) d ∙ ap (λ n. input_list (n ∷ []) (d ∷ [])) at_t in
    let next : c.names ≡ (front ++ name ∷ []) ++ names = whole ∙ sym (append_assoc front (name ∷ []) names) in
    let long : length (front ++ name ∷ []) ≡ suc t = omega (arith, length-append front (name ∷ [])) in
    let rest : input_list (in_places (names_at k c) (suc t) ds) (in_places (drives_at k c) (suc t) ds) ≡ input_list names ds = inputs_in_places k c (front ++ name ∷ []) names (suc t) ds next long (omega arith) in
    input_list_append (names_at k c t d) (in_places (names_at k c) (suc t) ds) (drives_at k c t d) (in_places (drives_at k c) (suc t) ds) sizes
    ∙ (ap (λ xs. xs ++ input_list (in_places (names_at k c) (suc t) ds) (in_places (drives_at k c) (suc t) ds)) first
    ∙ (ap (λ ys. input_list (name ∷ []) (d ∷ []) ++ ys) rest
    ∙ sym (input_list_cons name d names ds)))

pub subject_inputs : (k : ℕ) (c : Plain) → length c.names ≡ length c.drives → input_names (subject_of k c) ≡ input_names c
unfolding subject_of
subject_inputs k c named = inputs_in_places k c [] c.names 0 c.drives refl refl named

-- An old signal keeps its name.
pub own_name : (k : ℕ) (c : Plain) (s : ℕ) → s < length c.drives → get_or (in_places (names_at k c) 0 c.drives) (number k c.drives s) [] ≡ get_or c.names s []
own_name k c s within =
    let (d, is) = slice_get_at c.drives s within in
    let sizes : (t : ℕ) (e : Drive) → length (names_at k c t e) ≡ suc (extra k e) = λ t e. length-names_for k (get_or c.names t []) (joiner_of tilde c) e in
    let (step, itself) = first_next k c.drives s d is in
    let there : get_or (in_places (names_at k c) 0 c.drives) ((s + sum_by (extra k) (take s c.drives)) + extra k d) [] ≡ get_or (names_at k c (0 + s) d) (extra k d) [] = places_at (names_at k c) (extra k) sizes 0 c.drives s (extra k d) d [] is (omega arith) in
    let place : 0 + s ≡ s = omega arith in
    let moved : get_or (in_places (names_at k c) 0 c.drives) (number k c.drives s) [] ≡ get_or (names_at k c s d) (extra k d) [] =
    ap (λ n. get_or (in_places (names_at k c) 0 c.drives) n []) itself ∙ (there ∙ ap (λ n. get_or (names_at k c n d) (extra k d) []) place) in
    elim (names_for_at k (get_or c.names s []) (joiner_of tilde c) d (extra k d) [] (omega arith)) [
      | inl (old, last) ↦ moved ∙ old
      | inr (less, new) ↦ absurd (omega arith)
    ]

names_moved : (k : ℕ) (c : Plain) (outputs : List ℕ) → All (λ s. s < length c.drives) outputs
    → map (λ s. get_or (in_places (names_at k c) 0 c.drives) s []) (map (number k c.drives) outputs) ≡ map (λ s. get_or c.names s []) outputs
names_moved k c [] below = refl
names_moved k c (s ∷ outputs) below =
    ap (λ n. n ∷ map (λ o. get_or (in_places (names_at k c) 0 c.drives) o []) (map (number k c.drives) outputs)) (own_name k c s (All-head (λ o. o < length c.drives) s outputs below))
    ∙ ap (λ ns. get_or c.names s [] ∷ ns) (names_moved k c outputs (All-tail (λ o. o < length c.drives) s outputs below))

pub subject_outputs : (k : ℕ) (c : Plain) → All (λ s. s < length c.drives) c.outputs → output_names (subject_of k c) ≡ output_names c
unfolding subject_of
subject_outputs k c below = names_moved k c c.outputs below

pub subject_shown : (k : ℕ) (c : Plain) (u : ℕ → ℕ → Bool) (step : ℕ) → shown (subject_of k c) u step ≡ shown c (read_back k c u) step
unfolding subject_of
subject_shown k c u step = map_twice (λ s. u s step) (number k c.drives) c.outputs

-- ---- the whole

-- Circuits are Same by their traces, as the law says: here of the subject circuit and the circuit.
pub subject_same : (k : ℕ) (c : Plain)
    → (input_names (subject_of k c) ≡ input_names c → output_names (subject_of k c) ≡ output_names c
    → ((rows : List (List Bool)) (t : ℕ → ℕ → Bool) → IsTrace (subject_of k c) rows t → ShowsAlike (subject_of k c) c rows t)
    → IsSame (subject_of k c) c)
    → IsSound c → IsSame (subject_of k c) c
subject_same k c by_traces sound =
    by_traces (subject_inputs k c sound.named) (subject_outputs k c sound.range.outputs)
    (λ rows u is_u. (read_back k c u, back_trace k c rows u sound is_u, λ step within. subject_shown k c u step))
