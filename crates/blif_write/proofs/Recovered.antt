-- The text that is written has the circuit that it was written from.
use Rattle.std.proofs.Common.{◌≡◌, ◌≢◌, ℕ, zero, suc, ◌<◌, ◌≤◌, ◌++◌, List, [], ◌∷◌, Bool, true, false, not, ◌||◌, cond, ltb, length, get_or, map, take, drop, Some, None, Option, Ok, refl, sym, ap, ◌∙◌, subst, inl, inr, arith, append_assoc}
use Rattle.std.specs.Prelude.{IfSome, IsOkAnd, bytes_eq, option_map, slice_get, AllPairs, filter, position, find, codes, unwrap_or}
use Rattle.std.specs.List.{flat_map, filter_map, list_any, AllByRecursion}
use Rattle.std.specs.Option.{option_or}
use Rattle.std.proofs.lemmas.Bool.{le-ltb, cases_lt}
use Rattle.std.proofs.lemmas.Option.{slice_get-get_or}
use Rattle.std.proofs.lemmas.List.{append-nil, get_or_default, length-take, take-append-drop}
use Rattle.std.proofs.lemmas.List.Sums.{count_by-le-length}
use Rattle.std.proofs.Math.Nat.{min-eq_left}
use Rattle.std.proofs.lemmas.List.Elements.{recursion_from_All}
use Rattle.std.proofs.lemmas.List.Folds.{flat_map-map}
use Rattle.tm_circuit.specs.declared.parts.Clock.{Clock}
use Rattle.tm_circuit.specs.declared.parts.Edge.{Edge}
use Rattle.tm_circuit.specs.Plain.{Plain, Drive, input_count, latch_count}
use Rattle.tm_circuit.specs.Plain as plain
use Rattle.tm_circuit.specs.Sound.{IsSound, IsClockOf}
use Rattle.tm_circuit.specs.Sound as soundness
use Rattle.blif_lex.specs.Words.{Line, words_of}
use Rattle.blif_read.specs.declared.Limits.{Limits}
use Rattle.blif_read.specs.declared.fault.BlifKind.{BlifKind}
use Rattle.blif_read.specs.declared.fault.BlifKind.TheVariants.{Undriven, GatedClock, ClockAsData, TooManySignals}
use Rattle.blif_read.specs.Unit.{Told, Telling, inputs_told, outputs_told, latch_told, gate_told, drivers_told, uses_told, clocks_told, over}
use Rattle.blif_read.specs.Unit as told
use Rattle.blif_read.specs.Statement.{Block, keyword_in, is_model, further, word_at, body_of, telling_in}
use Rattle.blif_read.specs.Circuit.{clock_name, is_named, is_clock, declared_told, edges_of, clock_in, inputs_of, Reading, reading, latches_read, gates_read, readings_of, Faulty, first_with, least, lines_with, least_with, is_driven, made_told, fault_in_names, IsCircuitOfModel}
use Rattle.blif_read.specs.Circuit as read
use Rattle.blif_read.specs.Text.{model_in, IsCircuitOfLines, IsCircuitOf}
use Rattle.blif_write.specs.Even.{IsEvenDrive}
use Rattle.blif_write.specs.Text.{signals_of, name_of, names_of, with_clock, lines_text, text_of}
use Rattle.tm_circuit.specs.Same.{input_names}
use Rattle.blif_write.proofs.Order.{input_name, input_names_flat, input_names_first}
use Rattle.blif_write.proofs.ByKind.{inputs_by, latches_by, gates_by, drives_by_kind, no_circle}
use Rattle.blif_write.proofs.Lexing.{numbered, words_written}
use Rattle.blif_write.proofs.Blocks.{IsStatement, lines_in, blocks, blocks_back}
use Rattle.blif_write.proofs.Statements.{statements_of, statements_same, statements_lawful, lines_of_lawful, statements_of_lawful, Fits, FitsDrive, fits_of}
use Rattle.blif_write.proofs.Reading.{clock_told, told_by, ne_bytes, same_bytes, circuit_tells, at_model}
use Rattle.blif_write.proofs.Reading as written
use Rattle.blif_write.proofs.Faults.{AreApart, apart_front, NamesApart, latch_name, gate_name, no_fault_written}
use Rattle.blif_write.proofs.Once.{apart_get, spelled_once}
use Rattle.blif_write.proofs.Spelled.{latch_names, gate_names, line_names, AreOthers, edges_told, names_split, inputs_are, outputs_are, latches_are, gates_are, drivers_are, made_are, named_by, clock_case, edge_by, declared_back, place_back, inputs_back, parts_give, latches_give, latches_give_none, gates_give, gates_give_none, clock_gives_none, latches_same, gates_same}
use Rattle.blif_write.proofs.Lists.{all_append, all_parts, all_map}

-- ---- names apart

apart_by_pairs : (names : List (List ℕ)) → AllPairs (λ a b. a ≢ b) names → AreApart names
apart_by_pairs [] h = tt
apart_by_pairs (n ∷ names) h = (
  recursion_from_All (λ m. n ≢ m) names (λ k d inside. h 0 (suc k) d (omega arith) (omega arith)),
  apart_by_pairs names (λ i j d below inside. h (suc i) (suc j) d (omega arith) (omega arith)),
)

-- One name that is no other may stand anywhere.
apart_with : (xs : List (List ℕ)) (k : List ℕ) (ys : List (List ℕ)) → AreApart (xs ++ ys) → AreOthers k (xs ++ ys) → AreApart (xs ++ k ∷ ys)
apart_with [] k ys h o = (all_map (λ m. m ≢ k) (λ m. k ≢ m) (λ m ne e. ne (sym e)) ys o, h)
apart_with (x ∷ xs) k ys h o =
    let parts = all_parts (λ m. x ≢ m) xs ys h.0 in
    (all_append (λ m. x ≢ m) xs (k ∷ ys) parts.0 (o.0, parts.1), apart_with xs k ys h.1 o.1)

others_of_apart : (names : List (List ℕ)) (k : List ℕ) → AreApart (names ++ k ∷ []) → AreOthers k names
others_of_apart [] k h = tt
others_of_apart (n ∷ names) k h = ((all_parts (λ m. n ≢ m) names (k ∷ []) h.0).1.0, others_of_apart names k h.1)

-- No signal has the clock's name.
pub others : (c : Plain) → IsSound c → IfSome c.clock (λ k. AreOthers k.name c.names)
others c sound = by_clock c.clock (apart_by_pairs (c.names ++ soundness.clock_name c.clock) sound.distinct)
  where
    by_clock : (clock : Option Clock) → AreApart (c.names ++ soundness.clock_name clock) → IfSome clock (λ k. AreOthers k.name c.names)
    by_clock None h = tt
    by_clock (Some clock) h = others_of_apart c.names clock.name h

pub names_apart : (c : Plain) → IsSound c → AreApart c.names
names_apart c sound = apart_front c.names (soundness.clock_name c.clock) (apart_by_pairs (c.names ++ soundness.clock_name c.clock) sound.distinct)

-- The names that are driven, with the clock's among those of the inputs.
line_apart : (clock : Option Clock) (names rest : List (List ℕ)) → AreApart (names ++ rest) → IfSome clock (λ k. AreOthers k.name (names ++ rest)) → AreApart (with_clock clock names ++ rest)
line_apart None names rest h o = h
line_apart (Some clock) names rest h o = by_place clock.place
  where
    by_place : (place : Option ℕ) → AreApart (with_clock (Some (record clock { place = place })) names ++ rest)
    by_place None = h
    by_place (Some p) =
        let whole : take p names ++ (drop p names ++ rest) ≡ names ++ rest = sym (append_assoc (take p names) (drop p names) rest) ∙ ap (λ xs. xs ++ rest) (take-append-drop p names) in
        subst AreApart (sym (append_assoc (take p names) (clock.name ∷ drop p names) rest))
        (apart_with (take p names) clock.name (drop p names ++ rest) (subst AreApart (sym whole) h) (subst (λ xs. AreOthers clock.name xs) (sym whole) o))

others_along : (clock : Option Clock) (xs ys : List (List ℕ)) → xs ≡ ys → IfSome clock (λ k. AreOthers k.name xs) → IfSome clock (λ k. AreOthers k.name ys)
others_along clock xs ys e h = subst (λ zs. IfSome clock (λ k. AreOthers k.name zs)) e h

apart_either : (names : List (List ℕ)) (i j : ℕ) → AreApart names → i ≢ j → i < length names → j < length names → get_or names i [] ≢ get_or names j []
apart_either names i j h ne a b = elim (cases_lt i j) [ inl below ↦ apart_get names i j h below b | inr past ↦ (λ e. apart_get names j i h (omega arith) a (sym e)) ]

outputs_apart : (c : Plain) → AreApart c.names → (outs : List ℕ) → AllPairs (λ a b. a ≢ b) outs → AllByRecursion (λ s. s < length c.names) outs → AreApart (names_of c outs)
outputs_apart c h [] pairs inside = tt
outputs_apart c h (s ∷ outs) pairs inside = (
  each outs (recursion_from_All (λ t. s ≢ t) outs (λ k d below. pairs 0 (suc k) d (omega arith) (omega arith))) inside.1,
  outputs_apart c h outs (λ i j d below within. pairs (suc i) (suc j) d (omega arith) (omega arith)) inside.1,
)
  where
    each : (ts : List ℕ) → AllByRecursion (λ t. s ≢ t) ts → AllByRecursion (λ t. t < length c.names) ts → AllByRecursion (λ m. name_of c s ≢ m) (names_of c ts)
    each [] ne below = tt
    each (t ∷ ts) ne below = (apart_either c.names s t h ne.0 inside.0 below.0, each ts ne.1 below.1)

outputs_inside : (c : Plain) → IsSound c → AllByRecursion (λ s. s < length c.names) c.outputs
outputs_inside c sound =
    let P : ℕ → Type 0 = λ n. AllByRecursion (λ s. s < n) c.outputs in
    subst P (sym sound.named) (recursion_from_All (λ s. s < length c.drives) c.outputs sound.range.outputs)

pub all_apart : (c : Plain) → IsSound c → NamesApart c
all_apart c sound =
    let rest = latch_names c ++ gate_names c in
    let split : c.names ≡ input_names c ++ rest = names_split c sound in
    let line : AreApart (line_names c ++ rest) =
    line_apart c.clock (input_names c) rest (subst AreApart split (names_apart c sound)) (others_along c.clock c.names (input_names c ++ rest) split (others c sound)) in
    let same : latch_names c ++ gate_names c ≡ flat_map (λ s. latch_name s.0 s.1) (signals_of c) ++ flat_map (λ s. gate_name s.0 s.1) (signals_of c) =
    ap (λ xs. xs ++ gate_names c) (latches_same (signals_of c)) ∙ ap (λ xs. flat_map (λ s. latch_name s.0 s.1) (signals_of c) ++ xs) (gates_same (signals_of c)) in
    record {
      driven = subst AreApart (ap (λ xs. line_names c ++ xs) same ∙ sym (append_assoc (line_names c) (flat_map (λ s. latch_name s.0 s.1) (signals_of c)) (flat_map (λ s. gate_name s.0 s.1) (signals_of c)))) line;
      outputs = outputs_apart c (names_apart c sound) c.outputs sound.outputs (outputs_inside c sound);
    }

-- ---- the model

-- What is told over a body of statements.
over_told : {A : Type 0} (f : Told → List A) (body : List Telling) (ts : List Told) → map (λ t. t.what) body ≡ ts → flat_map (λ t. f t.what) body ≡ flat_map f ts
over_told f body ts e = sym (flat_map-map f (λ t. t.what) body) ∙ ap (λ xs. flat_map f xs) e

-- A body that tells what the circuit is.
abbrev Tells : List Telling → Plain → Type 0
Tells body c = map (λ t. t.what) body ≡ told_by c

clock_name_back : (body : List Telling) (c : Plain) → IsSound c → Tells body c → clock_name body ≡ option_map (λ k. k.name) c.clock
clock_name_back body c sound e = ap (λ xs. slice_get xs 0) (over_told clocks_told body (told_by c) e) ∙ named_by c sound (clock_case c sound)

-- The inputs are the first names, so that as many come before the clock as are allowed.
input_others : (c : Plain) → IsSound c → IfSome c.clock (λ k. AreOthers k.name (input_names c))
input_others c sound = by_clock c.clock (others_along c.clock c.names (input_names c ++ (latch_names c ++ gate_names c)) (names_split c sound) (others c sound))
  where
    by_clock : (clock : Option Clock) → IfSome clock (λ k. AreOthers k.name (input_names c ++ (latch_names c ++ gate_names c))) → IfSome clock (λ k. AreOthers k.name (input_names c))
    by_clock None h = tt
    by_clock (Some clock) h = (all_parts (λ m. m ≢ clock.name) (input_names c) (latch_names c ++ gate_names c) h).0

input_size : (c : Plain) → IsSound c → length (input_names c) ≡ input_count c.drives
input_size c sound =
    let few : input_count c.drives ≤ length c.names = omega (arith, count_by-le-length plain.is_input c.drives, sound.named) in
    ap length (input_names_first c sound) ∙ length-take (input_count c.drives) c.names ∙ min-eq_left few

clock_from : (clock : Clock) (edge : Option Edge) (declared : Bool) (place : Option ℕ) → edge ≡ clock.edge → declared ≡ clock.declared → place ≡ clock.place → Some (record { name = clock.name; edge = edge; declared = declared; place = place }) ≡ Some clock
clock_from clock edge declared place e d p = rw (e, d, p) refl

some_clock_back : (body : List Telling) (c : Plain) → IsSound c → Tells body c → (clock : Clock) → c.clock ≡ Some clock → clock_in body ≡ Some clock
some_clock_back body c sound e clock is =
    let name : clock_name body ≡ Some clock.name = clock_name_back body c sound e ∙ ap (λ k. option_map (λ x. x.name) k) is in
    let edge : slice_get (edges_of body) 0 ≡ clock.edge = ap (λ xs. slice_get xs 0) (over_told edges_told body (told_by c) e) ∙ edge_by c clock sound is (clock_case c sound) in
    let declared : list_any (λ m. bytes_eq clock.name m) (over declared_told body) ≡ clock.declared = ap (λ xs. list_any (λ m. bytes_eq clock.name m) xs) (over_told declared_told body (told_by c) e) ∙ declared_back c clock is in
    let P : Option Clock → Type 0 = λ o. IfSome o (λ k. AreOthers k.name (input_names c)) in
    let Q : Option Clock → Type 0 = λ o. IfSome o (IsClockOf (input_count c.drives) (latch_count c.drives)) in
    let apart : AreOthers clock.name (input_names c) = subst P is (input_others c sound) in
    let of : IsClockOf (input_count c.drives) (latch_count c.drives) clock = subst Q is sound.range.clock in
    let below : IfSome clock.place (λ before. before ≤ length (input_names c)) = subst (λ n. IfSome clock.place (λ before. before ≤ n)) (sym (input_size c sound)) of.place in
    let line : over inputs_told body ≡ with_clock (Some clock) (input_names c) = over_told inputs_told body (told_by c) e ∙ inputs_are c ∙ ap (λ k. with_clock k (input_names c)) is in
    let place : position (λ m. bytes_eq clock.name m) (over inputs_told body) ≡ clock.place = ap (λ xs. position (λ m. bytes_eq clock.name m) xs) line ∙ place_back clock (input_names c) below apart in
    ap (λ k. option_map (λ n. record { name = n; edge = slice_get (edges_of body) 0; declared = list_any (bytes_eq n) (over declared_told body); place = position (bytes_eq n) (over inputs_told body) }) k) name
    ∙ clock_from clock (slice_get (edges_of body) 0) (list_any (λ m. bytes_eq clock.name m) (over declared_told body)) (position (λ m. bytes_eq clock.name m) (over inputs_told body)) edge declared place

clock_back : (body : List Telling) (c : Plain) → IsSound c → Tells body c → c.clock ≡ clock_in body
clock_back body c sound e = by_clock c.clock refl
  where
    by_clock : (clock : Option Clock) → c.clock ≡ clock → c.clock ≡ clock_in body
    by_clock None is =
        let name : clock_name body ≡ None = clock_name_back body c sound e ∙ ap (λ k. option_map (λ x. x.name) k) is in
        is ∙ sym (ap (λ k. option_map (λ n. record { name = n; edge = slice_get (edges_of body) 0; declared = list_any (bytes_eq n) (over declared_told body); place = position (bytes_eq n) (over inputs_told body) }) k) name)
    by_clock (Some clock) is = is ∙ sym (some_clock_back body c sound e clock is)

read_inputs : (body : List Telling) (c : Plain) → IsSound c → Tells body c → inputs_of body ≡ input_names c
read_inputs body c sound e =
    ap (λ k. filter (λ n. not (is_named k n)) (over inputs_told body)) (clock_name_back body c sound e)
    ∙ ap (λ xs. filter (λ n. not (is_named (option_map (λ k. k.name) c.clock) n)) xs) (over_told inputs_told body (told_by c) e ∙ inputs_are c)
    ∙ inputs_back c.clock (input_names c) (input_others c sound)

read_names : (body : List Telling) (c : Plain) → IsSound c → Tells body c → read.names_of body ≡ c.names
read_names body c sound e =
    ap (λ xs. (xs ++ over latch_told body) ++ over gate_told body) (read_inputs body c sound e)
    ∙ ap (λ xs. (input_names c ++ xs) ++ over gate_told body) (over_told latch_told body (told_by c) e ∙ latches_are c)
    ∙ ap (λ xs. (input_names c ++ latch_names c) ++ xs) (over_told gate_told body (told_by c) e ∙ gates_are c)
    ∙ append_assoc (input_names c) (latch_names c) (gate_names c) ∙ sym (names_split c sound)

-- ---- what drives the signals

-- A drive as the statements tell it.
abbrev told_reading : Plain → Drive → Reading
told_reading c plain.input = read.input
told_reading c (plain.latch next init) = read.latch (Some (name_of c next)) init
told_reading c (plain.gate pins cover) = read.gate (map (λ n. Some n) (names_of c pins)) cover

signals_read : (c : Plain) (ss : List ℕ) → AllByRecursion (λ s. s < length c.names) ss → map (λ s. slice_get c.names s) ss ≡ map (λ n. Some n) (names_of c ss)
signals_read c [] h = refl
signals_read c (s ∷ ss) h = ap (λ x. x ∷ map (λ t. slice_get c.names t) ss) (slice_get-get_or c.names s [] h.0) ∙ ap (λ xs. Some (name_of c s) ∷ xs) (signals_read c ss h.1)

reading_same : (c : Plain) (d : Drive) → FitsDrive c d → reading c.names d ≡ told_reading c d
reading_same c plain.input h = refl
reading_same c (plain.latch next init) h = ap (λ x. read.latch x init) (slice_get-get_or c.names next [] h)
reading_same c (plain.gate pins cover) h = ap (λ xs. read.gate xs cover) (signals_read c pins h.0)

inputs_read : (c : Plain) (xs : List (List ℕ × Drive)) → inputs_by (λ n d. reading c.names d) xs ≡ map (λ n. read.input) (flat_map (λ s. input_name s.0 s.1) xs)
inputs_read c [] = refl
inputs_read c ((name, plain.input) ∷ xs) = ap (λ ys. read.input ∷ ys) (inputs_read c xs)
inputs_read c ((name, plain.latch next init) ∷ xs) = inputs_read c xs
inputs_read c ((name, plain.gate pins cover) ∷ xs) = inputs_read c xs

latches_same_reading : (c : Plain) (xs : List (List ℕ × Drive)) → AllByRecursion (Fits c) xs → latches_by (λ n d. reading c.names d) xs ≡ latches_by (λ n d. told_reading c d) xs
latches_same_reading c [] h = refl
latches_same_reading c ((name, plain.input) ∷ xs) h = latches_same_reading c xs h.1
latches_same_reading c ((name, plain.latch next init) ∷ xs) h =
    ap (λ x. x ∷ latches_by (λ n d. reading c.names d) xs) (reading_same c (plain.latch next init) h.0.drive) ∙ ap (λ ys. told_reading c (plain.latch next init) ∷ ys) (latches_same_reading c xs h.1)
latches_same_reading c ((name, plain.gate pins cover) ∷ xs) h = latches_same_reading c xs h.1

gates_same_reading : (c : Plain) (xs : List (List ℕ × Drive)) → AllByRecursion (Fits c) xs → gates_by (λ n d. reading c.names d) xs ≡ gates_by (λ n d. told_reading c d) xs
gates_same_reading c [] h = refl
gates_same_reading c ((name, plain.input) ∷ xs) h = gates_same_reading c xs h.1
gates_same_reading c ((name, plain.latch next init) ∷ xs) h = gates_same_reading c xs h.1
gates_same_reading c ((name, plain.gate pins cover) ∷ xs) h =
    ap (λ x. x ∷ gates_by (λ n d. reading c.names d) xs) (reading_same c (plain.gate pins cover) h.0.drive) ∙ ap (λ ys. told_reading c (plain.gate pins cover) ∷ ys) (gates_same_reading c xs h.1)

latches_read_are : (c : Plain) → flat_map latches_read (told_by c) ≡ latches_by (λ n d. told_reading c d) (signals_of c)
latches_read_are c =
    parts_give latches_read c [] [] [] (latches_by (λ n d. told_reading c d) (signals_of c)) [] refl refl (clock_gives_none latches_read c.clock (λ names. refl))
    (latches_give latches_read (λ n d. told_reading c d) c (signals_of c) (λ name next init. refl)) (gates_give_none latches_read c (signals_of c) (λ name pins cover. refl))
    ∙ append-nil (latches_by (λ n d. told_reading c d) (signals_of c))

gates_read_are : (c : Plain) → flat_map gates_read (told_by c) ≡ gates_by (λ n d. told_reading c d) (signals_of c)
gates_read_are c =
    parts_give gates_read c [] [] [] [] (gates_by (λ n d. told_reading c d) (signals_of c)) refl refl (clock_gives_none gates_read c.clock (λ names. refl))
    (latches_give_none gates_read c (signals_of c) (λ name next init. refl)) (gates_give gates_read (λ n d. told_reading c d) c (signals_of c) (λ name pins cover. refl))

read_drives : (body : List Telling) (c : Plain) → IsSound c → AllByRecursion (Fits c) (signals_of c) → Tells body c → map (reading c.names) c.drives ≡ readings_of body
read_drives body c sound fits e =
    let xs = signals_of c in
    let ls = latches_by (λ n d. told_reading c d) xs in
    let gs = gates_by (λ n d. told_reading c d) xs in
    let ins = map (λ n. read.input) (input_names c) in
    let told_latches : flat_map (λ t. latches_read t.what) body ≡ ls = over_told latches_read body (told_by c) e ∙ latches_read_are c in
    let told_gates : flat_map (λ t. gates_read t.what) body ≡ gs = over_told gates_read body (told_by c) e ∙ gates_read_are c in
    drives_by_kind (reading c.names) c sound
    ∙ ap (λ x. x ++ (latches_by (λ n d. reading c.names d) xs ++ gates_by (λ n d. reading c.names d) xs)) (inputs_read c xs ∙ ap (λ ns. map (λ n. read.input) ns) (sym (input_names_flat c)))
    ∙ ap (λ x. ins ++ (x ++ gates_by (λ n d. reading c.names d) xs)) (latches_same_reading c xs fits)
    ∙ ap (λ x. ins ++ (ls ++ x)) (gates_same_reading c xs fits)
    ∙ sym (append_assoc ins ls gs)
    ∙ ap (λ x. (map (λ n. read.input) x ++ ls) ++ gs) (sym (read_inputs body c sound e))
    ∙ ap (λ x. (map (λ n. read.input) (inputs_of body) ++ x) ++ gs) (sym told_latches)
    ∙ ap (λ x. (map (λ n. read.input) (inputs_of body) ++ flat_map (λ t. latches_read t.what) body) ++ x) (sym told_gates)

read_outputs : (body : List Telling) (c : Plain) → IsSound c → Tells body c → map (slice_get c.names) c.outputs ≡ map (λ n. Some n) (over outputs_told body)
read_outputs body c sound e =
    signals_read c c.outputs (outputs_inside c sound) ∙ ap (λ xs. map (λ n. Some n) xs) (sym (over_told outputs_told body (told_by c) e ∙ outputs_are c))

-- ---- no name is at fault

-- The name of a signal.
abbrev IsNameOf : Plain → List ℕ → Type 0
IsNameOf c n = (s : ℕ) × (s < length c.names) × (n ≡ name_of c s)

names_are : (c : Plain) (ss : List ℕ) → AllByRecursion (λ s. s < length c.names) ss → AllByRecursion (IsNameOf c) (names_of c ss)
names_are c [] h = tt
names_are c (s ∷ ss) h = ((s, h.0, refl), names_are c ss h.1)

uses_of_clock : (c : Plain) (clock : Option Clock) → AllByRecursion (IsNameOf c) (flat_map uses_told (clock_told clock))
uses_of_clock c None = tt
uses_of_clock c (Some clock) = by_declared clock.declared
  where
    by_declared : (b : Bool) → AllByRecursion (IsNameOf c) (flat_map uses_told (cond b (told.clock (clock.name ∷ []) ∷ []) []))
    by_declared true = tt
    by_declared false = tt

uses_of_latches : (c : Plain) (xs : List (List ℕ × Drive)) → AllByRecursion (Fits c) xs → AllByRecursion (IsNameOf c) (flat_map uses_told (flat_map (λ s. written.latch_told c s.0 s.1) xs))
uses_of_latches c [] h = tt
uses_of_latches c ((name, plain.input) ∷ xs) h = uses_of_latches c xs h.1
uses_of_latches c ((name, plain.latch next init) ∷ xs) h = ((next, h.0.drive, refl), uses_of_latches c xs h.1)
uses_of_latches c ((name, plain.gate pins cover) ∷ xs) h = uses_of_latches c xs h.1

uses_of_gates : (c : Plain) (xs : List (List ℕ × Drive)) → AllByRecursion (Fits c) xs → AllByRecursion (IsNameOf c) (flat_map uses_told (flat_map (λ s. written.gate_told c s.0 s.1) xs))
uses_of_gates c [] h = tt
uses_of_gates c ((name, plain.input) ∷ xs) h = uses_of_gates c xs h.1
uses_of_gates c ((name, plain.latch next init) ∷ xs) h = uses_of_gates c xs h.1
uses_of_gates c ((name, plain.gate pins cover) ∷ xs) h =
    all_append (IsNameOf c) (names_of c pins) (flat_map uses_told (flat_map (λ s. written.gate_told c s.0 s.1) xs)) (names_are c pins h.0.drive.0) (uses_of_gates c xs h.1)

uses_are_names : (c : Plain) → IsSound c → AllByRecursion (Fits c) (signals_of c) → AllByRecursion (IsNameOf c) (flat_map uses_told (told_by c))
uses_are_names c sound fits =
    let xs = signals_of c in
    let clocks = flat_map uses_told (clock_told c.clock) in
    let latches = flat_map uses_told (flat_map (λ s. written.latch_told c s.0 s.1) xs) in
    let gates = flat_map uses_told (flat_map (λ s. written.gate_told c s.0 s.1) xs) in
    subst (λ ns. AllByRecursion (IsNameOf c) ns) (sym (parts_give uses_told c [] (names_of c c.outputs) clocks latches gates refl refl refl refl refl))
    (all_append (IsNameOf c) (names_of c c.outputs) (clocks ++ (latches ++ gates)) (names_are c c.outputs (outputs_inside c sound))
    (all_append (IsNameOf c) clocks (latches ++ gates) (uses_of_clock c c.clock) (all_append (IsNameOf c) latches gates (uses_of_latches c xs fits) (uses_of_gates c xs fits))))

any_none : (test : List ℕ → Bool) (ns : List (List ℕ)) → AllByRecursion (λ n. test n ≡ false) ns → list_any test ns ≡ false
any_none test [] h = refl
any_none test (n ∷ ns) h = let here : test n ≡ false = h.0 in rw here (any_none test ns h.1)

none_with : (names : Told → List (List ℕ)) (test : List ℕ → Bool) (kind : BlifKind) (body : List Telling) → AllByRecursion (λ n. test n ≡ false) (flat_map (λ t. names t.what) body) → first_with names test kind body ≡ None
none_with names test kind [] h = refl
none_with names test kind (t ∷ body) h =
    let parts = all_parts (λ n. test n ≡ false) (names t.what) (flat_map (λ x. names x.what) body) h in
    let here : list_any test (names t.what) ≡ false = any_none test (names t.what) parts.0 in
    rw here (none_with names test kind body parts.1)

no_lines : (names : Told → List (List ℕ)) (test : List ℕ → Bool) (body : List Telling) → AllByRecursion (λ n. test n ≡ false) (flat_map (λ t. names t.what) body) → lines_with names test body ≡ []
no_lines names test [] h = refl
no_lines names test (t ∷ body) h =
    let parts = all_parts (λ n. test n ≡ false) (names t.what) (flat_map (λ x. names x.what) body) h in
    let here : list_any test (names t.what) ≡ false = any_none test (names t.what) parts.0 in
    rw here (no_lines names test body parts.1)

none_least : (names : Told → List (List ℕ)) (test : List ℕ → Bool) (kind : BlifKind) (body : List Telling) → AllByRecursion (λ n. test n ≡ false) (flat_map (λ t. names t.what) body) → least_with names test kind body ≡ None
none_least names test kind body h = ap (λ lines. option_map {U = Faulty} (λ (line : ℕ). (line, kind)) (least lines)) (no_lines names test body h)

any_at : (names : List (List ℕ)) (s : ℕ) → s < length names → list_any (λ m. bytes_eq (get_or names s []) m) names ≡ true
any_at [] s h = absurd (omega arith)
any_at (n ∷ names) zero h = let here : bytes_eq n n ≡ true = same_bytes n n refl in rw here refl
any_at (n ∷ names) (suc s) h = or_true (bytes_eq (get_or names s []) n) (list_any (λ m. bytes_eq (get_or names s []) m) names) (any_at names s (omega arith))
  where
    or_true : (a b : Bool) → b ≡ true → (a || b) ≡ true
    or_true true b e = refl
    or_true false b e = e

any_with : (p : List ℕ → Bool) (xs : List (List ℕ)) (k : List ℕ) (ys : List (List ℕ)) → list_any p (xs ++ ys) ≡ true → list_any p (xs ++ k ∷ ys) ≡ true
any_with p [] k ys h = or_true (p k) (list_any p ys) h
  where
    or_true : (a b : Bool) → b ≡ true → (a || b) ≡ true
    or_true true b e = refl
    or_true false b e = e
any_with p (x ∷ xs) k ys h = either (p x) (list_any p (xs ++ ys)) (list_any p (xs ++ k ∷ ys)) (any_with p xs k ys) h
  where
    either : (a b d : Bool) → (b ≡ true → d ≡ true) → (a || b) ≡ true → (a || d) ≡ true
    either true b d f e = refl
    either false b d f e = f e

any_in_line : (p : List ℕ → Bool) (clock : Option Clock) (names rest : List (List ℕ)) → list_any p (names ++ rest) ≡ true → list_any p (with_clock clock names ++ rest) ≡ true
any_in_line p None names rest h = h
any_in_line p (Some clock) names rest h = by_place clock.place
  where
    by_place : (place : Option ℕ) → list_any p (with_clock (Some (record clock { place = place })) names ++ rest) ≡ true
    by_place None = h
    by_place (Some q) =
        let whole : take q names ++ (drop q names ++ rest) ≡ names ++ rest = sym (append_assoc (take q names) (drop q names) rest) ∙ ap (λ xs. xs ++ rest) (take-append-drop q names) in
        ap (λ xs. list_any p xs) (append_assoc (take q names) (clock.name ∷ drop q names) rest)
        ∙ any_with p (take q names) clock.name (drop q names ++ rest) (ap (λ xs. list_any p xs) whole ∙ h)

name_is_driven : (body : List Telling) (c : Plain) → IsSound c → Tells body c → (n : List ℕ) → IsNameOf c n → is_driven body n ≡ true
name_is_driven body c sound e n is =
    let rest = latch_names c ++ gate_names c in
    let among : list_any (λ m. bytes_eq n m) c.names ≡ true = ap (λ x. list_any (λ m. bytes_eq x m) c.names) is.2 ∙ any_at c.names is.0 is.1 in
    ap (λ xs. list_any (λ m. bytes_eq n m) xs) (over_told drivers_told body (told_by c) e ∙ drivers_are c)
    ∙ any_in_line (λ m. bytes_eq n m) c.clock (input_names c) rest (ap (λ xs. list_any (λ m. bytes_eq n m) xs) (sym (names_split c sound)) ∙ among)

other_at : (k : List ℕ) (names : List (List ℕ)) (s : ℕ) → AreOthers k names → s < length names → get_or names s [] ≢ k
other_at k [] s h inside = absurd (omega arith)
other_at k (n ∷ names) zero h inside = h.0
other_at k (n ∷ names) (suc s) h inside = other_at k names s h.1 (omega arith)

other_is_no_clock : (clock : Option Clock) (n : List ℕ) → IfSome clock (λ k. n ≢ k.name) → is_named (option_map (λ k. k.name) clock) n ≡ false
other_is_no_clock None n h = refl
other_is_no_clock (Some clock) n h = ne_bytes n clock.name h

name_is_no_clock : (body : List Telling) (c : Plain) → IsSound c → Tells body c → (n : List ℕ) → IsNameOf c n → is_clock body n ≡ false
name_is_no_clock body c sound e n is = ap (λ k. is_named k n) (clock_name_back body c sound e) ∙ other_is_no_clock c.clock n (apart c.clock (others c sound))
  where
    apart : (clock : Option Clock) → IfSome clock (λ k. AreOthers k.name c.names) → IfSome clock (λ k. n ≢ k.name)
    apart None h = tt
    apart (Some clock) h = (λ same. other_at clock.name c.names is.0 h is.1 (sym is.2 ∙ same))

made_are_no_clock : (body : List Telling) (c : Plain) → IsSound c → Tells body c → AllByRecursion (λ n. is_clock body n ≡ false) (latch_names c ++ gate_names c)
made_are_no_clock body c sound e =
    let rest = latch_names c ++ gate_names c in
    subst (λ k. AllByRecursion (λ n. is_named k n ≡ false) rest) (sym (clock_name_back body c sound e)) (by_clock c.clock (others_along c.clock c.names (input_names c ++ rest) (names_split c sound) (others c sound)))
  where
    by_clock : (clock : Option Clock) → IfSome clock (λ k. AreOthers k.name (input_names c ++ (latch_names c ++ gate_names c))) → AllByRecursion (λ n. is_named (option_map (λ k. k.name) clock) n ≡ false) (latch_names c ++ gate_names c)
    by_clock None h = each (latch_names c ++ gate_names c)
      where
        each : (ns : List (List ℕ)) → AllByRecursion (λ n. is_named (option_map (λ (k : Clock). k.name) None) n ≡ false) ns
        each [] = tt
        each (n ∷ ns) = (refl, each ns)
    by_clock (Some clock) h =
        all_map (λ m. m ≢ clock.name) (λ n. bytes_eq n clock.name ≡ false) (λ m ne. ne_bytes m clock.name ne) (latch_names c ++ gate_names c)
        (all_parts (λ m. m ≢ clock.name) (input_names c) (latch_names c ++ gate_names c) h).1

-- No name is undriven, made by a gated clock, or a clock used as data, and the signals are few.
names_lawful : (body : List Telling) (c : Plain) → IsSound c → AllByRecursion (Fits c) (signals_of c) → Tells body c → fault_in_names 900000 body ≡ None
names_lawful body c sound fits e =
    let uses : AllByRecursion (IsNameOf c) (flat_map (λ t. uses_told t.what) body) = subst (λ ns. AllByRecursion (IsNameOf c) ns) (sym (over_told uses_told body (told_by c) e)) (uses_are_names c sound fits) in
    let first : least_with uses_told (λ n. not (is_driven body n || is_clock body n)) Undriven body ≡ None =
    none_least uses_told (λ n. not (is_driven body n || is_clock body n)) Undriven body
    (all_map (IsNameOf c) (λ n. not (is_driven body n || is_clock body n) ≡ false) (λ n is. ap (λ b. not (b || is_clock body n)) (name_is_driven body c sound e n is)) (flat_map (λ t. uses_told t.what) body) uses) in
    let second : first_with made_told (is_clock body) GatedClock body ≡ None =
    none_with made_told (λ n. is_clock body n) GatedClock body
    (subst (λ ns. AllByRecursion (λ n. is_clock body n ≡ false) ns) (sym (over_told made_told body (told_by c) e ∙ made_are c)) (made_are_no_clock body c sound e)) in
    let third : least_with uses_told (is_clock body) ClockAsData body ≡ None =
    none_least uses_told (λ n. is_clock body n) ClockAsData body
    (all_map (IsNameOf c) (λ n. is_clock body n ≡ false) (name_is_no_clock body c sound e) (flat_map (λ t. uses_told t.what) body) uses) in
    let size : length (read.names_of body) ≤ 900000 = omega (arith, ap length (read_names body c sound e), sound.named, sound.few) in
    let few : ltb 900000 (length (read.names_of body)) ≡ false = le-ltb 900000 (length (read.names_of body)) size in
    four (least_with uses_told (λ n. not (is_driven body n || is_clock body n)) Undriven body) (first_with made_told (is_clock body) GatedClock body) (least_with uses_told (is_clock body) ClockAsData body) (ltb 900000 (length (read.names_of body))) first second third few
  where
    four : (x y z : Option Faulty) (b : Bool) → x ≡ None → y ≡ None → z ≡ None → b ≡ false → option_or x (option_or y (option_or z (cond b (Some (0, TooManySignals)) None))) ≡ None
    four x y z b h1 h2 h3 h4 = rw (h1, h2, h3, h4) refl

-- ---- the whole

-- The lines of the statements of a circuit.
abbrev lines_of_circuit : Plain → List Line
lines_of_circuit c = numbered 1 (flat_map lines_in (statements_of c))

model_name : (c : Plain) → AllByRecursion IsStatement (statements_of c) → (model_in (lines_of_circuit c)).name ≡ c.model
model_name c are =
    let line : Line = record { number = 1; words = codes ".model" ∷ c.model ∷ [] } in
    let rest = map (λ (b : Block). b.head) (blocks 2 (drop 1 (statements_of c))) in
    ap (λ bs. unwrap_or (option_map (λ l. word_at (further l) 0) (find (λ l. is_model (keyword_in l)) (map (λ (b : Block). b.head) bs))) (codes "top")) (blocks_back 1 (statements_of c) are)
    ∙ ap (λ k. unwrap_or (option_map (λ l. word_at (further l) 0) (cond (is_model k) (Some line) (find (λ l. is_model (keyword_in l)) rest))) (codes "top")) at_model

-- The words of the text are the lines of the statements.
pub words_back : (limits : Limits) (c : Plain) → limits.name ≡ 1023 → IsSound c → AllByRecursion IsEvenDrive c.drives → words_of limits.name false (text_of c) ≡ Ok (lines_of_circuit c)
words_back limits c name sound even =
    let statements = statements_of c in
    let words : words_of 1023 false (lines_text (flat_map lines_in statements)) ≡ Ok (lines_of_circuit c) = words_written (flat_map lines_in statements) (lines_of_lawful statements (statements_lawful c sound even)) in
    let text : lines_text (flat_map lines_in statements) ≡ text_of c = ap lines_text (statements_same c) in
    ap (λ n. words_of n false (text_of c)) name ∙ ap (λ t. words_of 1023 false t) (sym text) ∙ words

-- The lines have the circuit.
pub lines_have : (limits : Limits) (c : Plain) → limits.signals ≡ 900000 → IsSound c → AllByRecursion IsEvenDrive c.drives → IsCircuitOfLines limits (lines_of_circuit c) c
lines_have limits c signals sound even =
    let lines = lines_of_circuit c in
    let fits = fits_of c sound even in
    let are = statements_of_lawful (statements_of c) (statements_lawful c sound even) in
    let body = body_of lines in
    let tells : Tells body c = ap (λ bs. map (λ t. t.what) (filter_map telling_in bs)) (blocks_back 1 (statements_of c) are) ∙ circuit_tells c sound.names.clock fits 1 in
    let P : ℕ → Type 0 = λ n. IsCircuitOfModel n (model_in lines) c in
    let model : IsCircuitOfModel 900000 (model_in lines) c = record {
      lawful = names_lawful body c sound fits tells;
      spelled = record {
        model = sym (model_name c are);
        clock = clock_back body c sound tells;
        names = sym (read_names body c sound tells);
        drives = read_drives body c sound fits tells;
        outputs = read_outputs body c sound tells;
      };
      open_ended = no_circle c sound;
    } in
    record { lawful = no_fault_written c sound.names.clock fits (all_apart c sound) are; circuit = subst P (sym signals) model }

pub circuit_back : (limits : Limits) (c : Plain) → limits.signals ≡ 900000 → limits.name ≡ 1023 → IsSound c → AllByRecursion IsEvenDrive c.drives → IsCircuitOf limits (text_of c) c
circuit_back limits c signals name sound even =
    subst (λ r. IsOkAnd r (λ ls. IsCircuitOfLines limits ls c)) (sym (words_back limits c name sound even)) (lines_have limits c signals sound even)

-- What holds of each gate holds of all drives.
even_drives : (c : Plain) → ((s : ℕ) → s < length c.drives → IsEvenDrive (plain.drive c s)) → AllByRecursion IsEvenDrive c.drives
even_drives c even = recursion_from_All IsEvenDrive c.drives (λ k d inside. subst IsEvenDrive (get_or_default c.drives k (plain.latch k false) d inside) (even k inside))

-- The text of a circuit whose gates have even covers has the circuit, with limits that no circuit exceeds.
pub text_back : (limits : Limits) (c : Plain) → limits.signals ≡ 900000 → limits.name ≡ 1023 → IsSound c → ((s : ℕ) → s < length c.drives → IsEvenDrive (plain.drive c s)) → IsCircuitOf limits (text_of c) c
text_back limits c signals name sound even = circuit_back limits c signals name sound (even_drives c even)

-- It has no other circuit.
pub text_once : (limits : Limits) (c : Plain) → limits.signals ≡ 900000 → limits.name ≡ 1023 → IsSound c → ((s : ℕ) → s < length c.drives → IsEvenDrive (plain.drive c s)) → (other : Plain) → IsCircuitOf limits (text_of c) other → other ≡ c
text_once limits c signals name sound even other has =
    let evens = even_drives c even in
    let lines : IsCircuitOfLines limits (lines_of_circuit c) other = subst (λ r. IsOkAnd r (λ ls. IsCircuitOfLines limits ls other)) (words_back limits c name sound evens) has in
    spelled_once (model_in (lines_of_circuit c)) c other sound (names_apart c sound) (lines_have limits c signals sound evens).circuit.spelled lines.circuit.spelled
