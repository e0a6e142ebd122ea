-- The statements that are written spell the circuit.
use Rattle.std.proofs.Common.{◌≡◌, ◌≢◌, ℕ, ◌<◌, ◌≤◌, ◌++◌, List, [], ◌∷◌, Bool, true, false, not, cond, ltb, length, take, drop, Some, None, Option, refl, sym, ap, ◌∙◌, subst, arith, length-append}
use Rattle.std.specs.Prelude.{IfSome, is_some, bytes_eq, option_map, slice_get, filter, position}
use Rattle.std.specs.List.{flat_map, list_any, prefix_len, position_or_len, AllByRecursion}
use Rattle.std.specs.Option.{option_to_list}
use Rattle.std.proofs.lemmas.Bool.{le-ltb, lt-ltb}
use Rattle.std.proofs.Math.Nat.{min-eq_left}
use Rattle.std.proofs.lemmas.List.{append-nil, length-take, take-append-drop}
use Rattle.std.proofs.lemmas.List.Elements.{filter-append}
use Rattle.std.proofs.lemmas.Grind.{flat_map-append}
use Rattle.tm_bits.specs.Rows.{Rows}
use Rattle.tm_circuit.specs.declared.parts.Clock.{Clock}
use Rattle.tm_circuit.specs.declared.parts.Edge.{Edge}
use Rattle.tm_circuit.specs.Plain.{Plain, Drive, input_count, latch_count}
use Rattle.tm_circuit.specs.Plain as plain
use Rattle.tm_circuit.specs.Sound.{IsSound, IsClockOf}
use Rattle.blif_read.specs.Unit.{Told, inputs_told, outputs_told, latch_told, gate_told, drivers_told, clocks_told, control_told}
use Rattle.blif_read.specs.Unit as told
use Rattle.blif_read.specs.Circuit.{is_named, declared_told, made_told}
use Rattle.blif_write.specs.Text.{signals_of, name_of, names_of, with_clock}
use Rattle.tm_circuit.specs.Same.{input_names}
use Rattle.blif_write.proofs.Order.{input_name, input_names_flat}
use Rattle.blif_write.proofs.ByKind.{inputs_by, latches_by, gates_by, names_by_kind, first_of_latches}
use Rattle.blif_write.proofs.Reading.{clock_told, told_by, ne_bytes, same_bytes}
use Rattle.blif_write.proofs.Reading as written
use Rattle.blif_write.proofs.Faults.{latch_name, gate_name}
use Rattle.blif_write.proofs.Lists.{all_map, all_take, all_drop}

-- ---- lists of signals

flat_same : {X A : Type 0} (f g : X → List A) (xs : List X) → ((x : X) → f x ≡ g x) → flat_map f xs ≡ flat_map g xs
flat_same f g [] h = refl
flat_same f g (x ∷ xs) h = ap (λ y. y ++ flat_map f xs) (h x) ∙ ap (λ ys. g x ++ ys) (flat_same f g xs h)

flat_flat : {X Y A : Type 0} (f : Y → List A) (g : X → List Y) (xs : List X) → flat_map f (flat_map g xs) ≡ flat_map (λ x. flat_map f (g x)) xs
flat_flat f g [] = refl
flat_flat f g (x ∷ xs) = flat_map-append f (g x) (flat_map g xs) ∙ ap (λ ys. flat_map f (g x) ++ ys) (flat_flat f g xs)

flat_none : {X A : Type 0} (f : X → List A) (xs : List X) → ((x : X) → f x ≡ []) → flat_map f xs ≡ []
flat_none f [] h = refl
flat_none f (x ∷ xs) h = ap (λ y. y ++ flat_map f xs) (h x) ∙ flat_none f xs h

-- What a function of what is told gives for the statements of latches and of gates.
pub latches_give : {A : Type 0} (f : Told → List A) (v : List ℕ → Drive → A) (c : Plain) (xs : List (List ℕ × Drive)) → ((name : List ℕ) (next : ℕ) (init : Bool) → f (told.latch (name_of c next) name init (written.control_of c.clock)) ≡ v name (plain.latch next init) ∷ [])
    → flat_map f (flat_map (λ s. written.latch_told c s.0 s.1) xs) ≡ latches_by v xs
latches_give f v c [] h = refl
latches_give f v c ((name, plain.input) ∷ xs) h = latches_give f v c xs h
latches_give f v c ((name, plain.latch next init) ∷ xs) h =
    ap (λ y. y ++ flat_map f (flat_map (λ s. written.latch_told c s.0 s.1) xs)) (h name next init) ∙ ap (λ ys. v name (plain.latch next init) ∷ ys) (latches_give f v c xs h)
latches_give f v c ((name, plain.gate pins cover) ∷ xs) h = latches_give f v c xs h

pub latches_give_none : {A : Type 0} (f : Told → List A) (c : Plain) (xs : List (List ℕ × Drive)) → ((name : List ℕ) (next : ℕ) (init : Bool) → f (told.latch (name_of c next) name init (written.control_of c.clock)) ≡ [])
    → flat_map f (flat_map (λ s. written.latch_told c s.0 s.1) xs) ≡ []
latches_give_none f c [] h = refl
latches_give_none f c ((name, plain.input) ∷ xs) h = latches_give_none f c xs h
latches_give_none f c ((name, plain.latch next init) ∷ xs) h = ap (λ y. y ++ flat_map f (flat_map (λ s. written.latch_told c s.0 s.1) xs)) (h name next init) ∙ latches_give_none f c xs h
latches_give_none f c ((name, plain.gate pins cover) ∷ xs) h = latches_give_none f c xs h

pub gates_give : {A : Type 0} (f : Told → List A) (v : List ℕ → Drive → A) (c : Plain) (xs : List (List ℕ × Drive)) → ((name : List ℕ) (pins : List ℕ) (cover : Rows) → f (told.gate (names_of c pins) name cover) ≡ v name (plain.gate pins cover) ∷ [])
    → flat_map f (flat_map (λ s. written.gate_told c s.0 s.1) xs) ≡ gates_by v xs
gates_give f v c [] h = refl
gates_give f v c ((name, plain.input) ∷ xs) h = gates_give f v c xs h
gates_give f v c ((name, plain.latch next init) ∷ xs) h = gates_give f v c xs h
gates_give f v c ((name, plain.gate pins cover) ∷ xs) h =
    ap (λ y. y ++ flat_map f (flat_map (λ s. written.gate_told c s.0 s.1) xs)) (h name pins cover) ∙ ap (λ ys. v name (plain.gate pins cover) ∷ ys) (gates_give f v c xs h)

pub gates_give_none : {A : Type 0} (f : Told → List A) (c : Plain) (xs : List (List ℕ × Drive)) → ((name : List ℕ) (pins : List ℕ) (cover : Rows) → f (told.gate (names_of c pins) name cover) ≡ [])
    → flat_map f (flat_map (λ s. written.gate_told c s.0 s.1) xs) ≡ []
gates_give_none f c [] h = refl
gates_give_none f c ((name, plain.input) ∷ xs) h = gates_give_none f c xs h
gates_give_none f c ((name, plain.latch next init) ∷ xs) h = gates_give_none f c xs h
gates_give_none f c ((name, plain.gate pins cover) ∷ xs) h = ap (λ y. y ++ flat_map f (flat_map (λ s. written.gate_told c s.0 s.1) xs)) (h name pins cover) ∙ gates_give_none f c xs h

pub clock_gives_none : {A : Type 0} (f : Told → List A) (clock : Option Clock) → ((names : List (List ℕ)) → f (told.clock names) ≡ []) → flat_map f (clock_told clock) ≡ []
clock_gives_none f None h = refl
clock_gives_none {A} f (Some clock) h = by_declared clock.declared
  where
    by_declared : (b : Bool) → flat_map f (cond b (told.clock (clock.name ∷ []) ∷ []) []) ≡ []
    by_declared true = ap (λ y. y ++ []) (h (clock.name ∷ []))
    by_declared false = refl

-- The parts of what is told.
pub parts_give : {A : Type 0} (f : Told → List A) (c : Plain) (ins outs clocks latches gates : List A) → f (told.inputs (with_clock c.clock (input_names c))) ≡ ins → f (told.outputs (names_of c c.outputs)) ≡ outs → flat_map f (clock_told c.clock) ≡ clocks
    → flat_map f (flat_map (λ s. written.latch_told c s.0 s.1) (signals_of c)) ≡ latches → flat_map f (flat_map (λ s. written.gate_told c s.0 s.1) (signals_of c)) ≡ gates
    → flat_map f (told_by c) ≡ ins ++ (outs ++ (clocks ++ (latches ++ gates)))
parts_give f c ins outs clocks latches gates i o k l g =
    let ts = flat_map (λ s. written.latch_told c s.0 s.1) (signals_of c) in
    let gs = flat_map (λ s. written.gate_told c s.0 s.1) (signals_of c) in
    let two : flat_map f (ts ++ gs) ≡ latches ++ gates = flat_map-append f ts gs ∙ ap (λ x. x ++ flat_map f gs) l ∙ ap (λ x. latches ++ x) g in
    let three : flat_map f (clock_told c.clock ++ (ts ++ gs)) ≡ clocks ++ (latches ++ gates) = flat_map-append f (clock_told c.clock) (ts ++ gs) ∙ ap (λ x. x ++ flat_map f (ts ++ gs)) k ∙ ap (λ x. clocks ++ x) two in
    ap (λ x. x ++ (f (told.outputs (names_of c c.outputs)) ++ flat_map f (clock_told c.clock ++ (ts ++ gs)))) i
    ∙ ap (λ x. ins ++ (x ++ flat_map f (clock_told c.clock ++ (ts ++ gs)))) o ∙ ap (λ x. ins ++ (outs ++ x)) three

-- ---- names

-- Names by kind.
abbrev pub name_itself : List ℕ → Drive → List ℕ
name_itself n d = n

abbrev pub latch_names : Plain → List (List ℕ)
latch_names c = latches_by name_itself (signals_of c)

abbrev pub gate_names : Plain → List (List ℕ)
gate_names c = gates_by name_itself (signals_of c)

abbrev pub line_names : Plain → List (List ℕ)
line_names c = with_clock c.clock (input_names c)

pub inputs_same : (xs : List (List ℕ × Drive)) → inputs_by name_itself xs ≡ flat_map (λ s. input_name s.0 s.1) xs
inputs_same [] = refl
inputs_same ((name, plain.input) ∷ xs) = ap (λ ys. name ∷ ys) (inputs_same xs)
inputs_same ((name, plain.latch next init) ∷ xs) = inputs_same xs
inputs_same ((name, plain.gate pins cover) ∷ xs) = inputs_same xs

pub latches_same : (xs : List (List ℕ × Drive)) → latches_by name_itself xs ≡ flat_map (λ s. latch_name s.0 s.1) xs
latches_same [] = refl
latches_same ((name, plain.input) ∷ xs) = latches_same xs
latches_same ((name, plain.latch next init) ∷ xs) = ap (λ ys. name ∷ ys) (latches_same xs)
latches_same ((name, plain.gate pins cover) ∷ xs) = latches_same xs

pub gates_same : (xs : List (List ℕ × Drive)) → gates_by name_itself xs ≡ flat_map (λ s. gate_name s.0 s.1) xs
gates_same [] = refl
gates_same ((name, plain.input) ∷ xs) = gates_same xs
gates_same ((name, plain.latch next init) ∷ xs) = gates_same xs
gates_same ((name, plain.gate pins cover) ∷ xs) = ap (λ ys. name ∷ ys) (gates_same xs)

-- The names of a circuit are those of its inputs, its latches and its gates.
pub names_split : (c : Plain) → IsSound c → c.names ≡ input_names c ++ (latch_names c ++ gate_names c)
names_split c sound = names_by_kind c sound ∙ ap (λ xs. xs ++ (latch_names c ++ gate_names c)) (inputs_same (signals_of c) ∙ sym (input_names_flat c))

pub inputs_are : (c : Plain) → flat_map inputs_told (told_by c) ≡ line_names c
inputs_are c =
    parts_give inputs_told c (line_names c) [] [] [] [] refl refl (clock_gives_none inputs_told c.clock (λ names. refl))
    (latches_give_none inputs_told c (signals_of c) (λ name next init. refl)) (gates_give_none inputs_told c (signals_of c) (λ name pins cover. refl))
    ∙ append-nil (line_names c)

pub outputs_are : (c : Plain) → flat_map outputs_told (told_by c) ≡ names_of c c.outputs
outputs_are c =
    parts_give outputs_told c [] (names_of c c.outputs) [] [] [] refl refl (clock_gives_none outputs_told c.clock (λ names. refl))
    (latches_give_none outputs_told c (signals_of c) (λ name next init. refl)) (gates_give_none outputs_told c (signals_of c) (λ name pins cover. refl))
    ∙ append-nil (names_of c c.outputs)

pub latches_are : (c : Plain) → flat_map latch_told (told_by c) ≡ latch_names c
latches_are c =
    parts_give latch_told c [] [] [] (latch_names c) [] refl refl (clock_gives_none latch_told c.clock (λ names. refl))
    (latches_give latch_told name_itself c (signals_of c) (λ name next init. refl)) (gates_give_none latch_told c (signals_of c) (λ name pins cover. refl))
    ∙ append-nil (latch_names c)

pub gates_are : (c : Plain) → flat_map gate_told (told_by c) ≡ gate_names c
gates_are c =
    parts_give gate_told c [] [] [] [] (gate_names c) refl refl (clock_gives_none gate_told c.clock (λ names. refl))
    (latches_give_none gate_told c (signals_of c) (λ name next init. refl)) (gates_give gate_told name_itself c (signals_of c) (λ name pins cover. refl))

pub drivers_are : (c : Plain) → flat_map drivers_told (told_by c) ≡ line_names c ++ (latch_names c ++ gate_names c)
drivers_are c =
    parts_give drivers_told c (line_names c) [] [] (latch_names c) (gate_names c) (append-nil (line_names c ++ []) ∙ append-nil (line_names c)) refl (clock_gives_none drivers_told c.clock (λ names. refl))
    (latches_give drivers_told name_itself c (signals_of c) (λ name next init. refl)) (gates_give drivers_told name_itself c (signals_of c) (λ name pins cover. refl))

pub made_are : (c : Plain) → flat_map made_told (told_by c) ≡ latch_names c ++ gate_names c
made_are c =
    parts_give made_told c [] [] [] (latch_names c) (gate_names c) refl refl (clock_gives_none made_told c.clock (λ names. refl))
    (latches_give made_told name_itself c (signals_of c) (λ name next init. refl)) (gates_give made_told name_itself c (signals_of c) (λ name pins cover. refl))

-- ---- the clock

first_append : {A : Type 0} (a : A) (xs ys : List A) → slice_get xs 0 ≡ Some a → slice_get (xs ++ ys) 0 ≡ Some a
first_append a [] ys h = absurd (cc)
first_append a (x ∷ xs) ys h = h

edged_control : (clock : Clock) (edge : Edge) → clock.edge ≡ Some edge → written.control_of (Some clock) ≡ Some (record { name = clock.name; edge = edge })
edged_control clock edge e =
    let P : Option Edge → Type 0 = λ x. written.control_of (Some (record clock { edge = x })) ≡ Some (record { name = clock.name; edge = edge }) in
    subst P (sym e) refl

no_control : (clock : Clock) → clock.edge ≡ None → written.control_of (Some clock) ≡ None
no_control clock e =
    let P : Option Edge → Type 0 = λ x. written.control_of (Some (record clock { edge = x })) ≡ None in
    subst P (sym e) refl

-- A circuit has no clock, or a declared one that no latch names, or one that each latch names, of which there are some.
pub data ClockCase (c : Plain) : Type 0 where
  without : c.clock ≡ None → ClockCase c
  idle : (clock : Clock) → c.clock ≡ Some clock → clock.edge ≡ None → clock.declared ≡ true → ClockCase c
  edged : (clock : Clock) (edge : Edge) → c.clock ≡ Some clock → clock.edge ≡ Some edge → 0 < latch_count c.drives → ClockCase c

edge_case : (c : Plain) (clock : Clock) → c.clock ≡ Some clock → IsClockOf (input_count c.drives) (latch_count c.drives) clock → (edge : Option Edge) → clock.edge ≡ edge → ClockCase c
edge_case c clock e h None k = idle clock e k (h.declared k)
edge_case c clock e h (Some edge) k = edged clock edge e k (h.edge (ap is_some k))

pub clock_case : (c : Plain) → IsSound c → ClockCase c
clock_case c sound = by_clock c.clock refl sound.range.clock
  where
    by_clock : (clock : Option Clock) → c.clock ≡ clock → IfSome clock (IsClockOf (input_count c.drives) (latch_count c.drives)) → ClockCase c
    by_clock None e h = without e
    by_clock (Some clock) e h = edge_case c clock e h clock.edge refl

abbrev pub latches_told : Plain → List Told
latches_told c = flat_map (λ s. written.latch_told c s.0 s.1) (signals_of c)

-- What the statements of latches give where a control gives one thing, and where it gives none.
latches_repeat : {A : Type 0} (f : Told → List A) (a : A) (c : Plain) → IsSound c → 0 < latch_count c.drives → ((name : List ℕ) (next : ℕ) (init : Bool) → f (told.latch (name_of c next) name init (written.control_of c.clock)) ≡ a ∷ [])
    → slice_get (flat_map f (latches_told c)) 0 ≡ Some a
latches_repeat f a c sound some h = ap (λ xs. slice_get xs 0) (latches_give f (λ n d. a) c (signals_of c) h) ∙ first_of_latches a c sound some

clock_parts : (c : Plain) (clocks latches : List (List ℕ)) → flat_map clocks_told (clock_told c.clock) ≡ clocks → flat_map clocks_told (latches_told c) ≡ latches → flat_map clocks_told (told_by c) ≡ clocks ++ (latches ++ [])
clock_parts c clocks latches k l = parts_give clocks_told c [] [] clocks latches [] refl refl k l (gates_give_none clocks_told c (signals_of c) (λ name pins cover. refl))

declared_first : (clock : Clock) (ys : List (List ℕ)) → slice_get ys 0 ≡ Some clock.name → slice_get (flat_map clocks_told (clock_told (Some clock)) ++ ys) 0 ≡ Some clock.name
declared_first clock ys h = by_declared clock.declared
  where
    by_declared : (b : Bool) → slice_get (flat_map clocks_told (cond b (told.clock (clock.name ∷ []) ∷ []) []) ++ ys) 0 ≡ Some clock.name
    by_declared true = refl
    by_declared false = h

declared_names : (clock : Clock) → clock.declared ≡ true → flat_map clocks_told (clock_told (Some clock)) ≡ clock.name ∷ []
declared_names clock d = ap (λ b. flat_map clocks_told (cond b (told.clock (clock.name ∷ []) ∷ []) [])) d

pub named_by : (c : Plain) → IsSound c → ClockCase c → slice_get (flat_map clocks_told (told_by c)) 0 ≡ option_map (λ k. k.name) c.clock
named_by c sound (without e) =
    let none : written.control_of c.clock ≡ None = ap written.control_of e in
    ap (λ xs. slice_get xs 0) (clock_parts c [] [] (ap (λ k. flat_map clocks_told (clock_told k)) e)
    (latches_give_none clocks_told c (signals_of c) (λ name next init. ap (λ k. clocks_told (told.latch (name_of c next) name init k)) none)))
    ∙ ap (λ k. option_map (λ x. x.name) k) (sym e)
named_by c sound (idle clock e k d) =
    let none : written.control_of c.clock ≡ None = ap written.control_of e ∙ no_control clock k in
    ap (λ xs. slice_get xs 0) (clock_parts c (clock.name ∷ []) [] (ap (λ x. flat_map clocks_told (clock_told x)) e ∙ declared_names clock d)
    (latches_give_none clocks_told c (signals_of c) (λ name next init. ap (λ x. clocks_told (told.latch (name_of c next) name init x)) none)))
    ∙ ap (λ x. option_map (λ y. y.name) x) (sym e)
named_by c sound (edged clock edge e k some) =
    let control : written.control_of c.clock ≡ Some (record { name = clock.name; edge = edge }) = ap written.control_of e ∙ edged_control clock edge k in
    let first : slice_get (flat_map clocks_told (latches_told c)) 0 ≡ Some clock.name =
    latches_repeat clocks_told clock.name c sound some (λ name next init. ap (λ x. clocks_told (told.latch (name_of c next) name init x)) control) in
    let rest = flat_map clocks_told (latches_told c) ++ [] in
    ap (λ xs. slice_get xs 0) (clock_parts c (flat_map clocks_told (clock_told (Some clock))) (flat_map clocks_told (latches_told c)) (ap (λ x. flat_map clocks_told (clock_told x)) e) refl)
    ∙ declared_first clock rest (first_append clock.name (flat_map clocks_told (latches_told c)) [] first)
    ∙ ap (λ x. option_map (λ y. y.name) x) (sym e)

-- The edges that are told.
abbrev pub edges_told : Told → List Edge
edges_told t = option_to_list (option_map (λ control. control.edge) (control_told t))

edge_parts : (c : Plain) (latches : List Edge) → flat_map edges_told (latches_told c) ≡ latches → flat_map edges_told (told_by c) ≡ latches ++ []
edge_parts c latches l = parts_give edges_told c [] [] [] latches [] refl refl (clock_gives_none edges_told c.clock (λ names. refl)) l (gates_give_none edges_told c (signals_of c) (λ name pins cover. refl))

pub edge_by : (c : Plain) (clock : Clock) → IsSound c → c.clock ≡ Some clock → ClockCase c → slice_get (flat_map edges_told (told_by c)) 0 ≡ clock.edge
edge_by c clock sound is (without e) = absurd (cc)
edge_by c clock sound is (idle other e k d) =
    let same : other ≡ clock = cc in
    let none : written.control_of c.clock ≡ None = ap written.control_of e ∙ no_control other k in
    ap (λ xs. slice_get xs 0) (edge_parts c [] (latches_give_none edges_told c (signals_of c) (λ name next init. ap (λ x. edges_told (told.latch (name_of c next) name init x)) none)))
    ∙ sym k ∙ ap (λ x. x.edge) same
edge_by c clock sound is (edged other edge e k some) =
    let same : other ≡ clock = cc in
    let control : written.control_of c.clock ≡ Some (record { name = other.name; edge = edge }) = ap written.control_of e ∙ edged_control other edge k in
    ap (λ xs. slice_get xs 0) (edge_parts c (flat_map edges_told (latches_told c)) refl)
    ∙ first_append edge (flat_map edges_told (latches_told c)) [] (latches_repeat edges_told edge c sound some (λ name next init. ap (λ x. edges_told (told.latch (name_of c next) name init x)) control))
    ∙ sym k ∙ ap (λ x. x.edge) same

-- The clock is declared where a statement says so.
pub declared_back : (c : Plain) (clock : Clock) → c.clock ≡ Some clock → list_any (λ m. bytes_eq clock.name m) (flat_map declared_told (told_by c)) ≡ clock.declared
declared_back c clock e =
    let parts : flat_map declared_told (told_by c) ≡ flat_map declared_told (clock_told (Some clock)) ++ [] =
    parts_give declared_told c [] [] (flat_map declared_told (clock_told (Some clock))) [] [] refl refl (ap (λ x. flat_map declared_told (clock_told x)) e)
    (latches_give_none declared_told c (signals_of c) (λ name next init. refl)) (gates_give_none declared_told c (signals_of c) (λ name pins cover. refl)) in
    ap (λ xs. list_any (λ m. bytes_eq clock.name m) xs) parts ∙ by_declared clock.declared
  where
    by_declared : (b : Bool) → list_any (λ m. bytes_eq clock.name m) (flat_map declared_told (cond b (told.clock (clock.name ∷ []) ∷ []) []) ++ []) ≡ b
    by_declared true = (let e' : bytes_eq clock.name clock.name ≡ true = same_bytes clock.name clock.name refl in rw e' refl)
    by_declared false = refl

-- ---- the clock's place

-- Names that are not the clock's.
abbrev pub AreOthers : List ℕ → List (List ℕ) → Type 0
AreOthers k names = AllByRecursion (λ m. m ≢ k) names

passed_all : (k : List ℕ) (names : List (List ℕ)) → AreOthers k names → prefix_len (λ m. not (bytes_eq k m)) names ≡ length names
passed_all k [] h = refl
passed_all k (n ∷ names) h =
    let here : bytes_eq k n ≡ false = ne_bytes k n (λ e. h.0 (sym e)) in
    let more = passed_all k names h.1 in
    rw here (omega arith)

passed_front : (k : List ℕ) (front back : List (List ℕ)) → AreOthers k front → prefix_len (λ m. not (bytes_eq k m)) (front ++ k ∷ back) ≡ length front
passed_front k [] back h = let here : bytes_eq k k ≡ true = same_bytes k k refl in rw here refl
passed_front k (n ∷ front) back h =
    let here : bytes_eq k n ≡ false = ne_bytes k n (λ e. h.0 (sym e)) in
    let more = passed_front k front back h.1 in
    rw here (omega arith)

no_position : (k : List ℕ) (names : List (List ℕ)) → AreOthers k names → position (λ m. bytes_eq k m) names ≡ None
no_position k names h =
    let all : position_or_len (λ m. bytes_eq k m) names ≡ length names = passed_all k names h in
    let past : ltb (position_or_len (λ m. bytes_eq k m) names) (length names) ≡ false = le-ltb (position_or_len (λ m. bytes_eq k m) names) (length names) (omega arith) in
    ap (λ b. cond b (Some (position_or_len (λ m. bytes_eq k m) names)) None) past

its_position : (k : List ℕ) (front back : List (List ℕ)) → AreOthers k front → position (λ m. bytes_eq k m) (front ++ k ∷ back) ≡ Some (length front)
its_position k front back h =
    let names = front ++ k ∷ back in
    let at : position_or_len (λ m. bytes_eq k m) names ≡ length front = passed_front k front back h in
    let inside : ltb (position_or_len (λ m. bytes_eq k m) names) (length names) ≡ true = lt-ltb (position_or_len (λ m. bytes_eq k m) names) (length names) (omega (arith, length-append front (k ∷ back))) in
    ap (λ b. cond b (Some (position_or_len (λ m. bytes_eq k m) names)) None) inside ∙ ap (λ n. Some n) at

-- The place of the clock is found where it is put.
pub place_back : (clock : Clock) (names : List (List ℕ)) → IfSome clock.place (λ before. before ≤ length names) → AreOthers clock.name names → position (λ m. bytes_eq clock.name m) (with_clock (Some clock) names) ≡ clock.place
place_back clock names below h = by_place clock.place below
  where
    by_place : (place : Option ℕ) → IfSome place (λ before. before ≤ length names) → position (λ m. bytes_eq clock.name m) (with_clock (Some (record clock { place = place })) names) ≡ place
    by_place None b = no_position clock.name names h
    by_place (Some p) b =
        let size : length (take p names) ≡ p = length-take p names ∙ min-eq_left b in
        its_position clock.name (take p names) (drop p names) (all_take (λ m. m ≢ clock.name) p names h) ∙ ap (λ n. Some n) size

-- Without the clock's name the names are those of the inputs.
keeps_all : (test : List ℕ → Bool) (names : List (List ℕ)) → AllByRecursion (λ n. test n ≡ true) names → filter test names ≡ names
keeps_all test [] h = refl
keeps_all test (n ∷ names) h = let here : test n ≡ true = h.0 in rw here (ap (λ xs. n ∷ xs) (keeps_all test names h.1))

other_kept : (k n : List ℕ) → n ≢ k → not (bytes_eq n k) ≡ true
other_kept k n ne = ap not (ne_bytes n k ne)

all_true : (names : List (List ℕ)) → AllByRecursion (λ n. true ≡ true) names
all_true [] = tt
all_true (n ∷ names) = (refl, all_true names)

pub inputs_back : (clock : Option Clock) (names : List (List ℕ)) → IfSome clock (λ k. AreOthers k.name names) → filter (λ n. not (is_named (option_map (λ k. k.name) clock) n)) (with_clock clock names) ≡ names
inputs_back None names h = keeps_all (λ n. true) names (all_true names)
inputs_back (Some clock) names h = by_place clock.place
  where
    test : List ℕ → Bool
    test n = not (bytes_eq n clock.name)

    by_place : (place : Option ℕ) → filter (λ n. not (bytes_eq n clock.name)) (with_clock (Some (record clock { place = place })) names) ≡ names
    by_place None = keeps_all (λ n. not (bytes_eq n clock.name)) names (all_map (λ m. m ≢ clock.name) (λ n. not (bytes_eq n clock.name) ≡ true) (other_kept clock.name) names h)
    by_place (Some p) =
        let keeps = all_map (λ m. m ≢ clock.name) (λ n. not (bytes_eq n clock.name) ≡ true) (other_kept clock.name) in
        let gone : bytes_eq clock.name clock.name ≡ true = same_bytes clock.name clock.name refl in
        let front : filter (λ n. not (bytes_eq n clock.name)) (take p names) ≡ take p names = keeps_all (λ n. not (bytes_eq n clock.name)) (take p names) (keeps (take p names) (all_take (λ m. m ≢ clock.name) p names h)) in
        let back : filter (λ n. not (bytes_eq n clock.name)) (clock.name ∷ drop p names) ≡ drop p names = rw gone (keeps_all (λ n. not (bytes_eq n clock.name)) (drop p names) (keeps (drop p names) (all_drop (λ m. m ≢ clock.name) p names h))) in
        filter-append (λ n. not (bytes_eq n clock.name)) (take p names) (clock.name ∷ drop p names)
        ∙ ap (λ xs. xs ++ filter (λ n. not (bytes_eq n clock.name)) (clock.name ∷ drop p names)) front ∙ ap (λ xs. take p names ++ xs) back ∙ take-append-drop p names
