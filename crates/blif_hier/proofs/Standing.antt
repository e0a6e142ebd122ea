-- What the signals of a circuit are that statements spell: each is an input or comes from a statement, and each gate and latch has its signal.
use Rattle.std.proofs.Common.{◌≡◌, inl, inr, ℕ, suc, ◌+◌, Bool, false, List, [], ◌∷◌, ◌++◌, Option, Some, length, map, flat_map, slice_get, refl, sym, ◌∙◌, ap, subst, arith, length-append, append_assoc}
use Rattle.std.specs.Prelude.{Contains, option_map}
use Rattle.std.proofs.lemmas.List.{length-map}
use Rattle.std.proofs.lemmas.Option.{get_or_from_slice_get, slice_get-map}
use Rattle.tm_bits.specs.Rows.{Rows}
use Rattle.tm_circuit.specs.Plain.{Plain, Drive, drive}
use Rattle.tm_circuit.specs.Plain as plain
use Rattle.tm_circuit.proofs.ListLemmas.{contains-first, contains-rest, contains-cases, contains-none}
use Rattle.blif_unit.specs.declared.unit.Control.{Control}
use Rattle.blif_unit.specs.Unit as told
use Rattle.blif_unit.specs.Unit.{Told, Telling, Model, over, latch_told, gate_told}
use Rattle.blif_circuit.specs.Circuit as by_name
use Rattle.blif_circuit.specs.Circuit.{Reading, reading, latches_read, gates_read, readings_of, inputs_of, names_of, IsSpelled}
use Rattle.blif_hier.proofs.Lists.{slice_get-append, slice_get-front, slice_get-unmap, AllFrom, all_from-append, all_from_at}

-- ---- readings and statements

-- A latch of the statements with this name.
pub record IsLatchOf (body : List Telling) (name : List ℕ) (next : Option (List ℕ)) (init : Bool) : Type 0 where
  pub stated : Telling
  pub reads : List ℕ
  pub control : Option Control
  pub stands : Contains body stated
  pub is : stated.what ≡ told.latch reads name init control
  pub from : next ≡ Some reads

-- A gate of the statements with this name.
pub record IsGateOf (body : List Telling) (name : List ℕ) (pins : List (Option (List ℕ))) (cover : Rows) : Type 0 where
  pub stated : Telling
  pub reads : List (List ℕ)
  pub stands : Contains body stated
  pub is : stated.what ≡ told.gate reads name cover
  pub from : pins ≡ map Some reads

abbrev pub Says : List Telling → ℕ → List ℕ → Reading → Type 0
Says body k n by_name.input = slice_get (inputs_of body) k ≡ Some n
Says body k n (by_name.latch next init) = IsLatchOf body n next init
Says body k n (by_name.gate pins cover) = IsGateOf body n pins cover

inputs_say : (body : List Telling) (done rest : List (List ℕ)) → inputs_of body ≡ done ++ rest
    → AllFrom (Says body) (length done) rest (map (λ _. by_name.input) rest)
inputs_say body done [] split = tt
inputs_say body done (n ∷ rest) split =
    let here : slice_get (inputs_of body) (length done) ≡ Some n =
    ap (λ ns. slice_get ns (length done)) split ∙ ap (slice_get (done ++ n ∷ rest)) (let e : length done ≡ length done + 0 = omega arith in e) ∙ slice_get-append done (n ∷ rest) 0 in
    let more : length (done ++ n ∷ []) ≡ suc (length done) = omega (arith, length-append done (n ∷ [])) in
    (here, subst (λ k. AllFrom (Says body) k rest (map (λ _. by_name.input) rest)) more (inputs_say body (done ++ n ∷ []) rest (split ∙ sym (append_assoc done (n ∷ []) rest))))

latches_say : (all : List Telling) (k : ℕ) (body : List Telling) → ((t : Telling) → Contains body t → Contains all t)
    → AllFrom (Says all) k (over latch_told body) (flat_map (λ t. latches_read t.what) body)
latches_say all k [] inside = tt
latches_say all k (t ∷ body) inside = by_kind t.what refl (λ j. latches_say all j body (λ s there. inside s (contains-rest t body s there)))
  where
    by_kind : (w : Told) → t.what ≡ w → ((j : ℕ) → AllFrom (Says all) j (over latch_told body) (flat_map (λ s. latches_read s.what) body))
        → AllFrom (Says all) k (latch_told w ++ over latch_told body) (latches_read w ++ flat_map (λ s. latches_read s.what) body)
    by_kind (told.inputs names) is later = later k
    by_kind (told.outputs names) is later = later k
    by_kind (told.clock names) is later = later k
    by_kind (told.gate pins name cover) is later = later k
    by_kind (told.latch next name init control) is later =
        (record { stated = t; reads = next; control = control; stands = inside t (contains-first t body); is = is; from = refl }, later (suc k))
    by_kind (told.place name bindings) is later = later k

gates_say : (all : List Telling) (k : ℕ) (body : List Telling) → ((t : Telling) → Contains body t → Contains all t)
    → AllFrom (Says all) k (over gate_told body) (flat_map (λ t. gates_read t.what) body)
gates_say all k [] inside = tt
gates_say all k (t ∷ body) inside = by_kind t.what refl (λ j. gates_say all j body (λ s there. inside s (contains-rest t body s there)))
  where
    by_kind : (w : Told) → t.what ≡ w → ((j : ℕ) → AllFrom (Says all) j (over gate_told body) (flat_map (λ s. gates_read s.what) body))
        → AllFrom (Says all) k (gate_told w ++ over gate_told body) (gates_read w ++ flat_map (λ s. gates_read s.what) body)
    by_kind (told.inputs names) is later = later k
    by_kind (told.outputs names) is later = later k
    by_kind (told.clock names) is later = later k
    by_kind (told.gate pins name cover) is later =
        (record { stated = t; reads = pins; stands = inside t (contains-first t body); is = is; from = refl }, later (suc k))
    by_kind (told.latch next name init control) is later = later k
    by_kind (told.place name bindings) is later = later k

all_say : (body : List Telling) → AllFrom (Says body) 0 (names_of body) (readings_of body)
all_say body =
    let first : AllFrom (Says body) 0 (inputs_of body) (map (λ _. by_name.input) (inputs_of body)) = inputs_say body [] (inputs_of body) refl in
    let both : AllFrom (Says body) 0 (inputs_of body ++ over latch_told body) (map (λ _. by_name.input) (inputs_of body) ++ flat_map (λ t. latches_read t.what) body) =
    all_from-append (Says body) 0 (length (inputs_of body)) (inputs_of body) (over latch_told body) (map (λ _. by_name.input) (inputs_of body)) (flat_map (λ t. latches_read t.what) body)
    (omega arith) first (latches_say body (length (inputs_of body)) body (λ t there. there)) in
    all_from-append (Says body) 0 (length (inputs_of body ++ over latch_told body)) (inputs_of body ++ over latch_told body) (over gate_told body)
    (map (λ _. by_name.input) (inputs_of body) ++ flat_map (λ t. latches_read t.what) body) (flat_map (λ t. gates_read t.what) body)
    (omega arith) both (gates_say body (length (inputs_of body ++ over latch_told body)) body (λ t there. there))

-- ---- a signal

-- What a signal of this name is.
pub data SignalIs (body : List Telling) (c : Plain) (s : ℕ) (name : List ℕ) : Type 0 where
  an_input : drive c s ≡ plain.input → slice_get (inputs_of body) s ≡ Some name → SignalIs body c s name
  a_latch : (stated : Telling) (reads : List ℕ) (next : ℕ) (init : Bool) (control : Option Control) → Contains body stated → stated.what ≡ told.latch reads name init control
      → drive c s ≡ plain.latch next init → slice_get c.names next ≡ Some reads → SignalIs body c s name
  a_gate : (stated : Telling) (reads : List (List ℕ)) (pins : List ℕ) (cover : Rows) → Contains body stated → stated.what ≡ told.gate reads name cover
      → drive c s ≡ plain.gate pins cover → map (slice_get c.names) pins ≡ map Some reads → SignalIs body c s name

-- the drive of a signal, by its reading
drive_read : (m : Model) (c : Plain) (s : ℕ) (r : Reading) → IsSpelled m c → slice_get (readings_of m.body) s ≡ Some r → reading c.names (drive c s) ≡ r
drive_read m c s r spelled at =
    let there = slice_get-unmap (reading c.names) c.drives s r (ap (λ rs. slice_get rs s) spelled.drives ∙ at) in
    ap (reading c.names) (get_or_from_slice_get c.drives s there.0 (plain.latch s false) there.1) ∙ there.2

pub signal_is : (m : Model) (c : Plain) (s : ℕ) (name : List ℕ) → IsSpelled m c → slice_get c.names s ≡ Some name → SignalIs m.body c s name
signal_is m c s name spelled at =
    let found = all_from_at (Says m.body) 0 s s (names_of m.body) (readings_of m.body) name (omega arith) (all_say m.body) (ap (λ ns. slice_get ns s) (sym spelled.names) ∙ at) in
    by_drive (drive c s) refl (drive_read m c s found.0 spelled found.1) found.2
  where
    by_input : (r : Reading) → by_name.input ≡ r → Says m.body s name r → slice_get (inputs_of m.body) s ≡ Some name
    by_input by_name.input e says = says
    by_input (by_name.latch next init) e says = cc
    by_input (by_name.gate pins cover) e says = cc

    by_latch : (next : ℕ) (init : Bool) (r : Reading) → drive c s ≡ plain.latch next init → by_name.latch (slice_get c.names next) init ≡ r → Says m.body s name r → SignalIs m.body c s name
    by_latch next init by_name.input is e says = cc
    by_latch next init (by_name.latch from init') is e says =
        let same : slice_get c.names next ≡ from = cc in
        let bit : init' ≡ init = cc in
        a_latch says.stated says.reads next init says.control says.stands (says.is ∙ ap (λ b. told.latch says.reads name b says.control) bit) is (same ∙ says.from)
    by_latch next init (by_name.gate pins cover) is e says = cc

    by_gate : (pins : List ℕ) (cover : Rows) (r : Reading) → drive c s ≡ plain.gate pins cover → by_name.gate (map (slice_get c.names) pins) cover ≡ r → Says m.body s name r → SignalIs m.body c s name
    by_gate pins cover by_name.input is e says = cc
    by_gate pins cover (by_name.latch from init') is e says = cc
    by_gate pins cover (by_name.gate from cover') is e says =
        let same : map (slice_get c.names) pins ≡ from = cc in
        let rows : cover' ≡ cover = cc in
        a_gate says.stated says.reads pins cover says.stands (says.is ∙ ap (λ r. told.gate says.reads name r) rows) is (same ∙ says.from)

    by_drive : (d : Drive) → drive c s ≡ d → {r : Reading} → reading c.names d ≡ r → Says m.body s name r → SignalIs m.body c s name
    by_drive plain.input is {r} e says = an_input is (by_input r e says)
    by_drive (plain.latch next init) is {r} e says = by_latch next init r is e says
    by_drive (plain.gate pins cover) is {r} e says = by_gate pins cover r is e says

-- ---- the signal of a statement

gate_place : (body : List Telling) (t : Telling) (reads : List (List ℕ)) (name : List ℕ) (cover : Rows) → Contains body t → t.what ≡ told.gate reads name cover
    → (k : ℕ) × (slice_get (over gate_told body) k ≡ Some name) × (slice_get (flat_map (λ s. gates_read s.what) body) k ≡ Some (by_name.gate (map Some reads) cover))
gate_place [] t reads name cover there is = absurd (contains-none t there)
gate_place (x ∷ body) t reads name cover there is =
    elim (contains-cases x body t there) [ inl same ↦ here (ap (λ (y : Telling). y.what) same ∙ is) | inr rest ↦ by_kind x.what (gate_place body t reads name cover rest is) ]
  where
    here : x.what ≡ told.gate reads name cover → (k : ℕ) × (slice_get (gate_told x.what ++ over gate_told body) k ≡ Some name) × (slice_get (gates_read x.what ++ flat_map (λ s. gates_read s.what) body) k ≡ Some (by_name.gate (map Some reads) cover))
    here first = subst (λ (w : Told). (k : ℕ) × (slice_get (gate_told w ++ over gate_told body) k ≡ Some name) × (slice_get (gates_read w ++ flat_map (λ s. gates_read s.what) body) k ≡ Some (by_name.gate (map Some reads) cover))) (sym first) (0, refl, refl)

    by_kind : (w : Told) → (k : ℕ) × (slice_get (over gate_told body) k ≡ Some name) × (slice_get (flat_map (λ s. gates_read s.what) body) k ≡ Some (by_name.gate (map Some reads) cover)) → (k : ℕ) × (slice_get (gate_told w ++ over gate_told body) k ≡ Some name) × (slice_get (gates_read w ++ flat_map (λ s. gates_read s.what) body) k ≡ Some (by_name.gate (map Some reads) cover))
    by_kind (told.inputs names) f = f
    by_kind (told.outputs names) f = f
    by_kind (told.clock names) f = f
    by_kind (told.gate pins out rows) f = (suc f.0, f.1, f.2)
    by_kind (told.latch next out init control) f = f
    by_kind (told.place model bindings) f = f

latch_place : (body : List Telling) (t : Telling) (reads name : List ℕ) (init : Bool) (control : Option Control) → Contains body t → t.what ≡ told.latch reads name init control
    → (k : ℕ) × (slice_get (over latch_told body) k ≡ Some name) × (slice_get (flat_map (λ s. latches_read s.what) body) k ≡ Some (by_name.latch (Some reads) init))
latch_place [] t reads name init control there is = absurd (contains-none t there)
latch_place (x ∷ body) t reads name init control there is =
    elim (contains-cases x body t there) [ inl same ↦ here (ap (λ (y : Telling). y.what) same ∙ is) | inr rest ↦ by_kind x.what (latch_place body t reads name init control rest is) ]
  where
    here : x.what ≡ told.latch reads name init control → (k : ℕ) × (slice_get (latch_told x.what ++ over latch_told body) k ≡ Some name) × (slice_get (latches_read x.what ++ flat_map (λ s. latches_read s.what) body) k ≡ Some (by_name.latch (Some reads) init))
    here first = subst (λ (w : Told). (k : ℕ) × (slice_get (latch_told w ++ over latch_told body) k ≡ Some name) × (slice_get (latches_read w ++ flat_map (λ s. latches_read s.what) body) k ≡ Some (by_name.latch (Some reads) init))) (sym first) (0, refl, refl)

    by_kind : (w : Told) → (k : ℕ) × (slice_get (over latch_told body) k ≡ Some name) × (slice_get (flat_map (λ s. latches_read s.what) body) k ≡ Some (by_name.latch (Some reads) init)) → (k : ℕ) × (slice_get (latch_told w ++ over latch_told body) k ≡ Some name) × (slice_get (latches_read w ++ flat_map (λ s. latches_read s.what) body) k ≡ Some (by_name.latch (Some reads) init))
    by_kind (told.inputs names) f = f
    by_kind (told.outputs names) f = f
    by_kind (told.clock names) f = f
    by_kind (told.gate pins out rows) f = f
    by_kind (told.latch next out init' control') f = (suc f.0, f.1, f.2)
    by_kind (told.place model bindings) f = f

as_many_latches : (body : List Telling) → length (flat_map (λ s. latches_read s.what) body) ≡ length (over latch_told body)
as_many_latches [] = refl
as_many_latches (x ∷ body) = by_kind x.what (as_many_latches body)
  where
    by_kind : (w : Told) → length (flat_map (λ s. latches_read s.what) body) ≡ length (over latch_told body)
        → length (latches_read w ++ flat_map (λ s. latches_read s.what) body) ≡ length (latch_told w ++ over latch_told body)
    by_kind (told.inputs names) e = e
    by_kind (told.outputs names) e = e
    by_kind (told.clock names) e = e
    by_kind (told.gate pins out rows) e = e
    by_kind (told.latch next out init control) e = ap suc e
    by_kind (told.place model bindings) e = e

-- A gate has a signal, which reads the signals of its pins.
pub gate_signal : (m : Model) (c : Plain) (t : Telling) (reads : List (List ℕ)) (name : List ℕ) (cover : Rows) → IsSpelled m c → Contains m.body t → t.what ≡ told.gate reads name cover
    → (s : ℕ) × (slice_get c.names s ≡ Some name) × (reading c.names (drive c s) ≡ by_name.gate (map Some reads) cover)
gate_signal m c t reads name cover spelled there is =
    let place = gate_place m.body t reads name cover there is in
    let many : length (map (λ _. by_name.input) (inputs_of m.body) ++ flat_map (λ s. latches_read s.what) m.body) ≡ length (inputs_of m.body ++ over latch_told m.body) =
    length-append (map (λ _. by_name.input) (inputs_of m.body)) (flat_map (λ s. latches_read s.what) m.body)
    ∙ ap (λ n. n + length (flat_map (λ s. latches_read s.what) m.body)) (length-map (inputs_of m.body) (λ (_ : List ℕ). by_name.input))
    ∙ ap (λ n. length (inputs_of m.body) + n) (as_many_latches m.body) ∙ sym (length-append (inputs_of m.body) (over latch_told m.body)) in
    let at_name : slice_get (names_of m.body) (length (inputs_of m.body ++ over latch_told m.body) + place.0) ≡ Some name =
    slice_get-append (inputs_of m.body ++ over latch_told m.body) (over gate_told m.body) place.0 ∙ place.1 in
    let at_reading : slice_get (readings_of m.body) (length (inputs_of m.body ++ over latch_told m.body) + place.0) ≡ Some (by_name.gate (map Some reads) cover) =
    ap (λ n. slice_get (readings_of m.body) (n + place.0)) (sym many)
    ∙ slice_get-append (map (λ _. by_name.input) (inputs_of m.body) ++ flat_map (λ s. latches_read s.what) m.body) (flat_map (λ s. gates_read s.what) m.body) place.0 ∙ place.2 in (
      length (inputs_of m.body ++ over latch_told m.body) + place.0,
      ap (λ ns. slice_get ns (length (inputs_of m.body ++ over latch_told m.body) + place.0)) spelled.names ∙ at_name,
      drive_read m c (length (inputs_of m.body ++ over latch_told m.body) + place.0) (by_name.gate (map Some reads) cover) spelled at_reading,
    )

-- A latch has a signal, which reads the signal of its next.
pub latch_signal : (m : Model) (c : Plain) (t : Telling) (reads name : List ℕ) (init : Bool) (control : Option Control) → IsSpelled m c → Contains m.body t
    → t.what ≡ told.latch reads name init control
    → (s : ℕ) × (slice_get c.names s ≡ Some name) × (reading c.names (drive c s) ≡ by_name.latch (Some reads) init)
latch_signal m c t reads name init control spelled there is =
    let place = latch_place m.body t reads name init control there is in
    let at_name : slice_get (names_of m.body) (length (inputs_of m.body) + place.0) ≡ Some name =
    slice_get-front (inputs_of m.body ++ over latch_told m.body) (over gate_told m.body) (length (inputs_of m.body) + place.0) name
    (slice_get-append (inputs_of m.body) (over latch_told m.body) place.0 ∙ place.1) in
    let many : length (map (λ _. by_name.input) (inputs_of m.body)) ≡ length (inputs_of m.body) = length-map (inputs_of m.body) (λ (_ : List ℕ). by_name.input) in
    let at_reading : slice_get (readings_of m.body) (length (inputs_of m.body) + place.0) ≡ Some (by_name.latch (Some reads) init) =
    slice_get-front (map (λ _. by_name.input) (inputs_of m.body) ++ flat_map (λ s. latches_read s.what) m.body) (flat_map (λ s. gates_read s.what) m.body)
    (length (inputs_of m.body) + place.0) (by_name.latch (Some reads) init)
    (ap (λ n. slice_get (map (λ _. by_name.input) (inputs_of m.body) ++ flat_map (λ s. latches_read s.what) m.body) (n + place.0)) (sym many)
    ∙ slice_get-append (map (λ _. by_name.input) (inputs_of m.body)) (flat_map (λ s. latches_read s.what) m.body) place.0 ∙ place.2) in (
      length (inputs_of m.body) + place.0,
      ap (λ ns. slice_get ns (length (inputs_of m.body) + place.0)) spelled.names ∙ at_name,
      drive_read m c (length (inputs_of m.body) + place.0) (by_name.latch (Some reads) init) spelled at_reading,
    )

-- An input has a signal, in its place.
pub input_signal : (m : Model) (c : Plain) (k : ℕ) (name : List ℕ) → IsSpelled m c → slice_get (inputs_of m.body) k ≡ Some name
    → (slice_get c.names k ≡ Some name) × (reading c.names (drive c k) ≡ by_name.input)
input_signal m c k name spelled at =
    let at_name : slice_get (names_of m.body) k ≡ Some name =
    slice_get-front (inputs_of m.body ++ over latch_told m.body) (over gate_told m.body) k name (slice_get-front (inputs_of m.body) (over latch_told m.body) k name at) in
    let at_input : slice_get (map (λ _. by_name.input) (inputs_of m.body)) k ≡ Some by_name.input =
    slice_get-map (λ (_ : List ℕ). by_name.input) (inputs_of m.body) k ∙ ap (option_map (λ (_ : List ℕ). by_name.input)) at in
    let at_reading : slice_get (readings_of m.body) k ≡ Some by_name.input =
    slice_get-front (map (λ _. by_name.input) (inputs_of m.body) ++ flat_map (λ s. latches_read s.what) m.body) (flat_map (λ s. gates_read s.what) m.body) k by_name.input
    (slice_get-front (map (λ _. by_name.input) (inputs_of m.body)) (flat_map (λ s. latches_read s.what) m.body) k by_name.input at_input) in
    (ap (λ ns. slice_get ns k) spelled.names ∙ at_name, drive_read m c k by_name.input spelled at_reading)
