-- In every nested trace the top's outputs are those of the circuit's trace: a signal has the bit of each name that becomes its name, by
-- the steps, and within a step by the ranks of the signals.
use Rattle.std.proofs.Common.{◌≡◌, inl, inr, ℕ, zero, suc, ◌<◌, Bool, true, false, not, List, [], ◌∷◌, ◌++◌, Option, Some, length, map, filter, slice_get, replicate, refl, sym, ◌∙◌, ap, subst, arith, append-nil, map-id}
use Rattle.std.specs.Prelude.{Contains, option_map}
use Rattle.std.specs.List.{AllByRecursion}
use Rattle.tm_bits.specs.Rows.{Rows, holds}
use Rattle.tm_circuit.specs.Plain.{Plain, drive}
use Rattle.tm_circuit.specs.Plain as plain
use Rattle.tm_circuit.specs.Chain.{IsRanked, RisesTo, rank}
use Rattle.tm_circuit.specs.Trace.{IsTrace, row_bit, driven, shown}
use Rattle.tm_circuit.proofs.ListLemmas.{contains-first, contains-rest, contains-cases, contains-none}
use Rattle.blif_unit.specs.declared.unit.Control.{Control}
use Rattle.blif_unit.specs.Fit.{names_told}
use Rattle.blif_unit.specs.Unit as told
use Rattle.blif_unit.specs.Unit.{Told, Telling, Model, over, inputs_told, outputs_told}
use Rattle.blif_circuit.specs.Circuit.{inputs_of, is_clock, IsSpelled}
use Rattle.blif_circuit.proofs.SignalUses.{all-left, all-right, all-filter}
use Rattle.blif_read.proofs.WholeLemmas.{over_named}
use Rattle.blif_flat.specs.Limits.{most_levels}
use Rattle.blif_flat.specs.Flat.{joiner_of, told_by, control_by, is_too_deep, is_too_large, flat_of}
use Rattle.blif_hier.specs.Nested.{Obeys, IsNestedTrace, model_under, open_inputs, outputs_shown}
use Rattle.blif_hier.proofs.FlatFit.{from_own, inputs_of_top, outputs_of_top}
use Rattle.blif_hier.proofs.Lists.{all_contains, at_contains, flat_all_at}
use Rattle.blif_hier.proofs.Standing.{SignalIs, an_input, a_latch, a_gate, signal_is}
use Rattle.blif_hier.proofs.Instances.{Instance, named, leads, model_of_path, IsFrom, flat_is_from}
use Rattle.blif_hier.proofs.Reaching.{as_top, small_path}
use Rattle.blif_hier.proofs.ShortRuns.{IsShortRun, HasShortRuns, most_run, all_short}
use Rattle.blif_hier.proofs.Placed.{instance_has}
use Rattle.blif_hier.proofs.Origins.{same_bits}

-- the inputs and the outputs of the flat unit are those of the top
pub flat_inputs : (top : Model) (others : List Model) → inputs_of (flat_of (top ∷ others)).body ≡ open_inputs (top ∷ others)
flat_inputs top others =
    ap (filter (λ n. not (is_clock (flat_of (top ∷ others)).body n)))
    (from_own (top ∷ others) (joiner_of (top ∷ others)) inputs_told inputs_of_top most_levels [] [] top.body)

pub flat_outputs : (top : Model) (others : List Model) → over outputs_told (flat_of (top ∷ others)).body ≡ over outputs_told top.body
flat_outputs top others = from_own (top ∷ others) (joiner_of (top ∷ others)) outputs_told outputs_of_top most_levels [] [] top.body

-- ---- names that statements drive and read

gate_short : (runs : ℕ) (body : List Telling) (t : Telling) (pins : List (List ℕ)) (name : List ℕ) (cover : Rows) → AllByRecursion (IsShortRun runs) (over names_told body)
    → Contains body t → t.what ≡ told.gate pins name cover → AllByRecursion (IsShortRun runs) (pins ++ name ∷ [])
gate_short runs body t pins name cover all there is =
    subst (λ (w : Told). AllByRecursion (IsShortRun runs) (names_told w)) is (flat_all_at (IsShortRun runs) (λ (x : Telling). names_told x.what) body t all there)

latch_short : (runs : ℕ) (body : List Telling) (t : Telling) (next name : List ℕ) (init : Bool) (control : Option Control) → AllByRecursion (IsShortRun runs) (over names_told body)
    → Contains body t → t.what ≡ told.latch next name init control → IsShortRun runs next × IsShortRun runs name
latch_short runs body t next name init control all there is =
    let names = subst (λ (w : Told). AllByRecursion (IsShortRun runs) (names_told w)) is (flat_all_at (IsShortRun runs) (λ (x : Telling). names_told x.what) body t all there) in
    (names.0, names.1.0)

inputs_named : (P : List ℕ → Type 0) (w : Told) → AllByRecursion P (names_told w) → AllByRecursion P (inputs_told w)
inputs_named P (told.inputs names) all = all
inputs_named P (told.outputs names) all = tt
inputs_named P (told.clock names) all = tt
inputs_named P (told.gate pins name cover) all = tt
inputs_named P (told.latch next name init control) all = tt
inputs_named P (told.place model bindings) all = tt

outputs_named : (P : List ℕ → Type 0) (w : Told) → AllByRecursion P (names_told w) → AllByRecursion P (outputs_told w)
outputs_named P (told.inputs names) all = tt
outputs_named P (told.outputs names) all = all
outputs_named P (told.clock names) all = tt
outputs_named P (told.gate pins name cover) all = tt
outputs_named P (told.latch next name init control) all = tt
outputs_named P (told.place model bindings) all = tt

input_short : (top : Model) (others : List Model) (name : List ℕ) → Contains (open_inputs (top ∷ others)) name → IsShortRun (most_run (top ∷ others)) name
input_short top others name there =
    all_contains (IsShortRun (most_run (top ∷ others))) (open_inputs (top ∷ others)) name
    (all-filter (IsShortRun (most_run (top ∷ others))) (λ n. not (is_clock (flat_of (top ∷ others)).body n)) (over inputs_told top.body)
    (over_named (IsShortRun (most_run (top ∷ others))) inputs_told (inputs_named (IsShortRun (most_run (top ∷ others)))) top.body (all_short (top ∷ others)).0)) there

-- ---- which statement becomes a gate or a latch

-- The gate of an instance that becomes this gate.
record BecomesGate (i : Instance) (w : Told) (pins : List (List ℕ)) (name : List ℕ) (cover : Rows) : Type 0 where
  pub own_pins : List (List ℕ)
  pub own_name : List ℕ
  pub is : w ≡ told.gate own_pins own_name cover
  pub pins_are : pins ≡ map (named i) own_pins
  pub name_is : name ≡ named i own_name

becomes_gate : (i : Instance) (w made : Told) (pins : List (List ℕ)) (name : List ℕ) (cover : Rows) → Contains (told_by true (named i) w) made → made ≡ told.gate pins name cover
    → BecomesGate i w pins name cover
becomes_gate i (told.inputs names) made pins name cover there is =
    elim (contains-cases (told.inputs names) [] made there) [ inl same ↦ (let e : told.inputs names ≡ told.gate pins name cover = same ∙ is in cc) | inr rest ↦ absurd (contains-none made rest) ]
becomes_gate i (told.outputs names) made pins name cover there is =
    elim (contains-cases (told.outputs names) [] made there) [ inl same ↦ (let e : told.outputs names ≡ told.gate pins name cover = same ∙ is in cc) | inr rest ↦ absurd (contains-none made rest) ]
becomes_gate i (told.clock names) made pins name cover there is =
    elim (contains-cases (told.clock (map (named i) names)) [] made there) [
      | inl same ↦ (let e : told.clock (map (named i) names) ≡ told.gate pins name cover = same ∙ is in cc)
      | inr rest ↦ absurd (contains-none made rest)
    ]
becomes_gate i (told.gate own_pins own_name rows) made pins name cover there is =
    elim (contains-cases (told.gate (map (named i) own_pins) (named i own_name) rows) [] made there) [
      | inl same ↦
          (let e : told.gate (map (named i) own_pins) (named i own_name) rows ≡ told.gate pins name cover = same ∙ is in
          let same_rows : rows ≡ cover = cc in
          record { own_pins = own_pins; own_name = own_name; is = ap (told.gate own_pins own_name) same_rows; pins_are = cc; name_is = cc })
      | inr rest ↦ absurd (contains-none made rest)
    ]
becomes_gate i (told.latch next own init control) made pins name cover there is =
    elim (contains-cases (told.latch (named i next) (named i own) init (control_by (named i) control)) [] made there) [
      | inl same ↦ (let e : told.latch (named i next) (named i own) init (control_by (named i) control) ≡ told.gate pins name cover = same ∙ is in cc)
      | inr rest ↦ absurd (contains-none made rest)
    ]
becomes_gate i (told.place model bindings) made pins name cover there is = absurd (contains-none made there)

-- The latch of an instance that becomes this latch.
record BecomesLatch (i : Instance) (w : Told) (next name : List ℕ) (init : Bool) : Type 0 where
  pub own_next : List ℕ
  pub own_name : List ℕ
  pub own_control : Option Control
  pub is : w ≡ told.latch own_next own_name init own_control
  pub next_is : next ≡ named i own_next
  pub name_is : name ≡ named i own_name

becomes_latch : (i : Instance) (w made : Told) (next name : List ℕ) (init : Bool) (control : Option Control) → Contains (told_by true (named i) w) made
    → made ≡ told.latch next name init control → BecomesLatch i w next name init
becomes_latch i (told.inputs names) made next name init control there is =
    elim (contains-cases (told.inputs names) [] made there) [ inl same ↦ (let e : told.inputs names ≡ told.latch next name init control = same ∙ is in cc) | inr rest ↦ absurd (contains-none made rest) ]
becomes_latch i (told.outputs names) made next name init control there is =
    elim (contains-cases (told.outputs names) [] made there) [ inl same ↦ (let e : told.outputs names ≡ told.latch next name init control = same ∙ is in cc) | inr rest ↦ absurd (contains-none made rest) ]
becomes_latch i (told.clock names) made next name init control there is =
    elim (contains-cases (told.clock (map (named i) names)) [] made there) [
      | inl same ↦ (let e : told.clock (map (named i) names) ≡ told.latch next name init control = same ∙ is in cc)
      | inr rest ↦ absurd (contains-none made rest)
    ]
becomes_latch i (told.gate own_pins own rows) made next name init control there is =
    elim (contains-cases (told.gate (map (named i) own_pins) (named i own) rows) [] made there) [
      | inl same ↦ (let e : told.gate (map (named i) own_pins) (named i own) rows ≡ told.latch next name init control = same ∙ is in cc)
      | inr rest ↦ absurd (contains-none made rest)
    ]
becomes_latch i (told.latch own_next own_name own_init own_control) made next name init control there is =
    elim (contains-cases (told.latch (named i own_next) (named i own_name) own_init (control_by (named i) own_control)) [] made there) [
      | inl same ↦
          (let e : told.latch (named i own_next) (named i own_name) own_init (control_by (named i) own_control) ≡ told.latch next name init control = same ∙ is in
          let same_init : own_init ≡ init = cc in
          record {
            own_next = own_next;
            own_name = own_name;
            own_control = own_control;
            is = ap (λ b. told.latch own_next own_name b own_control) same_init;
            next_is = cc;
            name_is = cc;
          })
      | inr rest ↦ absurd (contains-none made rest)
    ]
becomes_latch i (told.place model bindings) made next name init control there is = absurd (contains-none made there)

-- ---- bits

pins_agree : (t : ℕ → ℕ → Bool) (own : List ℕ → Bool) (rename : List ℕ → List ℕ) (names : List (List ℕ)) (step : ℕ) (ps : List ℕ) (pins : List (List ℕ))
    → map (slice_get names) ps ≡ map Some (map rename pins) → ((p : ℕ) (n : List ℕ) → Contains ps p → Contains pins n → slice_get names p ≡ Some (rename n) → t p step ≡ own n)
    → map (λ p. t p step) ps ≡ map own pins
pins_agree t own rename names step [] [] at each = refl
pins_agree t own rename names step [] (n ∷ pins) at each = cc
pins_agree t own rename names step (p ∷ ps) [] at each = cc
pins_agree t own rename names step (p ∷ ps) (n ∷ pins) at each =
    let first : t p step ≡ own n = each p n (contains-first p ps) (contains-first n pins) (let e : slice_get names p ≡ Some (rename n) = cc in e) in
    let rest : map (λ p. t p step) ps ≡ map own pins =
    pins_agree t own rename names step ps pins (let e : map (slice_get names) ps ≡ map Some (map rename pins) = cc in e)
    (λ q m there here at_q. each q m (contains-rest p ps q there) (contains-rest n pins m here) at_q) in
    ap (λ (b : Bool). b ∷ map (λ p. t p step) ps) first ∙ ap (λ (bs : List Bool). own n ∷ bs) rest

-- the trace's bit at a drive that is known
pub bit_driven : (c : Plain) (rows : List (List Bool)) (t : ℕ → ℕ → Bool) (s step : ℕ) (d : plain.Drive) → IsTrace c rows t → step < length rows → drive c s ≡ d
    → t s step ≡ driven d (row_bit rows s step) t step
bit_driven c rows t s step d trace within is = trace s step within ∙ ap (λ (x : plain.Drive). driven x (row_bit rows s step) t step) is

module _ (top : Model) (others : List Model) (c : Plain) (spelled : IsSpelled (flat_of (top ∷ others)) c) (ranked : IsRanked c.drives (rank c))
    (deep : is_too_deep (top ∷ others) ≡ false) (large : is_too_large (top ∷ others) ≡ false)
    (rows : List (List Bool)) (bits : List ℕ → List ℕ → ℕ → Bool) (nested : IsNestedTrace (top ∷ others) rows bits)
    (t : ℕ → ℕ → Bool) (trace : IsTrace c rows t) where
  abbrev models : List Model
  models = top ∷ others

  abbrev joiner : List ℕ
  joiner = replicate (suc (most_run (top ∷ others))) 64

  -- A signal has, at a step, the bit of each name that becomes its name.
  abbrev Agrees : ℕ → ℕ → Type 0
  Agrees step s =
      (path : List ℕ) (i : Instance) (n : List ℕ) → leads models joiner (as_top top) path ≡ Some i → IsShortRun (most_run models) n
      → slice_get c.names s ≡ Some (named i n) → t s step ≡ bits path n step

  own_short : (path : List ℕ) (i : Instance) → leads models joiner (as_top top) path ≡ Some i → HasShortRuns (most_run models) i.model
  own_short path i reached =
      instance_has (HasShortRuns (most_run models)) models joiner (as_top top) path i (all_short models) (all_short models).0 reached

  -- names that become one have one bit
  as_other : (p q : List ℕ) (i j : Instance) (n m : List ℕ) (step : ℕ) → leads models joiner (as_top top) p ≡ Some i → leads models joiner (as_top top) q ≡ Some j
      → IsShortRun (most_run models) n → IsShortRun (most_run models) m → named i n ≡ named j m → step < length rows → bits p n step ≡ bits q m step
  as_other p q i j n m step at_p at_q short_n short_m same within =
      same_bits top others (most_run models) (all_short models) rows bits nested p q i j n m
      (small_path top others joiner p i deep large at_p) (small_path top others joiner q j deep large at_q) at_p at_q short_n short_m same step within

  -- the statement of an instance at a step
  obeyed : (path : List ℕ) (i : Instance) (x : Telling) (w : Told) (step : ℕ) → leads models joiner (as_top top) path ≡ Some i → Contains i.model.body x → x.what ≡ w → step < length rows
      → Obeys w (bits path) step
  obeyed path i x w step reached there is within =
      let model : model_under models top path ≡ Some i.model = sym (model_of_path models joiner (as_top top) path) ∙ ap (option_map (λ (j : Instance). j.model)) reached in
      subst (λ (v : Told). Obeys v (bits path) step) is
      (all_contains (λ (y : Telling). Obeys y.what (bits path) step) i.model.body x (nested.statements path i.model step within model) there)

  from_flat : (x : Telling) → Contains (flat_of models).body x → IsFrom models joiner (as_top top) x
  from_flat x there = flat_is_from models joiner most_levels true (as_top top) x there

  input_agrees : (step s : ℕ) (name : List ℕ) → step < length rows → drive c s ≡ plain.input → slice_get (inputs_of (flat_of models).body) s ≡ Some name
      → (path : List ℕ) (i : Instance) (n : List ℕ) → leads models joiner (as_top top) path ≡ Some i → IsShortRun (most_run models) n → name ≡ named i n → t s step ≡ bits path n step
  input_agrees step s name within is at path i n reached short same =
      let opened : slice_get (open_inputs models) s ≡ Some name = ap (λ (ns : List (List ℕ)). slice_get ns s) (sym (flat_inputs top others)) ∙ at in
      let given : bits [] name step ≡ row_bit rows s step = nested.inputs s step name within opened in
      let short_name : IsShortRun (most_run models) name = input_short top others name (at_contains (open_inputs models) s name opened) in
      bit_driven c rows t s step plain.input trace within is ∙ sym given
      ∙ as_other [] path (as_top top) i name n step refl reached short_name short (append-nil name ∙ same) within

  gate_agrees : (step s : ℕ) (name : List ℕ) (x : Telling) (reads : List (List ℕ)) (pins : List ℕ) (cover : Rows) → step < length rows → Contains (flat_of models).body x
      → x.what ≡ told.gate reads name cover → drive c s ≡ plain.gate pins cover → map (slice_get c.names) pins ≡ map Some reads
      → ((p : ℕ) → Contains pins p → Agrees step p)
      → (path : List ℕ) (i : Instance) (n : List ℕ) → leads models joiner (as_top top) path ≡ Some i → IsShortRun (most_run models) n → name ≡ named i n → t s step ≡ bits path n step
  gate_agrees step s name x reads pins cover within there is driven_by pins_at each path i n reached short same =
      let from = from_flat x there in
      let gate = becomes_gate from.at from.told.what x.what reads name cover from.becomes is in
      let names = gate_short (most_run models) from.at.model.body from.told gate.own_pins gate.own_name cover (own_short from.path from.at from.reached) from.stands gate.is in
      let value : bits from.path gate.own_name step ≡ holds cover (map (λ p. bits from.path p step) gate.own_pins) =
      obeyed from.path from.at from.told (told.gate gate.own_pins gate.own_name cover) step from.reached from.stands gate.is within in
      let pins_same : map (λ p. t p step) pins ≡ map (λ p. bits from.path p step) gate.own_pins =
      pins_agree t (λ p. bits from.path p step) (named from.at) c.names step pins gate.own_pins (pins_at ∙ ap (map Some) gate.pins_are)
      (λ p m on_p on_m at_p. each p on_p from.path from.at m from.reached
      (all_contains (IsShortRun (most_run models)) gate.own_pins m (all-left (IsShortRun (most_run models)) gate.own_pins (gate.own_name ∷ []) names) on_m) at_p) in
      bit_driven c rows t s step (plain.gate pins cover) trace within driven_by ∙ ap (holds cover) pins_same ∙ sym value
      ∙ as_other from.path path from.at i gate.own_name n step from.reached reached (all-right (IsShortRun (most_run models)) gate.own_pins (gate.own_name ∷ []) names).0 short
      (sym gate.name_is ∙ same) within

  latch_agrees : (step s : ℕ) (name : List ℕ) (x : Telling) (reads : List ℕ) (next : ℕ) (init : Bool) (control : Option Control) → step < length rows
      → Contains (flat_of models).body x → x.what ≡ told.latch reads name init control → drive c s ≡ plain.latch next init → slice_get c.names next ≡ Some reads
      → ((before : ℕ) → step ≡ suc before → Agrees before next)
      → (path : List ℕ) (i : Instance) (n : List ℕ) → leads models joiner (as_top top) path ≡ Some i → IsShortRun (most_run models) n → name ≡ named i n → t s step ≡ bits path n step
  latch_agrees zero s name x reads next init control within there is driven_by next_at each path i n reached short same =
      let from = from_flat x there in
      let own = becomes_latch from.at from.told.what x.what reads name init control from.becomes is in
      let names = latch_short (most_run models) from.at.model.body from.told own.own_next own.own_name init own.own_control (own_short from.path from.at from.reached) from.stands own.is in
      let value : bits from.path own.own_name 0 ≡ init =
      obeyed from.path from.at from.told (told.latch own.own_next own.own_name init own.own_control) zero from.reached from.stands own.is within in
      bit_driven c rows t s zero (plain.latch next init) trace within driven_by ∙ sym value
      ∙ as_other from.path path from.at i own.own_name n zero from.reached reached names.1 short (sym own.name_is ∙ same) within
  latch_agrees (suc before) s name x reads next init control within there is driven_by next_at each path i n reached short same =
      let from = from_flat x there in
      let own = becomes_latch from.at from.told.what x.what reads name init control from.becomes is in
      let names = latch_short (most_run models) from.at.model.body from.told own.own_next own.own_name init own.own_control (own_short from.path from.at from.reached) from.stands own.is in
      let value : bits from.path own.own_name (suc before) ≡ bits from.path own.own_next before =
      obeyed from.path from.at from.told (told.latch own.own_next own.own_name init own.own_control) (suc before) from.reached from.stands own.is within in
      let earlier : t next before ≡ bits from.path own.own_next before =
      each before refl from.path from.at own.own_next from.reached names.0 (next_at ∙ ap Some own.next_is) in
      bit_driven c rows t s (suc before) (plain.latch next init) trace within driven_by ∙ earlier ∙ sym value
      ∙ as_other from.path path from.at i own.own_name n (suc before) from.reached reached names.1 short (sym own.name_is ∙ same) within

  agrees_by_rank : (step : ℕ) → step < length rows → ((before : ℕ) → step ≡ suc before → (s : ℕ) → Agrees before s) → (fuel s : ℕ) → rank c s < fuel → Agrees step s
  agrees_by_rank step within earlier zero s less = absurd (omega (arith, less))
  agrees_by_rank step within earlier (suc fuel) s less =
      λ path i n reached short at.
      by_signal path i n reached short (signal_is (flat_of models) c s (named i n) spelled at)
      (λ p lower. agrees_by_rank step within earlier fuel p (omega (arith, less, lower)))
    where
      by_signal : (path : List ℕ) (i : Instance) (n : List ℕ) → leads models joiner (as_top top) path ≡ Some i → IsShortRun (most_run models) n
          → SignalIs (flat_of models).body c s (named i n) → ((p : ℕ) → rank c p < rank c s → Agrees step p) → t s step ≡ bits path n step
      by_signal path i n reached short (an_input is at) each = input_agrees step s (named i n) within is at path i n reached short refl
      by_signal path i n reached short (a_latch x reads next init control there is driven_by next_at) each =
          latch_agrees step s (named i n) x reads next init control within there is driven_by next_at (λ before e. earlier before e next) path i n reached short refl
      by_signal path i n reached short (a_gate x reads pins cover there is driven_by pins_at) each =
          let rises : RisesTo (rank c) s (plain.gate pins cover) = subst (RisesTo (rank c) s) driven_by (ranked.rises s) in
          gate_agrees step s (named i n) x reads pins cover within there is driven_by pins_at (λ p on. each p (rises p on)) path i n reached short refl

  agrees : (step : ℕ) → step < length rows → (s : ℕ) → Agrees step s
  agrees zero within s = agrees_by_rank zero within (λ before e. absurd (omega (arith, e))) (suc (rank c s)) s (omega arith)
  agrees (suc before) within s =
      agrees_by_rank (suc before) within (λ b e u. let same : before ≡ b = omega (arith, e) in subst (λ (k : ℕ). Agrees k u) same (agrees before (omega (arith, within)) u))
      (suc (rank c s)) s (omega arith)

  -- The top's outputs have the bits of the circuit's.
  pub same_outputs : (step : ℕ) → step < length rows → shown c t step ≡ outputs_shown models bits step
  same_outputs step within =
      let own : map (slice_get c.names) c.outputs ≡ map Some (map (λ (n : List ℕ). n) (over outputs_told top.body)) =
      spelled.outputs ∙ ap (map Some) (flat_outputs top others) ∙ ap (map Some) (sym (map-id (over outputs_told top.body))) in
      pins_agree t (λ n. bits [] n step) (λ n. n) c.names step c.outputs (over outputs_told top.body) own
      (λ p n on_p on_n at. agrees step within p [] (as_top top) n refl
      (all_contains (IsShortRun (most_run models)) (over outputs_told top.body) n
      (over_named (IsShortRun (most_run models)) outputs_told (outputs_named (IsShortRun (most_run models))) top.body (all_short models).0) on_n)
      (at ∙ ap Some (sym (append-nil n))))
