-- For all rows there is a nested trace: each name of an instance has the bit of the signal that it becomes, and 0 where it becomes none.
use Rattle.std.proofs.Common.{◌≡◌, ℕ, zero, suc, ◌+◌, ◌<◌, Bool, true, false, not, cond, List, [], ◌∷◌, ◌++◌, Option, None, Some, length, map, slice_get, replicate, refl, sym, ◌∙◌, ap, subst, arith, append-nil, bytes_eq}
use Rattle.std.specs.Prelude.{Contains, option_map, option_and_then, filter_map}
use Rattle.std.specs.List.{position_or_len, AllByRecursion}
use Rattle.std.proofs.lemmas.Slice.Eq.{bytes_eq-Decides}
use Rattle.tm_bits.specs.Rows.{Rows, holds}
use Rattle.tm_circuit.specs.Plain.{Plain, Drive, drive}
use Rattle.tm_circuit.specs.Plain as plain
use Rattle.tm_circuit.specs.Trace.{IsTrace, row_bit, driven}
use Rattle.tm_circuit.proofs.ListLemmas.{contains-first}
use Rattle.blif_unit.specs.declared.unit.Binding.{Binding}
use Rattle.blif_unit.specs.declared.unit.Control.{Control}
use Rattle.blif_unit.specs.Unit as told
use Rattle.blif_unit.specs.Unit.{Told, Telling, Model, AreDistinct}
use Rattle.blif_circuit.specs.Circuit as by_name
use Rattle.blif_circuit.specs.Circuit.{Reading, reading, inputs_of, IsSpelled}
use Rattle.blif_read.proofs.OneCircuit.{place_once}
use Rattle.blif_flat.specs.Limits.{most_levels}
use Rattle.blif_flat.specs.Places.{model_named, faults_in_places, fault_in_telling}
use Rattle.blif_flat.specs.Flat.{told_by, control_by, is_too_deep, flat_of}
use Rattle.blif_hier.specs.Nested.{Placing, placing_at, Obeys, IsNestedTrace, model_at, open_inputs}
use Rattle.blif_hier.proofs.Lists.{all_by_each, map_same}
use Rattle.blif_hier.proofs.Standing.{gate_signal, latch_signal, input_signal}
use Rattle.blif_hier.proofs.Instances.{Instance, named, instance_in, instance_at, leads, leads-append, instance_of}
use Rattle.blif_hier.proofs.Reaching.{as_top, stands_in_flat}
use Rattle.blif_hier.proofs.ShortRuns.{most_run}
use Rattle.blif_hier.proofs.Placed.{instance_has, all_faultless, placing_lawful, binding_lawful, bound_name}
use Rattle.blif_hier.proofs.SameOutputs.{flat_inputs, bit_driven}

-- ---- the signal of a name

-- the number of the signal with a name, or how many there are
abbrev pub number_of : List (List ℕ) → List ℕ → ℕ
number_of names n = position_or_len (bytes_eq n) names

number_is : (names : List (List ℕ)) (s : ℕ) (n : List ℕ) → AreDistinct names → slice_get names s ≡ Some n → number_of names n ≡ s
number_is [] s n distinct at = let e : ◌≡◌ {A = Option (List ℕ)} None (Some n) = at in cc
number_is (x ∷ names) zero n distinct at =
    let same : n ≡ x = cc in
    ap (λ (b : Bool). cond (not b) (1 + number_of names n) 0) ((bytes_eq-Decides n x).1 same)
number_is (x ∷ names) (suc s) n distinct at = by_test (bytes_eq n x) refl (number_is names s n distinct.1 at)
  where
    by_test : (b : Bool) → bytes_eq n x ≡ b → number_of names n ≡ s → cond (not b) (1 + number_of names n) 0 ≡ suc s
    by_test true is rest =
        let same : n ≡ x = (bytes_eq-Decides n x).0 is in
        let bad : 0 ≡ suc s = place_once (x ∷ names) 0 (suc s) n distinct (ap Some (sym same)) at in absurd (omega (arith, bad))
    by_test false is rest = omega (arith, rest)

numbers_are : (t : ℕ → Bool) (rename : List ℕ → List ℕ) (names : List (List ℕ)) (ps : List ℕ) (pins : List (List ℕ)) → AreDistinct names
    → map (slice_get names) ps ≡ map Some (map rename pins) → map (λ n. t (number_of names (rename n))) pins ≡ map t ps
numbers_are t rename names [] [] distinct at = refl
numbers_are t rename names [] (n ∷ pins) distinct at = cc
numbers_are t rename names (p ∷ ps) [] distinct at = cc
numbers_are t rename names (p ∷ ps) (n ∷ pins) distinct at =
    let first : number_of names (rename n) ≡ p = number_is names p (rename n) distinct (let e : slice_get names p ≡ Some (rename n) = cc in e) in
    let rest : map (λ m. t (number_of names (rename m))) pins ≡ map t ps =
    numbers_are t rename names ps pins distinct (let e : map (slice_get names) ps ≡ map Some (map rename pins) = cc in e) in
    ap (λ k. t k ∷ map (λ m. t (number_of names (rename m))) pins) first ∙ ap (λ (bs : List Bool). t p ∷ bs) rest

-- ---- drives, by their readings

input_driven : (names : List (List ℕ)) (d : Drive) → reading names d ≡ by_name.input → d ≡ plain.input
input_driven names plain.input e = refl
input_driven names (plain.latch next init) e = cc
input_driven names (plain.gate pins cover) e = cc

gate_driven : (names : List (List ℕ)) (d : Drive) (reads : List (List ℕ)) (cover : Rows) → reading names d ≡ by_name.gate (map Some reads) cover
    → (pins : List ℕ) × (d ≡ plain.gate pins cover) × (map (slice_get names) pins ≡ map Some reads)
gate_driven names plain.input reads cover e = cc
gate_driven names (plain.latch next init) reads cover e = cc
gate_driven names (plain.gate pins rows) reads cover e =
    let same : rows ≡ cover = cc in
    (pins, ap (plain.gate pins) same, cc)

latch_driven : (names : List (List ℕ)) (d : Drive) (reads : List ℕ) (init : Bool) → reading names d ≡ by_name.latch (Some reads) init
    → (next : ℕ) × (d ≡ plain.latch next init) × (slice_get names next ≡ Some reads)
latch_driven names plain.input reads init e = cc
latch_driven names (plain.latch next own) reads init e =
    let same : own ≡ init = cc in
    (next, ap (plain.latch next) same, cc)
latch_driven names (plain.gate pins rows) reads init e = cc

-- ---- the nested trace of a circuit's trace

module _ (top : Model) (others : List Model) (c : Plain) (spelled : IsSpelled (flat_of (top ∷ others)) c) (distinct : AreDistinct c.names)
    (placed : faults_in_places (top ∷ others) ≡ []) (deep : is_too_deep (top ∷ others) ≡ false)
    (rows : List (List Bool)) (t : ℕ → ℕ → Bool) (trace : IsTrace c rows t) where
  abbrev models : List Model
  models = top ∷ others

  abbrev joiner : List ℕ
  joiner = replicate (suc (most_run (top ∷ others))) 64

  -- the bit of a name of an instance
  abbrev bit_in : Option Instance → List ℕ → ℕ → Bool
  bit_in None n step = false
  bit_in (Some i) n step = t (number_of c.names (named i n)) step

  abbrev bits : List ℕ → List ℕ → ℕ → Bool
  bits path n step = bit_in (leads models joiner (as_top top) path) n step

  bit_at : (path : List ℕ) (i : Instance) (n : List ℕ) (step : ℕ) → leads models joiner (as_top top) path ≡ Some i → bits path n step ≡ t (number_of c.names (named i n)) step
  bit_at path i n step reached = ap (λ (o : Option Instance). bit_in o n step) reached

  -- the bit of a name that becomes that of a signal
  bit_of : (path : List ℕ) (i : Instance) (n : List ℕ) (step s : ℕ) → leads models joiner (as_top top) path ≡ Some i → slice_get c.names s ≡ Some (named i n) → bits path n step ≡ t s step
  bit_of path i n step s reached at = bit_at path i n step reached ∙ ap (λ k. t k step) (number_is c.names s (named i n) distinct at)

  inputs_given : (k step : ℕ) (n : List ℕ) → step < length rows → slice_get (open_inputs models) k ≡ Some n → bits [] n step ≡ row_bit rows k step
  inputs_given k step n within at =
      let signal = input_signal (flat_of models) c k n spelled (ap (λ (ns : List (List ℕ)). slice_get ns k) (flat_inputs top others) ∙ at) in
      bit_of [] (as_top top) n step k refl (signal.0 ∙ ap Some (sym (append-nil n)))
      ∙ bit_driven c rows t k step plain.input trace within (input_driven c.names (drive c k) signal.1)

  gate_obeys : (path : List ℕ) (i : Instance) (x : Telling) (pins : List (List ℕ)) (name : List ℕ) (cover : Rows) (step : ℕ) → step < length rows
      → leads models joiner (as_top top) path ≡ Some i → Contains i.model.body x → x.what ≡ told.gate pins name cover → Obeys (told.gate pins name cover) (bits path) step
  gate_obeys path i x pins name cover step within reached there is =
      let stands = stands_in_flat models joiner most_levels true (as_top top) path i x (told.gate (map (named i) pins) (named i name) cover) deep reached there
      (λ b. subst (λ (w : Told). Contains (told_by b (named i) w) (told.gate (map (named i) pins) (named i name) cover)) (sym is) (contains-first (told.gate (map (named i) pins) (named i name) cover) [])) in
      let signal = gate_signal (flat_of models) c (record { line = x.line; what = told.gate (map (named i) pins) (named i name) cover }) (map (named i) pins) (named i name) cover spelled stands refl in
      let drives = gate_driven c.names (drive c signal.0) (map (named i) pins) cover signal.2 in
      let own : map (λ p. bits path p step) pins ≡ map (λ p. t p step) drives.0 =
      map_same (λ p. bits path p step) (λ n. t (number_of c.names (named i n)) step) pins (λ n on. bit_at path i n step reached)
      ∙ numbers_are (λ k. t k step) (named i) c.names drives.0 pins distinct drives.2 in
      bit_of path i name step signal.0 reached signal.1 ∙ bit_driven c rows t signal.0 step (plain.gate drives.0 cover) trace within drives.1 ∙ ap (holds cover) (sym own)

  latch_obeys : (path : List ℕ) (i : Instance) (x : Telling) (next name : List ℕ) (init : Bool) (control : Option Control) (step : ℕ) → step < length rows
      → leads models joiner (as_top top) path ≡ Some i → Contains i.model.body x → x.what ≡ told.latch next name init control → Obeys (told.latch next name init control) (bits path) step
  latch_obeys path i x next name init control step within reached there is =
      let stands = stands_in_flat models joiner most_levels true (as_top top) path i x (told.latch (named i next) (named i name) init (control_by (named i) control)) deep reached there
      (λ b. subst (λ (w : Told). Contains (told_by b (named i) w) (told.latch (named i next) (named i name) init (control_by (named i) control))) (sym is)
      (contains-first (told.latch (named i next) (named i name) init (control_by (named i) control)) [])) in
      let signal = latch_signal (flat_of models) c (record { line = x.line; what = told.latch (named i next) (named i name) init (control_by (named i) control) })
      (named i next) (named i name) init (control_by (named i) control) spelled stands refl in
      let drives = latch_driven c.names (drive c signal.0) (named i next) init signal.2 in
      by_step step within (bit_of path i name step signal.0 reached signal.1) (bit_driven c rows t signal.0 step (plain.latch drives.0 init) trace within drives.1)
      (λ before. bit_of path i next before drives.0 reached drives.2)
    where
      by_step : {s p : ℕ} (k : ℕ) → k < length rows → bits path name k ≡ t s k → t s k ≡ driven (plain.latch p init) (row_bit rows s k) t k
          → ((before : ℕ) → bits path next before ≡ t p before) → Obeys (told.latch next name init control) (bits path) k
      by_step zero less here value earlier = here ∙ value
      by_step (suc before) less here value earlier = here ∙ value ∙ sym (earlier before)

  statement_obeys : (path : List ℕ) (i : Instance) (x : Telling) (step : ℕ) → step < length rows → leads models joiner (as_top top) path ≡ Some i → Contains i.model.body x
      → Obeys x.what (bits path) step
  statement_obeys path i x step within reached there = by_kind x.what refl
    where
      by_kind : (w : Told) → x.what ≡ w → Obeys w (bits path) step
      by_kind (told.inputs names) is = tt
      by_kind (told.outputs names) is = tt
      by_kind (told.clock names) is = tt
      by_kind (told.gate pins name cover) is = gate_obeys path i x pins name cover step within reached there is
      by_kind (told.latch next name init control) is = latch_obeys path i x next name init control step within reached there is
      by_kind (told.place model bindings) is = tt

  statements_obey : (path : List ℕ) (m : Model) (step : ℕ) → step < length rows → model_at models path ≡ Some m → AllByRecursion (λ x. Obeys x.what (bits path) step) m.body
  statements_obey path m step within at =
      let found = instance_of models joiner (as_top top) path m at in
      subst (λ (n : Model). AllByRecursion (λ x. Obeys x.what (bits path) step) n.body) found.2
      (all_by_each (λ (x : Telling). Obeys x.what (bits path) step) found.0.model.body (λ x there. statement_obeys path found.0 x step within found.1 there))

  formals_bound : (path : List ℕ) (m : Model) (k : ℕ) (p : Placing) (step : ℕ) → step < length rows → model_at models path ≡ Some m → placing_at m k ≡ Some p
      → AllByRecursion (λ b. bits (path ++ k ∷ []) b.formal step ≡ bits path b.actual step) p.bindings
  formals_bound path m zero p step within at placing = let e : ◌≡◌ {A = Option Placing} None (Some p) = placing in cc
  formals_bound path m (suc before) p step within at placing =
      let found = instance_of models joiner (as_top top) path m at in
      let own : placing_at found.0.model (suc before) ≡ Some p = ap (λ (n : Model). placing_at n (suc before)) found.2 ∙ placing in
      let faultless = instance_has (λ n. filter_map (fault_in_telling models) n.body ≡ []) models joiner (as_top top) path found.0 (all_faultless models placed) (all_faultless models placed).0 found.1 in
      let lawful = binding_lawful (model_named models p.model) p.bindings (placing_lawful models found.0.model.body before p faultless own) in
      let step_at : instance_at models joiner found.0 (suc before) ≡ Some (instance_in models joiner found.0 (suc before) p.bindings lawful.0.0) =
      ap (λ o. option_and_then (λ (q : Placing). option_map (instance_in models joiner found.0 (suc before) q.bindings) (model_named models q.model)) o) own
      ∙ ap (option_map (instance_in models joiner found.0 (suc before) p.bindings)) lawful.0.1 in
      let reached : leads models joiner (as_top top) (path ++ suc before ∷ []) ≡ Some (instance_in models joiner found.0 (suc before) p.bindings lawful.0.0) =
      leads-append models joiner (as_top top) path (suc before ∷ []) ∙ ap (λ o. option_and_then (λ (j : Instance). leads models joiner j (suc before ∷ [])) o) found.1
      ∙ ap (λ o. option_and_then (λ (j : Instance). Some j) o) step_at in
      all_by_each (λ (b : Binding). bits (path ++ suc before ∷ []) b.formal step ≡ bits path b.actual step) p.bindings
      (λ b there.
      bit_at (path ++ suc before ∷ []) (instance_in models joiner found.0 (suc before) p.bindings lawful.0.0) b.formal step reached
      ∙ ap (λ n. t (number_of c.names n) step) (bound_name (named found.0) (instance_in models joiner found.0 (suc before) p.bindings lawful.0.0).suffix p.bindings b lawful.1 there)
      ∙ sym (bit_at path found.0 b.actual step found.1))

  pub some_nested : (bits : List ℕ → List ℕ → ℕ → Bool) × IsNestedTrace models rows bits
  some_nested = (bits, record { inputs = inputs_given; statements = statements_obey; bindings = formals_bound })
