-- The joined circuit has the words, the sources, the twins and the traces of the circuit.
use Rattle.std.proofs.Common.{◌≡◌, ℕ, zero, suc, ◌<◌, ◌≤◌, inl, inr, Bool, true, false, cond, max, List, [], ◌∷◌, map, length, get_or, Contains, refl, sym, ◌∙◌, ap, subst, arith}
use Rattle.std.specs.Prelude.{◌↔◌}
use Rattle.std.specs.List.{count_by, filter, zip}
use Rattle.std.proofs.lemmas.Bool.{cases_lt}
use Rattle.std.proofs.lemmas.List.{get_or_past, get_or-map, length-map}
use Rattle.std.proofs.lemmas.List.Sums.{sum_by-cons}
use Rattle.tm_bits.specs.Rows.{holds}
use Rattle.tm_circuit.specs.declared.sources.Source.{Source}
use Rattle.tm_circuit.specs.declared.sources.Source.TheVariants.{Input, Gate, Ring}
use Rattle.tm_circuit.specs.Plain.{Plain, Drive, input, latch, gate, drive_in, is_input, is_latch, is_gate, input_count, latch_count, gate_count, pins_of, widest}
use Rattle.tm_circuit.specs.Source.{step_back, back, IsSource}
use Rattle.tm_circuit.specs.Trace.{IsTrace, HasOneTrace, row_bit, driven}
use Rattle.tm_circuit.specs.Same.{IsSame, ShowsAlike, input_names, output_names}
use Rattle.tm_circuit.proofs.ListLemmas.{contains-unmap}
use Rattle.tm_twins.specs.Twins.{IsWord, HasWord, AreEqual, IsTwin, AreTwins}
use Rattle.tm_twins.specs.Joined.{joined_drive, IsJoined, HasSameBits, IsAsLarge, HasSameSources, HasSameTwins, HasOwnTwins, reads_of}
use Rattle.tm_twins.proofs.Words.{past_twin, twin_word, word_twin, one_twin, twin_settled, word_from_input, word_from_gate, back_word, ring_no_word, own_twin}

-- ---- one drive

pub latch_joined : (twin : ℕ → ℕ) (d : Drive) → is_latch (joined_drive twin d) ≡ is_latch d
latch_joined twin input = refl
latch_joined twin (latch next init) = refl
latch_joined twin (gate pins cover) = refl

pub input_joined : (twin : ℕ → ℕ) (d : Drive) → is_input (joined_drive twin d) ≡ is_input d
input_joined twin input = refl
input_joined twin (latch next init) = refl
input_joined twin (gate pins cover) = refl

gate_joined : (twin : ℕ → ℕ) (d : Drive) → is_gate (joined_drive twin d) ≡ is_gate d
gate_joined twin input = refl
gate_joined twin (latch next init) = refl
gate_joined twin (gate pins cover) = refl

pub pins_joined : (twin : ℕ → ℕ) (d : Drive) → length (pins_of (joined_drive twin d)) ≡ length (pins_of d)
pins_joined twin input = refl
pins_joined twin (latch next init) = refl
pins_joined twin (gate pins cover) = length-map pins twin

reads_joined : (twin : ℕ → ℕ) (d : Drive) → reads_of (joined_drive twin d) ≡ map twin (reads_of d)
reads_joined twin input = refl
reads_joined twin (latch next init) = refl
reads_joined twin (gate pins cover) = refl

-- A latch of the joined circuit is one of the circuit.
unjoined : (twin : ℕ → ℕ) (d : Drive) (n : ℕ) (init : Bool) → joined_drive twin d ≡ latch n init
    → (next : ℕ) × (d ≡ latch next init) × (twin next ≡ n)
unjoined twin input n init h = absurd (cc)
unjoined twin (latch next i) n init h =
    let to : twin next ≡ n = cc in
    let same : i ≡ init = cc in
    (next, ap (λ b. latch next b) same, to)
unjoined twin (gate pins cover) n init h = absurd (cc)

latch_is : (d : Drive) → is_latch d ≡ true → (next : ℕ) × ((init : Bool) × (d ≡ latch next init))
latch_is input h = absurd (cc)
latch_is (latch next init) h = (next, (init, refl))
latch_is (gate pins cover) h = absurd (cc)

-- ---- the drives of a joined circuit, of whose twins no more is asked

module _ (ds : List Drive) (twin : ℕ → ℕ) (twins : AreTwins ds twin) where
  -- Past the last signal too, where both have a latch that feeds itself.
  pub drive_joined : (s : ℕ) → drive_in (map (joined_drive twin) ds) s ≡ joined_drive twin (drive_in ds s)
  drive_joined s =
      elim (cases_lt s (length ds)) [
        | inl within ↦ get_or-map (joined_drive twin) ds s (latch s false) (latch s false) within
        | inr past ↦
            let as_long : length (map (joined_drive twin) ds) ≡ length ds = length-map ds (joined_drive twin) in
            let past' : length (map (joined_drive twin) ds) ≤ s = omega arith in
            let there : drive_in (map (joined_drive twin) ds) s ≡ latch s false = get_or_past (map (joined_drive twin) ds) s (latch s false) past' in
            let here : drive_in ds s ≡ latch s false = get_or_past ds s (latch s false) past in
            let own : twin s ≡ s = past_twin ds s (twin s) past (twins s) in
            there ∙ sym (ap (joined_drive twin) here ∙ ap (λ t. latch t false) own)
      ]

  pub latch_kept : (s : ℕ) → is_latch (drive_in (map (joined_drive twin) ds) s) ≡ is_latch (drive_in ds s)
  latch_kept s = ap is_latch (drive_joined s) ∙ latch_joined twin (drive_in ds s)

  -- ---- words

  pub word_joined : (s : ℕ) (w : List Bool) (e : ℕ) → IsWord ds s w e → IsWord (map (joined_drive twin) ds) s w e
  word_joined s [] e h = (h.0, latch_kept s ∙ h.1)
  word_joined s (i ∷ w) e h =
      let is : drive_in (map (joined_drive twin) ds) s ≡ latch (twin h.0) i = drive_joined s ∙ ap (joined_drive twin) h.1 in
      (twin h.0, is, word_joined (twin h.0) w e (twin_word ds h.0 (twin h.0) w e (twins h.0) h.2))

  pub word_unjoined : (s : ℕ) (w : List Bool) (e : ℕ) → IsWord (map (joined_drive twin) ds) s w e → IsWord ds s w e
  word_unjoined s [] e h = (h.0, sym (latch_kept s) ∙ h.1)
  word_unjoined s (i ∷ w) e h =
      let (next, is, to) = unjoined twin (drive_in ds s) h.0 i (sym (drive_joined s) ∙ h.1) in
      let there : IsWord ds (twin next) w e = subst (λ n. IsWord ds n w e) (sym to) (word_unjoined h.0 w e h.2) in
      (next, is, word_twin ds next (twin next) w e (twins next) there)

  equal_joined : (q r : ℕ) → AreEqual ds q r → AreEqual (map (joined_drive twin) ds) q r
  equal_joined q r (w, (e, hq, hr)) = (w, (e, word_joined q w e hq, word_joined r w e hr))

  equal_unjoined : (q r : ℕ) → AreEqual (map (joined_drive twin) ds) q r → AreEqual ds q r
  equal_unjoined q r (w, (e, hq, hr)) = (w, (e, word_unjoined q w e hq, word_unjoined r w e hr))

  -- ---- twins

  pub twin_joined : (s t : ℕ) → IsTwin ds s t → IsTwin (map (joined_drive twin) ds) s t
  twin_joined s t h = record {
    equal = elim h.equal [ inl own ↦ inl own | inr equal ↦ inr (equal_joined s t equal) ];
    least = λ r equal. h.least r (equal_unjoined s r equal);
  }

  pub twin_unjoined : (s t : ℕ) → IsTwin (map (joined_drive twin) ds) s t → IsTwin ds s t
  twin_unjoined s t h = record {
    equal = elim h.equal [ inl own ↦ inl own | inr equal ↦ inr (equal_unjoined s t equal) ];
    least = λ r equal. h.least r (equal_joined s r equal);
  }

  pub own_twins : (s p : ℕ) → Contains (reads_of (drive_in (map (joined_drive twin) ds) s)) p
      → IsTwin (map (joined_drive twin) ds) p p
  own_twins s p inside =
      let reads : reads_of (drive_in (map (joined_drive twin) ds) s) ≡ map twin (reads_of (drive_in ds s)) =
      ap reads_of (drive_joined s) ∙ reads_joined twin (drive_in ds s) in
      let (x, among, is) = contains-unmap twin (reads_of (drive_in ds s)) p (subst (λ (xs : List ℕ). Contains xs p) reads inside) in
      subst (λ y. IsTwin (map (joined_drive twin) ds) y y) is (twin_joined (twin x) (twin x) (twin_settled ds x (twin x) (twins x)))

  -- ---- sources

  ring_joined : (n s : ℕ) → IsSource ds s Ring
      → is_latch (drive_in (map (joined_drive twin) ds) (back (map (joined_drive twin) ds) n s)) ≡ true
  ring_joined zero s ring = latch_kept s ∙ ring zero
  ring_joined (suc n) s ring =
      let (next, (init, is)) = latch_is (drive_in ds s) (ring zero) in
      let further : IsSource ds next Ring = λ m.
      subst (λ d. is_latch (drive_in ds (back ds m (step_back s d))) ≡ true) is (ring (suc m)) in
      let own : twin next ≡ next = own_twin ds next (twin next) (λ (w, (e, h)). ring_no_word ds next e w further h) (twins next) in
      let there : drive_in (map (joined_drive twin) ds) s ≡ latch next init =
      drive_joined s ∙ (ap (joined_drive twin) is ∙ ap (λ t. latch t init) own) in
      subst (λ d. is_latch (drive_in (map (joined_drive twin) ds) (back (map (joined_drive twin) ds) n (step_back s d))) ≡ true)
      (sym there) (ring_joined n next further)

  ring_unjoined : (n s : ℕ) → IsSource (map (joined_drive twin) ds) s Ring → is_latch (drive_in ds (back ds n s)) ≡ true
  ring_unjoined zero s ring = sym (latch_kept s) ∙ ring zero
  ring_unjoined (suc n) s ring =
      let (next, (init, is)) = latch_is (drive_in ds s) (sym (latch_kept s) ∙ ring zero) in
      let there : drive_in (map (joined_drive twin) ds) s ≡ latch (twin next) init = drive_joined s ∙ ap (joined_drive twin) is in
      let further : IsSource (map (joined_drive twin) ds) (twin next) Ring = λ m.
      subst (λ d. is_latch (drive_in (map (joined_drive twin) ds) (back (map (joined_drive twin) ds) m (step_back s d))) ≡ true) there (ring (suc m)) in
      let none : ¬ HasWord ds next = λ (w, (e, h)).
      ring_no_word (map (joined_drive twin) ds) (twin next) e w further (word_joined (twin next) w e (twin_word ds next (twin next) w e (twins next) h)) in
      let own : twin next ≡ next = own_twin ds next (twin next) none (twins next) in
      let from_here : IsSource (map (joined_drive twin) ds) next Ring =
      subst (λ x. IsSource (map (joined_drive twin) ds) x Ring) own further in
      subst (λ d. is_latch (drive_in ds (back ds n (step_back s d))) ≡ true) (sym is) (ring_unjoined n next from_here)

  pub source_joined : (s : ℕ) (source : Source) → IsSource ds s source → IsSource (map (joined_drive twin) ds) s source
  source_joined s (Input e) h =
      let (w, is) = word_from_input ds s e h in
      (ap is_input (drive_joined e) ∙ input_joined twin (drive_in ds e) ∙ h.0, (length w, back_word (map (joined_drive twin) ds) s w e (word_joined s w e is)))
  source_joined s (Gate e) h =
      let (w, is) = word_from_gate ds s e h in
      (ap is_gate (drive_joined e) ∙ gate_joined twin (drive_in ds e) ∙ h.0, (length w, back_word (map (joined_drive twin) ds) s w e (word_joined s w e is)))
  source_joined s Ring ring = λ n. ring_joined n s ring

  pub source_unjoined : (s : ℕ) (source : Source) → IsSource (map (joined_drive twin) ds) s source → IsSource ds s source
  source_unjoined s (Input e) h =
      let (w, is) = word_from_input (map (joined_drive twin) ds) s e h in
      (sym (ap is_input (drive_joined e) ∙ input_joined twin (drive_in ds e)) ∙ h.0, (length w, back_word ds s w e (word_unjoined s w e is)))
  source_unjoined s (Gate e) h =
      let (w, is) = word_from_gate (map (joined_drive twin) ds) s e h in
      (sym (ap is_gate (drive_joined e) ∙ gate_joined twin (drive_in ds e)) ∙ h.0, (length w, back_word ds s w e (word_unjoined s w e is)))
  source_unjoined s Ring ring = λ n. ring_unjoined n s ring

-- ---- traces

-- Equal signals have the same bits in a trace.
equal_bits : (c : Plain) (rows : List (List Bool)) (t : ℕ → ℕ → Bool) → IsTrace c rows t → (q r : ℕ) (w : List Bool)
    → (e : ℕ) → IsWord c.drives q w e → IsWord c.drives r w e → (step : ℕ) → step < length rows
    → t q step ≡ t r step
equal_bits c rows t is_t q r [] e hq hr step within = ap (λ x. t x step) (hq.0 ∙ sym hr.0)
equal_bits c rows t is_t q r (i ∷ w) e hq hr zero within =
    let at_q : t q 0 ≡ i = is_t q 0 within ∙ ap (λ d. driven d (row_bit rows q 0) t 0) hq.1 in
    let at_r : t r 0 ≡ i = is_t r 0 within ∙ ap (λ d. driven d (row_bit rows r 0) t 0) hr.1 in
    at_q ∙ sym at_r
equal_bits c rows t is_t q r (i ∷ w) e hq hr (suc before) within =
    let inside : before < length rows = omega arith in
    let at_q : t q (suc before) ≡ t hq.0 before = is_t q (suc before) within ∙ ap (λ d. driven d (row_bit rows q (suc before)) t (suc before)) hq.1 in
    let at_r : t r (suc before) ≡ t hr.0 before = is_t r (suc before) within ∙ ap (λ d. driven d (row_bit rows r (suc before)) t (suc before)) hr.1 in
    at_q ∙ (equal_bits c rows t is_t hq.0 hr.0 w e hq.2 hr.2 before inside ∙ sym at_r)

twin_bits : (c : Plain) (rows : List (List Bool)) (t : ℕ → ℕ → Bool) → IsTrace c rows t → (s u : ℕ)
    → IsTwin c.drives s u → (step : ℕ) → step < length rows → t s step ≡ t u step
twin_bits c rows t is_t s u twin step within =
    elim twin.equal [
      | inl own ↦ ap (λ x. t x step) (sym own)
      | inr (w, (e, hs, hu)) ↦ equal_bits c rows t is_t s u w e hs hu step within
    ]

pub map_joined : (f : ℕ → Bool) (twin : ℕ → ℕ) (pins : List ℕ) → ((p : ℕ) → f p ≡ f (twin p))
    → map f pins ≡ map f (map twin pins)
map_joined f twin [] same = refl
map_joined f twin (p ∷ pins) same =
    let here : f p ≡ f (twin p) = same p in
    let rest : map f pins ≡ map f (map twin pins) = map_joined f twin pins same in
    cc

driven_joined : (c : Plain) (rows : List (List Bool)) (t : ℕ → ℕ → Bool) (twin : ℕ → ℕ) → IsTrace c rows t
    → AreTwins c.drives twin → (d : Drive) (given : Bool) (step : ℕ) → step < length rows
    → driven d given t step ≡ driven (joined_drive twin d) given t step
driven_joined c rows t twin is_t twins input given step within = refl
driven_joined c rows t twin is_t twins (latch next init) given zero within = refl
driven_joined c rows t twin is_t twins (latch next init) given (suc before) within =
    let inside : before < length rows = omega arith in
    twin_bits c rows t is_t next (twin next) (twins next) before inside
driven_joined c rows t twin is_t twins (gate pins cover) given step within =
    ap (λ bits. holds cover bits) (map_joined (λ p. t p step) twin pins (λ p. twin_bits c rows t is_t p (twin p) (twins p) step within))

-- A trace of the circuit is one of the joined circuit.
pub joined_trace : (c j : Plain) (rows : List (List Bool)) (t : ℕ → ℕ → Bool) → IsJoined c j → IsTrace c rows t
    → IsTrace j rows t
joined_trace c j rows t joined is_t s step within =
    let (twin, twins, drives) = joined.drives in
    let there : drive_in j.drives s ≡ joined_drive twin (drive_in c.drives s) =
    ap (λ (ds : List Drive). drive_in ds s) drives ∙ drive_joined c.drives twin twins s in
    is_t s step within ∙ (driven_joined c rows t twin is_t twins (drive_in c.drives s) (row_bit rows s step) step within
    ∙ ap (λ d. driven d (row_bit rows s step) t step) (sym there))

pub joined_bits : (c j : Plain) → HasOneTrace j → IsJoined c j → HasSameBits c j
joined_bits c j traces joined rows t u is_t is_u s step within = traces.one rows t u (joined_trace c j rows t joined is_t) is_u s step within

-- The names of the inputs are found by which drives are inputs.
input_cond : (b c : Bool) (name : List ℕ) (d e : Drive) (xs ys : List (List ℕ × Drive)) → b ≡ c
    → map (λ signal. signal.0) xs ≡ map (λ signal. signal.0) ys
    → map (λ signal. signal.0) (cond b ((name, d) ∷ xs) xs) ≡ map (λ signal. signal.0) (cond c ((name, e) ∷ ys) ys)
input_cond true true name d e xs ys same rest = ap (λ names. name ∷ names) rest
input_cond true false name d e xs ys same rest = cc
input_cond false true name d e xs ys same rest = cc
input_cond false false name d e xs ys same rest = rest

inputs_joined : (twin : ℕ → ℕ) (names : List (List ℕ)) (ds : List Drive)
    → map (λ signal. signal.0) (filter (λ signal. is_input signal.1) (zip names ds)) ≡ map (λ signal. signal.0) (filter (λ signal. is_input signal.1) (zip names (map (joined_drive twin) ds)))
inputs_joined twin [] ds = refl
inputs_joined twin (name ∷ names) [] = refl
inputs_joined twin (name ∷ names) (d ∷ ds) =
    input_cond (is_input d) (is_input (joined_drive twin d)) name d (joined_drive twin d) (filter (λ signal. is_input signal.1) (zip names ds)) (filter (λ signal. is_input signal.1) (zip names (map (joined_drive twin) ds))) (sym (input_joined twin d)) (inputs_joined twin names ds)

-- Circuits are Same by their traces, as the law says: here of a circuit and its joined circuit.
pub joined_same : (c j : Plain)
    → (input_names c ≡ input_names j → output_names c ≡ output_names j
    → ((rows : List (List Bool)) (t : ℕ → ℕ → Bool) → IsTrace c rows t → ShowsAlike c j rows t) → IsSame c j)
    → IsJoined c j → IsSame c j
joined_same c j by_traces joined =
    let (twin, twins, drives) = joined.drives in
    let inputs : input_names c ≡ input_names j =
    inputs_joined twin c.names c.drives ∙ (ap (λ (ds : List Drive). map (λ signal. signal.0) (filter (λ signal. is_input signal.1) (zip c.names ds))) (sym drives)
    ∙ ap (λ (names : List (List ℕ)). map (λ signal. signal.0) (filter (λ signal. is_input signal.1) (zip names j.drives))) (sym joined.names)) in
    let outputs : output_names c ≡ output_names j =
    ap (λ (names : List (List ℕ)). map (λ s. get_or names s []) c.outputs) (sym joined.names) ∙ ap (λ (outputs : List ℕ). map (λ s. get_or j.names s []) outputs) (sym joined.outputs) in
    by_traces inputs outputs (λ rows t is_t.
    (t, joined_trace c j rows t joined is_t, λ step within. ap (λ (outputs : List ℕ). map (λ s. t s step) outputs) (sym joined.outputs)))

-- ---- sizes

pub count_joined : (test : Drive → Bool) (twin : ℕ → ℕ) → ((d : Drive) → test (joined_drive twin d) ≡ test d) → (ds : List Drive)
    → count_by test (map (joined_drive twin) ds) ≡ count_by test ds
count_joined test twin same [] = refl
count_joined test twin same (d ∷ ds) =
    let here = ap (λ b. cond {A = ℕ} b 1 0) (same d) in
    let rest = count_joined test twin same ds in
    let left = sum_by-cons (λ (x : Drive). cond (test x) 1 0) (joined_drive twin d) (map (joined_drive twin) ds) in
    let right = sum_by-cons (λ (x : Drive). cond (test x) 1 0) d ds in
    omega arith

widest_joined : (twin : ℕ → ℕ) (ds : List Drive) → widest (map (joined_drive twin) ds) ≡ widest ds
widest_joined twin [] = refl
widest_joined twin (d ∷ ds) =
    let here : length (pins_of (joined_drive twin d)) ≡ length (pins_of d) = pins_joined twin d in
    let rest : widest (map (joined_drive twin) ds) ≡ widest ds = widest_joined twin ds in
    ap (λ n. max n (widest (map (joined_drive twin) ds))) here ∙ ap (λ n. max (length (pins_of d)) n) rest

sizes : (c j : Plain) (twin : ℕ → ℕ) → j.drives ≡ map (joined_drive twin) c.drives → IsAsLarge c j
sizes c j twin drives = record {
  signals = ap length drives ∙ length-map c.drives (joined_drive twin);
  inputs = ap input_count drives ∙ count_joined is_input twin (input_joined twin) c.drives;
  latches = ap latch_count drives ∙ count_joined is_latch twin (latch_joined twin) c.drives;
  gates = ap gate_count drives ∙ count_joined is_gate twin (gate_joined twin) c.drives;
  widest = ap widest drives ∙ widest_joined twin c.drives;
}

-- ---- whole circuits

pub joined_large : (c j : Plain) → IsJoined c j → IsAsLarge c j
joined_large c j joined = let (twin, twins, drives) = joined.drives in sizes c j twin drives

pub joined_sources : (c j : Plain) → IsJoined c j → HasSameSources c j
joined_sources c j joined =
    let (twin, twins, drives) = joined.drives in
    λ s source. subst (λ (ds : List Drive). IsSource c.drives s source ↔ IsSource ds s source) (sym drives)
    (source_joined c.drives twin twins s source, source_unjoined c.drives twin twins s source)

pub joined_twins : (c j : Plain) → IsJoined c j → HasSameTwins c j
joined_twins c j joined =
    let (twin, twins, drives) = joined.drives in
    λ s t. subst (λ (ds : List Drive). IsTwin c.drives s t ↔ IsTwin ds s t) (sym drives)
    (twin_joined c.drives twin twins s t, twin_unjoined c.drives twin twins s t)

pub joined_own_twins : (c j : Plain) → IsJoined c j → HasOwnTwins j
joined_own_twins c j joined =
    let (twin, twins, drives) = joined.drives in
    subst (λ (ds : List Drive). (s p : ℕ) → Contains (reads_of (drive_in ds s)) p → IsTwin ds p p) (sym drives)
    (own_twins c.drives twin twins)

-- ---- one joined circuit

map_same : (f g : ℕ → ℕ) → ((s : ℕ) → f s ≡ g s) → (xs : List ℕ) → map f xs ≡ map g xs
map_same f g same [] = refl
map_same f g same (x ∷ xs) =
    let here : f x ≡ g x = same x in
    let rest : map f xs ≡ map g xs = map_same f g same xs in
    cc

drive_same : (f g : ℕ → ℕ) → ((s : ℕ) → f s ≡ g s) → (d : Drive) → joined_drive f d ≡ joined_drive g d
drive_same f g same input = refl
drive_same f g same (latch next init) = ap (λ n. latch n init) (same next)
drive_same f g same (gate pins cover) = ap (λ ps. gate ps cover) (map_same f g same pins)

drives_same : (f g : ℕ → ℕ) → ((s : ℕ) → f s ≡ g s) → (ds : List Drive)
    → map (joined_drive f) ds ≡ map (joined_drive g) ds
drives_same f g same [] = refl
drives_same f g same (d ∷ ds) =
    let here : joined_drive f d ≡ joined_drive g d = drive_same f g same d in
    let rest : map (joined_drive f) ds ≡ map (joined_drive g) ds = drives_same f g same ds in
    cc

plain_same : (c d : Plain) → c.model ≡ d.model → c.clock ≡ d.clock → c.names ≡ d.names → c.drives ≡ d.drives
    → c.outputs ≡ d.outputs → c ≡ d
plain_same c d models clocks names drives outputs =
    λ i. record { model = models i; clock = clocks i; names = names i; drives = drives i; outputs = outputs i }

pub one_joined : (c d e : Plain) → IsJoined c d → IsJoined c e → d ≡ e
one_joined c d e h k =
    let (f, fs, hd) = h.drives in
    let (g, gs, ke) = k.drives in
    let same : (s : ℕ) → f s ≡ g s = λ s. one_twin c.drives s (f s) (g s) (fs s) (gs s) in
    plain_same d e (h.model ∙ sym k.model) (h.clock ∙ sym k.clock) (h.names ∙ sym k.names)
    (hd ∙ (drives_same f g same c.drives ∙ sym ke)) (h.outputs ∙ sym k.outputs)
