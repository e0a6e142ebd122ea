-- One step of a machine is one step of the trace.
use Rattle.std.proofs.Common.{◌≡◌, ℕ, zero, suc, ◌+◌, ◌-◌, ◌<◌, ◌≤◌, Bool, false, List, [], ◌∷◌, ◌++◌, map, take, length, get_or, refl, sym, ◌∙◌, ap, arith}
use Rattle.std.specs.Prelude.{Contains}
use Rattle.std.proofs.lemmas.Option.{slice_get-get_or}
use Rattle.std.proofs.lemmas.List.{get_or_append_left, get_or-append_right, get_or_push, get_or-take, length_push}
use Rattle.std.proofs.lemmas.List.Elements.{All-get_or, All-contains}
use Rattle.std.proofs.lemmas.List.FromFn.{get_or-map-range_with_len, length-map-range_with_len}
use Rattle.tm_bits.specs.Rows.{holds}
use Rattle.tm_circuit.specs.Plain.{Plain, Drive, input, latch, gate, drive, pins_of, input_count, latch_count}
use Rattle.tm_circuit.specs.Trace.{IsTrace, driven}
use Rattle.tm_circuit.specs.Chain.{rank}
use Rattle.tm_circuit.specs.Sound.{IsSound, IsPlaced, ReadsBelow}
use Rattle.tm_circuit.proofs.KindLemmas.{kinds-length}
use Rattle.tm_circuit.proofs.ListLemmas.{map-agree}
use Rattle.tm_circuit.proofs.Traces.{IsRankedBy, ranked_from_sound}
use Rattle.tm_sim.specs.Machine.{held, StandsAfter, ShowsLast}
use Rattle.tm_sim.specs.Settled.{bit_of, settled, Settles, first_bit, next_bit, first_bits, next_bits}
use Rattle.tm_sim.proofs.RowLemmas.{range-agree}

-- ---- the kinds of signals

pub latches-inside : (c : Plain) → input_count c.drives + latch_count c.drives ≤ length c.drives
latches-inside c = omega (arith, kinds-length c.drives)

placed : (c : Plain) → IsSound c → (s : ℕ) → s < length c.drives
    → IsPlaced (input_count c.drives) (latch_count c.drives) s (drive c s)
placed c sound s within = sound.placed s (drive c s) (slice_get-get_or c.drives s (latch s false) within)

pub reads : (c : Plain) → IsSound c → (s : ℕ) → s < length c.drives → ReadsBelow (length c.drives) (drive c s)
reads c sound s within = All-get_or (ReadsBelow (length c.drives)) c.drives s (latch s false) within sound.range.reads

pin_by_kind : (c : Plain) (s p : ℕ) (d : Drive) → IsRankedBy c (rank c) → drive c s ≡ d → ReadsBelow (length c.drives) d
    → Contains (pins_of d) p → (rank c p < rank c s) × (p < length c.drives)
pin_by_kind c s p input ranked is below inside = absurd (omega (arith, inside.1))
pin_by_kind c s p (latch next init) ranked is below inside = absurd (omega (arith, inside.1))
pin_by_kind c s p (gate pins cover) ranked is below inside =
    (ranked.falls s p pins cover is inside, All-contains (λ x. x < length c.drives) pins p below inside)

-- a pin has a lower rank than its gate
pin_rank : (c : Plain) → IsSound c → (s p : ℕ) → s < length c.drives → Contains (pins_of (drive c s)) p
    → (rank c p < rank c s) × (p < length c.drives)
pin_rank c sound s p within inside = pin_by_kind c s p (drive c s) (ranked_from_sound c sound) refl (reads c sound s within) inside

-- ---- traces

-- a trace for some rows and one more is one for the rows
trace-front : (c : Plain) (rows : List (List Bool)) (row : List Bool) (t : ℕ → ℕ → Bool) → IsTrace c (rows ++ row ∷ []) t → IsTrace c rows t
trace-front c rows row t is_trace s step within =
    let grown : length (rows ++ row ∷ []) ≡ length rows + 1 = length_push rows row in
    is_trace s step (omega arith)
    ∙ ap (λ given. driven (drive c s) (get_or given s false) t step) (get_or_append_left rows (row ∷ []) [] step within)

-- at the last step the inputs have the bits of the last row
trace-last : (c : Plain) (rows : List (List Bool)) (row : List Bool) (t : ℕ → ℕ → Bool) → IsTrace c (rows ++ row ∷ []) t → (s : ℕ)
    → t s (length rows) ≡ driven (drive c s) (get_or row s false) t (length rows)
trace-last c rows row t is_trace s =
    let grown : length (rows ++ row ∷ []) ≡ length rows + 1 = length_push rows row in
    is_trace s (length rows) (omega arith)
    ∙ ap (λ given. driven (drive c s) (get_or given s false) t (length rows)) (get_or_push rows row [] (length rows) refl)

-- ---- before the first step

first_by_kind : (inputs latches s : ℕ) (d : Drive) (t : ℕ → ℕ → Bool) (given : Bool) → IsPlaced inputs latches s d → inputs ≤ s
    → s < inputs + latches → first_bit d ≡ driven d given t zero
first_by_kind inputs latches s input t given place low high = absurd (omega arith)
first_by_kind inputs latches s (latch next init) t given place low high = refl
first_by_kind inputs latches s (gate pins cover) t given place low high = absurd (omega arith)

pub stands-first : (c : Plain) → IsSound c → StandsAfter (record { circuit = c; latches = first_bits c }) []
stands-first c sound = record {
  bits = λ row t is_trace.
      range-agree (λ s. first_bit (drive c s)) (λ s. t s zero) (input_count c.drives) (latch_count c.drives) (λ s low high.
      first_by_kind (input_count c.drives) (latch_count c.drives) s (drive c s) t (get_or row s false) (placed c sound s (omega (arith, latches-inside c))) low high
      ∙ sym (trace-last c [] row t is_trace s));
}

-- ---- one step

module _ (c : Plain) (sound : IsSound c) (rows : List (List Bool)) (row latches before after : List Bool)
    (stands : StandsAfter (record { circuit = c; latches = latches }) rows) (wide : length row ≡ input_count c.drives)
    (loaded : take (length row + length latches) before ≡ row ++ latches) (settles : Settles c before after)
    (t : ℕ → ℕ → Bool) (is_trace : IsTrace c (rows ++ row ∷ []) t)
  where
    latches_are : latches ≡ held c t (length rows)
    latches_are = stands.bits row t is_trace

    latches_all : length latches ≡ latch_count c.drives
    latches_all = ap length latches_are ∙ length-map-range_with_len (λ s. t s (length rows)) (input_count c.drives) (latch_count c.drives)

    front_bit : (s : ℕ) → s < length row + length latches → bit_of before s ≡ get_or (row ++ latches) s false
    front_bit s low = sym (get_or-take (length row + length latches) before s false low) ∙ ap (λ bits. get_or bits s false) loaded

    input_bit : (s : ℕ) → s < input_count c.drives → bit_of before s ≡ get_or row s false
    input_bit s low = front_bit s (omega arith) ∙ get_or_append_left row latches false s (omega arith)

    latch_bit : (s : ℕ) → input_count c.drives ≤ s → s < input_count c.drives + latch_count c.drives → bit_of before s ≡ t s (length rows)
    latch_bit s low high =
        front_bit s (omega (arith, latches_all)) ∙ get_or-append_right row latches (length row) s false refl (omega arith)
        ∙ ap (λ bits. get_or bits (s - length row) false) latches_are
        ∙ get_or-map-range_with_len (λ x. t x (length rows)) (input_count c.drives) (latch_count c.drives) (s - length row) s false (omega arith) (omega arith)

    -- a signal has the bit of the trace where the pins of a gate have theirs
    bit_by_kind : (s : ℕ) (d : Drive) → IsPlaced (input_count c.drives) (latch_count c.drives) s d
        → bit_of after s ≡ settled d (bit_of before s) (bit_of after)
        → t s (length rows) ≡ driven d (get_or row s false) t (length rows)
        → ((p : ℕ) → Contains (pins_of d) p → bit_of after p ≡ t p (length rows))
        → bit_of after s ≡ t s (length rows)
    bit_by_kind s input place is traced at_pins = is ∙ input_bit s place ∙ sym traced
    bit_by_kind s (latch next init) place is traced at_pins = is ∙ latch_bit s place.0 place.1
    bit_by_kind s (gate pins cover) place is traced at_pins =
        is ∙ ap (holds cover) (map-agree (bit_of after) (λ p. t p (length rows)) pins at_pins) ∙ sym traced

    -- by a bound on the rank
    bit_within : (bound s : ℕ) → rank c s < bound → s < length c.drives → bit_of after s ≡ t s (length rows)
    bit_within zero s below within = absurd (omega arith)
    bit_within (suc bound) s below within =
        bit_by_kind s (drive c s) (placed c sound s within) (settles.each s) (trace-last c rows row t is_trace s) (λ p inside.
        let pin = pin_rank c sound s p within inside in bit_within bound p (omega (arith, pin.0)) pin.1)

    pub bit-traced : (s : ℕ) → s < length c.drives → bit_of after s ≡ t s (length rows)
    bit-traced s within = bit_within (suc (rank c s)) s (omega arith) within

-- the outputs of the step are those of the trace
pub step-shows : (c : Plain) → IsSound c → (rows : List (List Bool)) (row latches before after : List Bool)
    → StandsAfter (record { circuit = c; latches = latches }) rows → length row ≡ input_count c.drives
    → take (length row + length latches) before ≡ row ++ latches → Settles c before after
    → ShowsLast c rows row (map (bit_of after) c.outputs)
step-shows c sound rows row latches before after stands wide loaded settles t is_trace =
    map-agree (bit_of after) (λ s. t s (length rows)) c.outputs (λ s inside.
    bit-traced c sound rows row latches before after stands wide loaded settles t is_trace s (All-contains (λ x. x < length c.drives) c.outputs s sound.range.outputs inside))

-- the bit that a latch takes is the one that it has in the trace one step later
next_by_kind : (c : Plain) (s n : ℕ) (d : Drive) (t : ℕ → ℕ → Bool) (bits : ℕ → Bool) (given : Bool)
    → IsPlaced (input_count c.drives) (latch_count c.drives) s d → input_count c.drives ≤ s
    → s < input_count c.drives + latch_count c.drives → ReadsBelow (length c.drives) d
    → ((x : ℕ) → x < length c.drives → bits x ≡ t x n) → next_bit d bits ≡ driven d given t (suc n)
next_by_kind c s n input t bits given place low high below traced = absurd (omega arith)
next_by_kind c s n (latch next init) t bits given place low high below traced = traced next below
next_by_kind c s n (gate pins cover) t bits given place low high below traced = absurd (omega arith)

-- after the step the machine stands after one row more
pub step-stands : (c : Plain) → IsSound c → (rows : List (List Bool)) (row latches before after : List Bool)
    → StandsAfter (record { circuit = c; latches = latches }) rows → length row ≡ input_count c.drives
    → take (length row + length latches) before ≡ row ++ latches → Settles c before after
    → StandsAfter (record { circuit = c; latches = next_bits c (bit_of after) }) (rows ++ row ∷ [])
step-stands c sound rows row latches before after stands wide loaded settles = record {
  bits = λ last t is_trace.
      let traced = bit-traced c sound rows row latches before after stands wide loaded settles t (trace-front c (rows ++ row ∷ []) last t is_trace) in
      let later : length (rows ++ row ∷ []) ≡ suc (length rows) = length_push rows row ∙ omega arith in
      range-agree (λ s. next_bit (drive c s) (bit_of after)) (λ s. t s (length (rows ++ row ∷ []))) (input_count c.drives) (latch_count c.drives) (λ s low high.
      let within : s < length c.drives = omega (arith, latches-inside c) in
      next_by_kind c s (length rows) (drive c s) t (bit_of after) (get_or last s false) (placed c sound s within) low high (reads c sound s within) traced
      ∙ ap (λ n. driven (drive c s) (get_or last s false) t n) (sym later)
      ∙ sym (trace-last c (rows ++ row ∷ []) last t is_trace s));
}
