-- Bits that do not depend on the inputs, since every path back to one has too many latches.
use Rattle.std.proofs.Common.{◌≡◌, ℕ, zero, suc, ◌+◌, ◌<◌, Bool, cond, List, [], ◌∷◌, length, refl, sym, ◌∙◌, ap, subst, arith}
use Rattle.std.specs.Prelude.{Contains}
use Rattle.std.proofs.lemmas.List.Sums.{sum_by-cons}
use Rattle.tm_bits.specs.Rows.{holds}
use Rattle.tm_circuit.specs.Plain.{Plain, Drive, input, latch, gate, drive, drive_in, is_input, is_latch}
use Rattle.tm_circuit.specs.Trace.{row_bit, driven}
use Rattle.tm_circuit.specs.Chain.{rank}
use Rattle.tm_circuit.specs.Sound.{IsSound}
use Rattle.tm_circuit.proofs.ListLemmas.{contains-first}
use Rattle.tm_circuit.proofs.Traces.{IsRankedBy, Obeys, AtPins, map_agree, ranked_from_sound}
use Rattle.tm_init.specs.Paths.{made_of, latches_on, IsFreeOfInputs, zeros, HasOneBit}

-- One for a latch and nothing for all else.
abbrev one_of : Drive → ℕ
one_of d = cond (is_latch d) 1 0

latches-cons : (drives : List Drive) (s : ℕ) (path : List ℕ) → latches_on drives (s ∷ path) ≡ one_of (drive_in drives s) + latches_on drives path
latches-cons drives s path = sum_by-cons (λ p. one_of (drive_in drives p)) s path

-- What a free signal asks for is free, one step earlier where the signal is a latch.
free_back : (drives : List Drive) (s p step left : ℕ) (d : Drive) → drive_in drives s ≡ d → Contains (made_of d) p
    → step ≡ one_of d + left → IsFreeOfInputs drives s step → IsFreeOfInputs drives p left
free_back drives s p step left d is made spent free = record {
  paths = λ path back.
      let longer = free.paths (p ∷ path) (subst (λ e. Contains (made_of e) p) (sym is) made, back) in
      let counted = latches-cons drives s (p ∷ path) in
      let own : one_of (drive_in drives s) ≡ one_of d = ap one_of is in
      omega (arith, longer, counted, own);
}

-- An input is not free.
not_free : (drives : List Drive) (s step : ℕ) → drive_in drives s ≡ input → IsFreeOfInputs drives s step → ⊥
not_free drives s step is free =
    let short = free.paths [] (ap is_input is) in
    let counted = latches-cons drives s [] in
    let own : one_of (drive_in drives s) ≡ 0 = ap one_of is in
    omega (arith, short, counted, own)

-- A free signal is asked for the same bit in two tables that agree on what is free before it.
bit_by_kind : (drives : List Drive) (s step : ℕ) (d : Drive) → drive_in drives s ≡ d → IsFreeOfInputs drives s step
    → (a b : Bool) (t u : ℕ → ℕ → Bool)
    → ((next before : ℕ) → step ≡ suc before → IsFreeOfInputs drives next before → t next before ≡ u next before)
    → AtPins d (λ p. IsFreeOfInputs drives p step → t p step ≡ u p step) → driven d a t step ≡ driven d b u step
bit_by_kind drives s step input is free a b t u earlier here = absurd (not_free drives s step is free)
bit_by_kind drives s zero (latch next init) is free a b t u earlier here = refl
bit_by_kind drives s (suc before) (latch next init) is free a b t u earlier here =
    earlier next before refl (free_back drives s next (suc before) before (latch next init) is (contains-first next []) (omega arith) free)
bit_by_kind drives s step (gate pins cover) is free a b t u earlier here =
    ap (holds cover) (map_agree (λ p. t p step) (λ p. u p step) pins (λ p inside. here pins cover p refl inside (free_back drives s p step step (gate pins cover) is inside (omega arith) free)))

-- Two tables, whatever their inputs are given, agree at a step on what is free there, where they do one step earlier; by a
-- bound on the rank.
free_here : (c : Plain) (rank : ℕ → ℕ) → IsRankedBy c rank → (steps : ℕ) (given given' t u : ℕ → ℕ → Bool) → Obeys c given steps t
    → Obeys c given' steps u → (step : ℕ) → step < steps
    → ((next before : ℕ) → step ≡ suc before → IsFreeOfInputs c.drives next before → t next before ≡ u next before)
    → (bound s : ℕ) → rank s < bound → IsFreeOfInputs c.drives s step → t s step ≡ u s step
free_here c rank ranked steps given given' t u obeys_t obeys_u step within earlier zero s below free = absurd (omega arith)
free_here c rank ranked steps given given' t u obeys_t obeys_u step within earlier (suc bound) s below free =
    let at_pins : AtPins (drive c s) (λ p. IsFreeOfInputs c.drives p step → t p step ≡ u p step) = λ pins cover p is inside free_pin.
    let falls : rank p < rank s = ranked.falls s p pins cover is inside in
    free_here c rank ranked steps given given' t u obeys_t obeys_u step within earlier bound p (omega arith) free_pin in
    obeys_t s step within
    ∙ (bit_by_kind c.drives s step (drive c s) refl free (given s step) (given' s step) t u earlier at_pins ∙ sym (obeys_u s step within))

pub free_bit : (c : Plain) (rank : ℕ → ℕ) → IsRankedBy c rank → (steps : ℕ) (given given' t u : ℕ → ℕ → Bool) → Obeys c given steps t
    → Obeys c given' steps u → (step : ℕ) → step < steps → (s : ℕ) → IsFreeOfInputs c.drives s step → t s step ≡ u s step
free_bit c rank ranked steps given given' t u obeys_t obeys_u zero within s free =
    free_here c rank ranked steps given given' t u obeys_t obeys_u zero within (λ next before is free_next. cc) (suc (rank s)) s (omega arith) free
free_bit c rank ranked steps given given' t u obeys_t obeys_u (suc step) within s free =
    let inside : step < steps = omega arith in
    let earlier : (next before : ℕ) → suc step ≡ suc before → IsFreeOfInputs c.drives next before → t next before ≡ u next before = λ next before is free_next.
    let same : before ≡ step = omega arith in
    let P : ℕ → Type 0 = λ n. t next n ≡ u next n in
    subst P (sym same) (free_bit c rank ranked steps given given' t u obeys_t obeys_u step inside next (subst (λ n. IsFreeOfInputs c.drives next n) same free_next)) in
    free_here c rank ranked steps given given' t u obeys_t obeys_u (suc step) within earlier (suc (rank s)) s (omega arith) free

pub one_bit : (c : Plain) (s step : ℕ) → IsSound c → IsFreeOfInputs c.drives s step → HasOneBit c s step
one_bit c s step sound free = record {
  runs = λ given given' t u obeys_t obeys_u.
      free_bit c (rank c) (ranked_from_sound c sound) (suc step) given given' t u (λ x n below. obeys_t x n) (λ x n below. obeys_u x n) step (omega arith) s free;
  traces = λ rows t u long is_trace obeys.
      free_bit c (rank c) (ranked_from_sound c sound) (length rows) (row_bit rows) zeros t u is_trace (λ x n below. obeys x n) step long s free;
}
