-- A circuit whose gates have ranks has exactly one trace.
use Rattle.std.proofs.Common.{◌≡◌, ℕ, zero, suc, ◌<◌, Bool, false, List, [], ◌∷◌, map, length, Contains, refl, sym, ◌∙◌, ap, subst, arith}
use Rattle.tm_bits.specs.Rows.{Rows, holds}
use Rattle.tm_circuit.specs.Plain.{Plain, drive, Drive, input, latch, gate}
use Rattle.tm_circuit.specs.Trace.{IsTrace, row_bit, driven, HasOneTrace, ObeysAlways, HasOneRun}
use Rattle.tm_circuit.specs.Chain.{RisesTo, rank}
use Rattle.tm_circuit.specs.Sound.{IsSound}

-- The rank falls from each gate to its pins. That is all that traces ask of a circuit.
pub record IsRankedBy (c : Plain) (rank : ℕ → ℕ) : Type 0 where
  pub falls : (s p : ℕ) (pins : List ℕ) (cover : Rows) → drive c s ≡ gate pins cover → Contains pins p
      → rank p < rank s

-- A table obeys the drives at the steps below `steps`, where the inputs are given bits by signal and step.
abbrev pub Obeys : Plain → (ℕ → ℕ → Bool) → ℕ → (ℕ → ℕ → Bool) → Type 0
Obeys c given steps t = (s step : ℕ) → step < steps → t s step ≡ driven (drive c s) (given s step) t step

-- What holds at the pins of a drive, where it is a gate.
abbrev pub AtPins : Drive → (ℕ → Type 0) → Type 0
AtPins d P = (pins : List ℕ) (cover : Rows) (p : ℕ) → d ≡ gate pins cover → Contains pins p → P p

-- Two functions that agree on the elements of a list map it alike.
pub map_agree : (f g : ℕ → Bool) (xs : List ℕ) → ((x : ℕ) → Contains xs x → f x ≡ g x) → map f xs ≡ map g xs
map_agree f g [] agree = refl
map_agree f g (x ∷ xs) agree =
    let here : f x ≡ g x = agree x (0, omega arith, refl) in
    let rest : map f xs ≡ map g xs = map_agree f g xs (λ y (k, inside, is). agree y (suc k, omega arith, is)) in
    cc

-- Tables that agree on what a drive reads give it the same bit.
pub driven_agree : (d : Drive) (given : Bool) (t u : ℕ → ℕ → Bool) (step : ℕ)
    → ((next before : ℕ) → step ≡ suc before → t next before ≡ u next before) → AtPins d (λ p. t p step ≡ u p step)
    → driven d given t step ≡ driven d given u step
driven_agree input given t u step earlier here = refl
driven_agree (latch next init) given t u zero earlier here = refl
driven_agree (latch next init) given t u (suc before) earlier here = earlier next before refl
driven_agree (gate pins cover) given t u step earlier here =
    ap (λ bits. holds cover bits) (map_agree (λ p. t p step) (λ p. u p step) pins (λ p inside. here pins cover p refl inside))

-- The ranks of a sound circuit fall.
pub falls_from_rises : (rank : ℕ → ℕ) (s p : ℕ) (pins : List ℕ) (cover : Rows) (d : Drive) → RisesTo rank s d
    → d ≡ gate pins cover → Contains pins p → rank p < rank s
falls_from_rises rank s p pins cover d rises is inside =
    let P : Drive → Type 0 = λ e. RisesTo rank s e in
    subst P is rises p inside

pub ranked_from_sound : (c : Plain) → IsSound c → IsRankedBy c (rank c)
ranked_from_sound c sound = record {
  falls = λ s p pins cover is inside. falls_from_rises (rank c) s p pins cover (drive c s) (sound.ranked.rises s) is inside;
}

-- ---- at most one trace

-- Two tables that obey the drives and agree one step earlier agree at a step, by induction on a bound of the rank.
one_here : (c : Plain) (rank : ℕ → ℕ) (given : ℕ → ℕ → Bool) (steps : ℕ) (t u : ℕ → ℕ → Bool) → IsRankedBy c rank
    → Obeys c given steps t → Obeys c given steps u → (step : ℕ) → step < steps
    → ((next before : ℕ) → step ≡ suc before → t next before ≡ u next before) → (bound s : ℕ) → rank s < bound
    → t s step ≡ u s step
one_here c rank given steps t u ranked obeys_t obeys_u step within earlier zero s below = absurd (omega arith)
one_here c rank given steps t u ranked obeys_t obeys_u step within earlier (suc bound) s below =
    let at_pins : AtPins (drive c s) (λ p. t p step ≡ u p step) = λ pins cover p is inside.
    let falls : rank p < rank s = ranked.falls s p pins cover is inside in
    one_here c rank given steps t u ranked obeys_t obeys_u step within earlier bound p (omega arith) in
    obeys_t s step within ∙ (driven_agree (drive c s) (given s step) t u step earlier at_pins ∙ sym (obeys_u s step within))

-- Two tables that obey the drives below a number of steps agree there.
pub one_table : (c : Plain) (rank : ℕ → ℕ) (given : ℕ → ℕ → Bool) (steps : ℕ) (t u : ℕ → ℕ → Bool)
    → IsRankedBy c rank → Obeys c given steps t → Obeys c given steps u → (step : ℕ) → step < steps → (s : ℕ)
    → t s step ≡ u s step
one_table c rank given steps t u ranked obeys_t obeys_u zero within s =
    one_here c rank given steps t u ranked obeys_t obeys_u zero within (λ next before is. cc) (suc (rank s)) s (omega arith)
one_table c rank given steps t u ranked obeys_t obeys_u (suc step) within s =
    let inside : step < steps = omega arith in
    let earlier : (next before : ℕ) → suc step ≡ suc before → t next before ≡ u next before = λ next before is.
    let same : step ≡ before = omega arith in
    let P : ℕ → Type 0 = λ n. t next n ≡ u next n in
    subst P same (one_table c rank given steps t u ranked obeys_t obeys_u step inside next) in
    one_here c rank given steps t u ranked obeys_t obeys_u (suc step) within earlier (suc (rank s)) s (omega arith)

-- ---- some trace

-- The bit of a drive from the bits at the same step, where `held` says what a latch holds.
abbrev settled : Drive → Bool → (ℕ → Bool → Bool) → (ℕ → Bool) → Bool
settled input given held now = given
settled (latch next init) given held now = held next init
settled (gate pins cover) given held now = holds cover (map now pins)

settled_agree : (d : Drive) (given : Bool) (held : ℕ → Bool → Bool) (f g : ℕ → Bool) → AtPins d (λ p. f p ≡ g p)
    → settled d given held f ≡ settled d given held g
settled_agree input given held f g here = refl
settled_agree (latch next init) given held f g here = refl
settled_agree (gate pins cover) given held f g here = ap (λ bits. holds cover bits) (map_agree f g pins (λ p inside. here pins cover p refl inside))

-- The bit of a signal at one step, found by going back along at most so many gates.
abbrev deep : Plain → (ℕ → Bool) → (ℕ → Bool → Bool) → ℕ → ℕ → Bool
deep c given held zero s = false
deep c given held (suc depth) s = settled (drive c s) (given s) held (λ p. deep c given held depth p)

-- Going back further than the rank changes nothing.
deep_steady : (c : Plain) (rank : ℕ → ℕ) → IsRankedBy c rank
    → (given : ℕ → Bool) (held : ℕ → Bool → Bool) (depth other s : ℕ) → rank s < depth → rank s < other
    → deep c given held depth s ≡ deep c given held other s
deep_steady c rank ranked given held zero other s below below_other = absurd (omega arith)
deep_steady c rank ranked given held (suc depth) zero s below below_other = absurd (omega arith)
deep_steady c rank ranked given held (suc depth) (suc other) s below below_other =
    settled_agree (drive c s) (given s) held (λ p. deep c given held depth p) (λ p. deep c given held other p) (λ pins cover p is inside.
    let falls : rank p < rank s = ranked.falls s p pins cover is inside in
    deep_steady c rank ranked given held depth other p (omega arith) (omega arith))

-- The bits of all signals at one step: by rank within the step, from the column before for the latches.
abbrev column : Plain → (ℕ → ℕ) → (ℕ → ℕ → Bool) → ℕ → ℕ → Bool
column c rank given zero s = deep c (λ x. given x zero) (λ next init. init) (suc (rank s)) s
column c rank given (suc before) s = deep c (λ x. given x (suc before)) (λ next init. column c rank given before next) (suc (rank s)) s

-- The table of all steps, for inputs that are given for ever.
pub endless : Plain → (ℕ → ℕ) → (ℕ → ℕ → Bool) → ℕ → ℕ → Bool
endless c rank given s step = column c rank given step s

settled_first : (d : Drive) (given : Bool) (t : ℕ → ℕ → Bool) (f : ℕ → Bool) → AtPins d (λ p. f p ≡ t p zero)
    → settled d given (λ next init. init) f ≡ driven d given t zero
settled_first input given t f here = refl
settled_first (latch next init) given t f here = refl
settled_first (gate pins cover) given t f here = ap (λ bits. holds cover bits) (map_agree f (λ p. t p zero) pins (λ p inside. here pins cover p refl inside))

settled_later : (d : Drive) (given : Bool) (t : ℕ → ℕ → Bool) (before : ℕ) (f : ℕ → Bool)
    → AtPins d (λ p. f p ≡ t p (suc before))
    → settled d given (λ next init. t next before) f ≡ driven d given t (suc before)
settled_later input given t before f here = refl
settled_later (latch next init) given t before f here = refl
settled_later (gate pins cover) given t before f here = ap (λ bits. holds cover bits) (map_agree f (λ p. t p (suc before)) pins (λ p inside. here pins cover p refl inside))

-- For any bits given there is a table that obeys the drives at every step.
pub endless_obeys : (c : Plain) (rank : ℕ → ℕ) (given : ℕ → ℕ → Bool) → IsRankedBy c rank
    → ObeysAlways c given (endless c rank given)
unfolding endless
endless_obeys c rank given ranked s zero =
    let held : ℕ → Bool → Bool = λ next init. init in
    let now : ℕ → Bool = λ x. given x zero in
    settled_first (drive c s) (given s zero) (λ x step. column c rank given step x) (λ p. deep c now held (rank s) p) (λ pins cover p is inside.
    let falls : rank p < rank s = ranked.falls s p pins cover is inside in
    deep_steady c rank ranked now held (rank s) (suc (rank p)) p falls (omega arith))
endless_obeys c rank given ranked s (suc before) =
    let held : ℕ → Bool → Bool = λ next init. column c rank given before next in
    let now : ℕ → Bool = λ x. given x (suc before) in
    settled_later (drive c s) (given s (suc before)) (λ x step. column c rank given step x) before (λ p. deep c now held (rank s) p) (λ pins cover p is inside.
    let falls : rank p < rank s = ranked.falls s p pins cover is inside in
    deep_steady c rank ranked now held (rank s) (suc (rank p)) p falls (omega arith))

-- ---- exactly one trace

pub one_trace_lem : (c : Plain) (rank : ℕ → ℕ) → IsRankedBy c rank → (rows : List (List Bool)) (t u : ℕ → ℕ → Bool)
    → IsTrace c rows t → IsTrace c rows u → (s step : ℕ) → step < length rows → t s step ≡ u s step
one_trace_lem c rank ranked rows t u is_t is_u s step within =
    one_table c rank (row_bit rows) (length rows) t u ranked is_t is_u step within s

pub endless_is_trace : (c : Plain) (rows : List (List Bool)) (t : ℕ → ℕ → Bool) → ObeysAlways c (row_bit rows) t
    → IsTrace c rows t
endless_is_trace c rows t obeys s step within = obeys s step

pub some_trace : (c : Plain) (rank : ℕ → ℕ) → IsRankedBy c rank → (rows : List (List Bool))
    → (t : ℕ → ℕ → Bool) × IsTrace c rows t
some_trace c rank ranked rows =
    (endless c rank (row_bit rows), endless_is_trace c rows (endless c rank (row_bit rows)) (endless_obeys c rank (row_bit rows) ranked))

pub has_one_trace : (c : Plain) → IsSound c → HasOneTrace c
has_one_trace c sound =
    let ranked : IsRankedBy c (rank c) = ranked_from_sound c sound in
    record { some = some_trace c (rank c) ranked; one = one_trace_lem c (rank c) ranked }

pub has_one_run : (c : Plain) → IsSound c → HasOneRun c
has_one_run c sound = record {
  some = λ given. (endless c (rank c) given, endless_obeys c (rank c) given (ranked_from_sound c sound));
  one = λ given t u obeys_t obeys_u s step.
      one_table c (rank c) given (suc step) t u (ranked_from_sound c sound) (λ x n within. obeys_t x n) (λ x n within. obeys_u x n) step (omega arith) s;
}
