-- One signal after another takes its bit at a step, each after what it reads.
use Rattle.std.proofs.Common.{◌≡◌, ℕ, zero, suc, ◌+◌, ◌<◌, ◌≤◌, ◌⊎◌, inl, inr, Bool, false, List, [], ◌∷◌, ◌++◌, map, length, take, get_or, refl, sym, ◌∙◌, ap, subst, arith}
use Rattle.std.specs.Prelude.{Contains, IsTrue, Some, slice_get}
use Rattle.std.proofs.lemmas.Bool.{cases_lt, cases_eq}
use Rattle.std.proofs.lemmas.Option.{slice_get-get_or}
use Rattle.std.proofs.lemmas.List.{get_or_past, take_more, take_all}
use Rattle.std.proofs.lemmas.List.Elements.{All-get_or, All-contains, Contains-push_cases, Contains-get_or}
use Rattle.tm_bits.specs.Rows.{holds}
use Rattle.tm_circuit.specs.Plain.{Plain, Drive, input, latch, gate, drive, drive_in, is_gate, pins_of, input_count, latch_count, widest}
use Rattle.tm_circuit.specs.Chain.{IsGate, IsOrder}
use Rattle.tm_circuit.specs.Sound.{IsSound, IsPlaced, ReadsBelow}
use Rattle.tm_circuit.specs.Trace.{driven, ObeysAlways}
use Rattle.tm_circuit.proofs.KindLemmas.{kinds-length}
use Rattle.tm_circuit.proofs.ListLemmas.{map-agree, greatest-above, contains-map, contains-none}
use Rattle.tm_init.specs.Limits.{most_steps}
use Rattle.tm_init.specs.Paths.{zeros}
use Rattle.tm_init.specs.Starts.{bit_in, HasFirst}
use Rattle.tm_init.specs.Passes.{Takes, IsHeld}

-- ---- the signals of a sound circuit

pub held-inside : (c : Plain) → input_count c.drives + latch_count c.drives ≤ length c.drives
held-inside c = omega (arith, kinds-length c.drives)

placed : (c : Plain) → IsSound c → (s : ℕ) → s < length c.drives
    → IsPlaced (input_count c.drives) (latch_count c.drives) s (drive c s)
placed c sound s within = sound.placed s (drive c s) (slice_get-get_or c.drives s (latch s false) within)

reads : (c : Plain) → IsSound c → (s : ℕ) → s < length c.drives → ReadsBelow (length c.drives) (drive c s)
reads c sound s within = All-get_or (ReadsBelow (length c.drives)) c.drives s (latch s false) within sound.range.reads

-- a gate is a signal
pub gate-inside : (drives : List Drive) (s : ℕ) → IsGate drives s → s < length drives
gate-inside drives s is =
    elim (cases_lt s (length drives)) [
      | inl inside ↦ inside
      | inr past ↦ let none : is_gate (drive_in drives s) ≡ false = ap is_gate (get_or_past drives s (latch s false) past) in absurd (cc)
    ]

-- no gate has more pins than the widest
pub pins-few : (c : Plain) (s : ℕ) → s < length c.drives → length (pins_of (drive c s)) ≤ widest c.drives
pins-few c s within =
    greatest-above (map (λ d. length (pins_of d)) c.drives) (length (pins_of (drive c s))) (contains-map (λ d. length (pins_of d)) c.drives (drive c s) (Contains-get_or c.drives s (latch s false) within))

-- ---- one signal

-- The steps before keep their bits.
first-kept : (c : Plain) (s step : ℕ) (before after : List ℕ) → step < most_steps → Takes c s step before after
    → HasFirst c step before → HasFirst c step after
first-kept c s step before after near takes first = record {
  each = λ t obeys x n within below. takes.steps x n (omega arith) (λ same. absurd (omega arith)) ∙ first.each t obeys x n within below;
}

-- A drive asks for the same bit in two tables that agree on what it reads.
asked_agree : (d : Drive) (count : ℕ) (given : Bool) (t u : ℕ → ℕ → Bool) (step : ℕ) → ReadsBelow count d
    → ((next before : ℕ) → step ≡ suc before → next < count → t next before ≡ u next before)
    → ((p : ℕ) → Contains (pins_of d) p → t p step ≡ u p step) → driven d given t step ≡ driven d given u step
asked_agree input count given t u step below earlier here = refl
asked_agree (latch next init) count given t u zero below earlier here = refl
asked_agree (latch next init) count given t u (suc before) below earlier here = earlier next before refl below
asked_agree (gate pins cover) count given t u step below earlier here =
    ap (holds cover) (map-agree (λ p. t p step) (λ p. u p step) pins here)

-- ---- the signals that have their bits at a step

-- The signals that are done have their bits at a step, where the inputs are 0.
pub record HasAt (c : Plain) (step : ℕ) (Done : ℕ → Type 0) (bytes : List ℕ) : Type 0 where
  pub each : (t : ℕ → ℕ → Bool) → ObeysAlways c zeros t → (s : ℕ) → s < length c.drives → Done s → bit_in bytes s step ≡ t s step

module _ (c : Plain) (sound : IsSound c) (g step : ℕ) (before after : List ℕ) (Done Done' : ℕ → Type 0) (signal : g < length c.drives)
    (takes : Takes c g step before after) (first : HasFirst c step before) (has : HasAt c step Done before)
    (pins : (p : ℕ) → Contains (pins_of (drive c g)) p → (p < length c.drives) × Done p)
    (more : (s : ℕ) → Done' s → Done s ⊎ (g ≡ s))
  where
    taken_here : (t : ℕ → ℕ → Bool) → ObeysAlways c zeros t → bit_in after g step ≡ t g step
    taken_here t obeys =
        takes.here
        ∙ asked_agree (drive c g) (length c.drives) false (bit_in before) t step (reads c sound g signal) (λ next earlier is inside. first.each t obeys next earlier inside (omega arith)) (λ p inside.
        let pin = pins p inside in has.each t obeys p pin.0 pin.1)
        ∙ sym (obeys g step)

    -- one signal more is done
    pub at-more : HasAt c step Done' after
    at-more = record {
      each = λ t obeys s within done.
          elim (cases_eq s g) [
            | inl same ↦ subst (λ x. bit_in after x step ≡ t x step) (sym same) (taken_here t obeys)
            | inr other ↦
                elim (more s done) [
                  | inl earlier ↦ takes.signals s step other ∙ has.each t obeys s within earlier
                  | inr same ↦ absurd (other (sym same))
                ]
          ];
    }

-- ---- inputs and latches, by their numbers

no_pins : (inputs latches s p : ℕ) (d : Drive) → IsPlaced inputs latches s d → s < inputs + latches → Contains (pins_of d) p → ⊥
no_pins inputs latches s p input place low inside = contains-none p inside
no_pins inputs latches s p (latch next init) place low inside = contains-none p inside
no_pins inputs latches s p (gate pins cover) place low inside = omega arith

abbrev pub HasBelow : Plain → ℕ → ℕ → List ℕ → Type 0
HasBelow c step k bytes = HasAt c step (λ s. s < k) bytes

-- The steps before have their bits, and the inputs and latches below `k` have them at this one.
pub record IsHolding (c : Plain) (step k : ℕ) (bytes : List ℕ) : Type 0 where
  pub first : HasFirst c step bytes
  pub below : HasBelow c step k bytes

below-next : (c : Plain) → IsSound c → (k step : ℕ) (before after : List ℕ) → k < input_count c.drives + latch_count c.drives
    → Takes c k step before after → HasFirst c step before → HasBelow c step k before → HasBelow c step (k + 1) after
below-next c sound k step before after low takes first has =
    let within : k < length c.drives = omega (arith, held-inside c) in
    at-more c sound k step before after (λ s. s < k) (λ s. s < k + 1) within takes first has (λ p inside.
    absurd (no_pins (input_count c.drives) (latch_count c.drives) k p (drive c k) (placed c sound k within) low inside)) (λ s done.
    elim (cases_lt s k) [ inl earlier ↦ inl earlier | inr last ↦ inr (omega arith) ])

below-all : (c : Plain) (k step : ℕ) (bytes : List ℕ) → k ≡ input_count c.drives + latch_count c.drives → HasBelow c step k bytes
    → IsHeld c step bytes
below-all c k step bytes all has = record { each = λ t obeys s low. has.each t obeys s (omega (arith, held-inside c)) (omega arith) }

pub holding-more : (c : Plain) → IsSound c → (k step : ℕ) (before after : List ℕ) → step < most_steps
    → k < input_count c.drives + latch_count c.drives → Takes c k step before after → IsHolding c step k before → IsHolding c step (k + 1) after
holding-more c sound k step before after near low takes holding = record {
  first = first-kept c k step before after near takes holding.first;
  below = below-next c sound k step before after low takes holding.first holding.below;
}

pub holding-end : (c : Plain) (k step : ℕ) (bytes : List ℕ) → k ≡ input_count c.drives + latch_count c.drives → IsHolding c step k bytes
    → IsHeld c step bytes
holding-end c k step bytes all holding = below-all c k step bytes all holding.below

-- ---- gates, by their order

-- All inputs and latches, and the gates up to a place of the order.
abbrev pub IsSettled : Plain → List ℕ → ℕ → ℕ → Type 0
IsSettled c order i s = IsGate c.drives s → Contains (take i order) s

abbrev pub HasSettled : Plain → List ℕ → ℕ → ℕ → List ℕ → Type 0
HasSettled c order i step bytes = HasAt c step (λ s. IsSettled c order i s) bytes

-- The steps before have their bits, and the inputs, the latches and the gates up to a place of the order have them at this one.
pub record IsSettling (c : Plain) (order : List ℕ) (step i : ℕ) (bytes : List ℕ) : Type 0 where
  pub first : HasFirst c step bytes
  pub settled : HasSettled c order i step bytes

-- what is no gate is an input or a latch
not_gate : (inputs latches s : ℕ) (d : Drive) → IsPlaced inputs latches s d → (IsTrue (is_gate d) → ⊥) → s < inputs + latches
not_gate inputs latches s input place other = omega arith
not_gate inputs latches s (latch next init) place other = place.1
not_gate inputs latches s (gate pins cover) place other = absurd (other refl)

settled-none : (c : Plain) → IsSound c → (order : List ℕ) (step : ℕ) (bytes : List ℕ) → IsHeld c step bytes
    → HasSettled c order 0 step bytes
settled-none c sound order step bytes held = record {
  each = λ t obeys s within done.
      let low = not_gate (input_count c.drives) (latch_count c.drives) s (drive c s) (placed c sound s within) (λ is.
      contains-none s (done is)) in
      held.each t obeys s low;
}

pub settling-start : (c : Plain) → IsSound c → (order : List ℕ) (step : ℕ) (bytes : List ℕ) → HasFirst c step bytes → IsHeld c step bytes
    → IsSettling c order step 0 bytes
settling-start c sound order step bytes first held = record { first = first; settled = settled-none c sound order step bytes held }

pin_inside : (n p : ℕ) (d : Drive) → ReadsBelow n d → Contains (pins_of d) p → p < n
pin_inside n p input below inside = absurd (contains-none p inside)
pin_inside n p (latch next init) below inside = absurd (contains-none p inside)
pin_inside n p (gate pins cover) below inside = All-contains (λ x. x < n) pins p below inside

module _ (c : Plain) (sound : IsSound c) (order : List ℕ) (is_order : IsOrder c.drives order) (i g step : ℕ) (before after : List ℕ)
    (near : step < most_steps) (within : i < length order) (here : g ≡ get_or order i g) (takes : Takes c g step before after)
    (settling : IsSettling c order step i before)
  where
    is_gate_g : IsGate c.drives g
    is_gate_g = (is_order.gates g).0 (i, within, sym here)

    at_place : slice_get order i ≡ Some g
    at_place = slice_get-get_or order i g within ∙ ap Some (sym here)

    signal : g < length c.drives
    signal = gate-inside c.drives g is_gate_g

    grown : take (i + 1) order ≡ take i order ++ g ∷ []
    grown = take_more order i g within ∙ ap (λ x. take i order ++ x ∷ []) (sym here)

    -- every signal that the gate reads is done
    pins_done : (p : ℕ) → Contains (pins_of (drive c g)) p → (p < length c.drives) × IsSettled c order i p
    pins_done p inside = (
      pin_inside (length c.drives) p (drive c g) (reads c sound g signal) inside,
      λ is. is_order.after i g p at_place inside is,
    )

    -- a signal that is done now was done, or it is this gate
    done_before : (s : ℕ) → IsSettled c order (i + 1) s → IsSettled c order i s ⊎ (g ≡ s)
    done_before s done =
        elim (cases_eq g s) [
          | inl same ↦ inr same
          | inr other ↦ inl (λ is.
              elim (Contains-push_cases (take i order) g s (subst (λ xs. Contains xs s) grown (done is))) [ inl earlier ↦ earlier | inr same ↦ absurd (other same) ])
        ]

    pub settling-more : IsSettling c order step (i + 1) after
    settling-more = record {
      first = first-kept c g step before after near takes settling.first;
      settled = at-more c sound g step before after (λ s. IsSettled c order i s) (λ s. IsSettled c order (i + 1) s) signal takes settling.first settling.settled pins_done done_before;
    }

settled-all : (c : Plain) (order : List ℕ) → IsOrder c.drives order → (i step : ℕ) (bytes : List ℕ) → i ≡ length order
    → HasFirst c step bytes → HasSettled c order i step bytes → HasFirst c (step + 1) bytes
settled-all c order is_order i step bytes all first has = record {
  each = λ t obeys s n within below.
      elim (cases_lt n step) [
        | inl earlier ↦ first.each t obeys s n within earlier
        | inr last ↦
            let same : step ≡ n = omega arith in
            let whole : take i order ≡ order = take_all i order (omega arith) in
            let now = has.each t obeys s within (λ is. subst (λ xs. Contains xs s) (sym whole) ((is_order.gates s).1 is)) in
            subst (λ k. bit_in bytes s k ≡ t s k) same now
      ];
}

pub settling-end : (c : Plain) (order : List ℕ) → IsOrder c.drives order → (i step : ℕ) (bytes : List ℕ) → i ≡ length order
    → IsSettling c order step i bytes → HasFirst c (step + 1) bytes
settling-end c order is_order i step bytes all settling = settled-all c order is_order i step bytes all settling.first settling.settled
