-- Gates that get their values one after another, each after the gates among its pins.
use Rattle.std.proofs.Common.{◌≡◌, ◌≢◌, ℕ, ◌+◌, ◌<◌, ◌≤◌, ◌⊎◌, inl, inr, Bool, false, List, [], ◌∷◌, ◌++◌, map, length, take, set, get_or, refl, sym, ◌∙◌, ap, subst, arith}
use Rattle.std.specs.Prelude.{Contains, IsTrue, Some, slice_get}
use Rattle.std.proofs.lemmas.Bool.{cases_lt}
use Rattle.std.proofs.lemmas.Option.{slice_get-get_or}
use Rattle.std.proofs.lemmas.List.{length-take-le, get_or-take, get_or-set_same, get_or-set_other, take_more, take_all, get_or_past}
use Rattle.std.proofs.lemmas.List.Elements.{Contains-push_cases, Contains-get_or}
use Rattle.tm_bits.specs.Rows.{holds}
use Rattle.tm_circuit.specs.Plain.{Plain, Drive, input, latch, gate, drive, drive_in, is_gate, pins_of, widest}
use Rattle.tm_circuit.specs.Chain.{IsGate, IsPin, IsOrder}
use Rattle.tm_circuit.proofs.ListLemmas.{map-agree, greatest-above, contains-map}
use Rattle.tm_circuit.proofs.DistinctLemmas.{repeated}
use Rattle.tm_sim.specs.Settled.{bit_of, settled, Settles}

-- what stands in a front of a list stands in a longer one
front_longer : (xs : List ℕ) (k i x : ℕ) → k ≤ i → i ≤ length xs → Contains (take k xs) x → Contains (take i xs) x
front_longer xs k i x longer fits inside =
    let low : inside.0 < k = omega (arith, inside.1, length-take-le k xs (omega arith)) in (
      inside.0,
      omega (arith, low, length-take-le i xs fits),
      get_or-take i xs inside.0 x (omega arith) ∙ sym (get_or-take k xs inside.0 x low) ∙ inside.2,
    )

-- a drive asks for the same bit where its pins have the same bits
settled_agree : (d : Drive) (before : Bool) (f g : ℕ → Bool) → ((p : ℕ) → Contains (pins_of d) p → f p ≡ g p)
    → settled d before f ≡ settled d before g
settled_agree input before f g agree = refl
settled_agree (latch next init) before f g agree = refl
settled_agree (gate pins cover) before f g agree = ap (holds cover) (map-agree f g pins agree)

-- The gates up to a place of the order have their values, and all else has its bit of before.
pub record IsSettling (c : Plain) (order : List ℕ) (i : ℕ) (before now : List Bool) : Type 0 where
  pub done : (s : ℕ) → Contains (take i order) s → bit_of now s ≡ settled (drive c s) (bit_of before s) (bit_of now)
  pub rest : (s : ℕ) → (Contains (take i order) s → ⊥) → bit_of now s ≡ bit_of before s

pub settling-start : (c : Plain) (order : List ℕ) (before : List Bool) → IsSettling c order 0 before before
settling-start c order before = record { done = λ s inside. absurd (omega (arith, inside.1)); rest = λ s out. refl }

module _ (c : Plain) (order : List ℕ) (i g : ℕ) (before now : List Bool) (value : Bool) (is_order : IsOrder c.drives order)
    (settling : IsSettling c order i before now) (within : i < length order) (here : g ≡ get_or order i g) (fits : g < length now)
    (is_value : value ≡ settled (drive c g) (bit_of now g) (bit_of now))
  where
    apart : Contains (take i order) g → ⊥
    apart inside = repeated order i g within here inside is_order.once

    written : bit_of (set now g value) g ≡ value
    written = get_or-set_same now g value false fits

    kept : (s : ℕ) → s ≢ g → bit_of (set now g value) s ≡ bit_of now s
    kept s other = get_or-set_other now g s value false other

    -- no gate up to the place reads the gate that stands there
    unread : (k s : ℕ) → k ≤ i → slice_get order k ≡ Some s → IsPin c.drives g s → ⊥
    unread k s low at pin =
        let is_gate_g : IsGate c.drives g = (is_order.gates g).0 (i, within, sym here) in
        apart (front_longer order k i g low (omega arith) (is_order.after k s g at pin is_gate_g))

    -- what such a gate asks for is the same after the write
    asks : (k s : ℕ) → k ≤ i → slice_get order k ≡ Some s
        → settled (drive c s) (bit_of before s) (bit_of now) ≡ settled (drive c s) (bit_of before s) (bit_of (set now g value))
    asks k s low at =
        settled_agree (drive c s) (bit_of before s) (bit_of now) (bit_of (set now g value)) (λ p inside.
        sym (kept p (λ same. unread k s low at (subst (λ x. IsPin c.drives x s) same inside))))

    at_place : (s : ℕ) (inside : Contains (take i order) s) → slice_get order inside.0 ≡ Some s
    at_place s inside =
        let low : inside.0 < i = omega (arith, inside.1, length-take-le i order (omega arith)) in
        slice_get-get_or order inside.0 s (omega arith) ∙ ap Some (sym (get_or-take i order inside.0 s low) ∙ inside.2)

    more_cases : (s : ℕ) → Contains (take (i + 1) order) s → Contains (take i order) s ⊎ (g ≡ s)
    more_cases s inside =
        let grown : take (i + 1) order ≡ take i order ++ g ∷ [] =
        take_more order i g within ∙ ap (λ x. take i order ++ x ∷ []) (sym here) in
        Contains-push_cases (take i order) g s (subst (λ xs. Contains xs s) grown inside)

    done_before : (s : ℕ) → Contains (take i order) s
        → bit_of (set now g value) s ≡ settled (drive c s) (bit_of before s) (bit_of (set now g value))
    done_before s inside =
        let low : inside.0 < i = omega (arith, inside.1, length-take-le i order (omega arith)) in
        kept s (λ same. apart (subst (λ x. Contains (take i order) x) same inside)) ∙ settling.done s inside
        ∙ asks inside.0 s (omega arith) (at_place s inside)

    done_here : bit_of (set now g value) g ≡ settled (drive c g) (bit_of before g) (bit_of (set now g value))
    done_here =
        let at : slice_get order i ≡ Some g = slice_get-get_or order i g within ∙ ap Some (sym here) in
        written ∙ is_value ∙ ap (λ b. settled (drive c g) b (bit_of now)) (settling.rest g apart) ∙ asks i g (omega arith) at

    pub settling-more : IsSettling c order (i + 1) before (set now g value)
    settling-more = record {
      done = λ s inside. elim (more_cases s inside) [
        | inl earlier ↦ done_before s earlier
        | inr same ↦ subst (λ x. bit_of (set now g value) x ≡ settled (drive c x) (bit_of before x) (bit_of (set now g value))) same done_here
      ];
      rest = λ s out.
          let out_before : Contains (take i order) s → ⊥ = λ inside. out (front_longer order i (i + 1) s (omega arith) (omega arith) inside) in
          let other : s ≢ g = λ same. out (subst (λ x. Contains (take (i + 1) order) x) (sym same) last) in
          kept s other ∙ settling.rest s out_before;
    }
      where
        last : Contains (take (i + 1) order) g
        last = (
          i,
          omega (arith, length-take-le (i + 1) order (omega arith)),
          get_or-take (i + 1) order i g (omega arith) ∙ sym here,
        )

-- a gate is a signal
pub gate-inside : (drives : List Drive) (s : ℕ) → IsGate drives s → s < length drives
gate-inside drives s is =
    elim (cases_lt s (length drives)) [
      | inl inside ↦ inside
      | inr past ↦ let none : is_gate (drive_in drives s) ≡ false = ap is_gate (get_or_past drives s (latch s false) past) in absurd (cc)
    ]

-- no gate has more pins than the widest
pub pins-few : (c : Plain) (s : ℕ) → s < length c.drives → length (pins_of (drive c s)) ≤ widest c.drives
pins-few c s within =
    greatest-above (map (λ d. length (pins_of d)) c.drives) (length (pins_of (drive c s))) (contains-map (λ d. length (pins_of d)) c.drives (drive c s) (Contains-get_or c.drives s (latch s false) within))

-- what is no gate has its bit of before
not_met : (c : Plain) (order : List ℕ) (before now : List Bool) → IsOrder c.drives order → IsSettling c order (length order) before now
    → (s : ℕ) → is_gate (drive c s) ≡ false → bit_of now s ≡ bit_of before s
not_met c order before now is_order settling s other =
    settling.rest s (λ inside.
    let member : Contains order s = subst (λ xs. Contains xs s) (take_all (length order) order (omega arith)) inside in
    let is : IsTrue (is_gate (drive c s)) = (is_order.gates s).0 member in cc)

-- at the end each gate has its value
by_kind : (c : Plain) (order : List ℕ) (before now : List Bool) → IsOrder c.drives order → IsSettling c order (length order) before now
    → (s : ℕ) (d : Drive) → drive c s ≡ d → bit_of now s ≡ settled d (bit_of before s) (bit_of now)
by_kind c order before now is_order settling s input is = not_met c order before now is_order settling s (ap is_gate is)
by_kind c order before now is_order settling s (latch next init) is = not_met c order before now is_order settling s (ap is_gate is)
by_kind c order before now is_order settling s (gate pins cover) is =
    let member : Contains order s = (is_order.gates s).1 (ap is_gate is) in
    let inside : Contains (take (length order) order) s = subst (λ xs. Contains xs s) (sym (take_all (length order) order (omega arith))) member in
    settling.done s inside ∙ ap (λ d. settled d (bit_of before s) (bit_of now)) is

pub settling-end : (c : Plain) (order : List ℕ) (i : ℕ) (before now : List Bool) → IsOrder c.drives order → IsSettling c order i before now
    → i ≡ length order → Settles c before now
settling-end c order i before now is_order settling all =
    let whole : IsSettling c order (length order) before now = subst (λ n. IsSettling c order n before now) all settling in
    record { each = λ s. by_kind c order before now is_order whole s (drive c s) refl }
