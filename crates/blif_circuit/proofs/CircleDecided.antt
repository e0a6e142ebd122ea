-- Whether gates read one another in a circle is decided: they do exactly where a chain has more gates than there are signals.
use Rattle.std.proofs.Common.{◌≡◌, ℕ, zero, suc, ◌+◌, ◌<◌, ◌≤◌, ◌⊎◌, inl, inr, Bool, true, false, eqb, List, [], ◌∷◌, ◌++◌, length, map, slice_index_or, Contains, refl, sym, ap, subst, arith}
use Rattle.std.specs.List.{AllByRecursion, IsDistinct, list_any}
use Rattle.std.proofs.lemmas.Bool.{cases_lt, cases_eq, eqb-true}
use Rattle.std.proofs.lemmas.Map.Steps.{length-le_from_distinct_below}
use Rattle.tm_circuit.specs.Plain.{Drive, input, latch, gate, drive_in, is_gate, pins_of, greatest}
use Rattle.tm_circuit.specs.Chain.{IsGate, IsPin, IsPinOfFirst, IsChain, HasCircle, IsRanked, RisesTo, depth_by, depth_within}
use Rattle.tm_circuit.proofs.ListLemmas.{contains-map, contains-unmap, greatest-above, greatest-reached, map-agree}
use Rattle.tm_circuit.proofs.PeriodLemmas.{ranked-no_circle}

-- ---- a chain with more gates than there are signals meets a gate twice

past_end : (drives : List Drive) (s : ℕ) (d : Drive) → is_gate d ≡ false → is_gate (slice_index_or drives s d) ≡ true → s < length drives
past_end [] s d none h = cc
past_end (x ∷ drives) zero d none h = omega arith
past_end (x ∷ drives) (suc s) d none h = let ih = past_end drives s d none h in omega arith

gate_below : (drives : List Drive) (s : ℕ) → IsGate drives s → s < length drives
gate_below drives s h = past_end drives s (latch s false) refl h

below : (drives : List Drive) (xs : List ℕ) → IsChain drives xs → (q : ℕ) → list_any (eqb q) xs ≡ true → q < length drives
below drives [] c q h = cc
below drives (a ∷ xs) c q h = by_test (eqb q a) refl (below drives xs c.2 q)
  where
    by_test : (t : Bool) → eqb q a ≡ t → (list_any (eqb q) xs ≡ true → q < length drives) → q < length drives
    by_test true is rest = subst (λ x. x < length drives) (sym (eqb-true q a is)) (gate_below drives a c.0)
    by_test false is rest = rest (rw is at h)

-- a chain goes on without a gate, or leads to it
meets : (drives : List Drive) (g a : ℕ) (xs : List ℕ) → IsChain drives (a ∷ xs)
    → AllByRecursion (λ y. eqb g y ≡ false) xs ⊎ ((through : List ℕ) × IsChain drives (a ∷ (through ++ g ∷ [])))
meets drives g a [] c = inl tt
meets drives g a (b ∷ xs) c = by_test (eqb g b) refl (meets drives g b xs c.2)
  where
    by_test : (t : Bool) → eqb g b ≡ t → AllByRecursion (λ y. eqb g y ≡ false) xs ⊎ ((through : List ℕ) × IsChain drives (b ∷ (through ++ g ∷ [])))
        → AllByRecursion (λ y. eqb g y ≡ false) (b ∷ xs) ⊎ ((through : List ℕ) × IsChain drives (a ∷ (through ++ g ∷ [])))
    by_test true is rest = inr ([], subst (λ x. IsChain drives (a ∷ x ∷ [])) (sym (eqb-true g b is)) (c.0, c.1, (c.2.0, tt, tt)))
    by_test false is (inl none) = inl (is, none)
    by_test false is (inr found) = inr (b ∷ found.0, (c.0, c.1, found.1))

distinct_or_circle : (drives : List Drive) (xs : List ℕ) → IsChain drives xs → IsDistinct eqb xs ⊎ HasCircle drives
unfolding IsDistinct
distinct_or_circle drives [] c = inl tt
distinct_or_circle drives (a ∷ xs) c =
    elim (distinct_or_circle drives xs c.2) [
      | inl distinct ↦ elim (meets drives a a xs c) [ inl none ↦ inl (none, distinct) | inr found ↦ inr (a, found) ]
      | inr circle ↦ inr circle
    ]

long_chain : (drives : List Drive) (xs : List ℕ) → IsChain drives xs → length drives < length xs → HasCircle drives
long_chain drives xs c long =
    elim (distinct_or_circle drives xs c) [
      | inl distinct ↦ let few = length-le_from_distinct_below xs (length drives) distinct (below drives xs c) in absurd (omega arith)
      | inr circle ↦ circle
    ]

-- ---- depths that are followed so far back

deep_gate : (drives : List Drive) (k s : ℕ) → suc k ≤ depth_within (suc k) drives s → IsGate drives s
deep_gate drives k s deep = by_drive (drive_in drives s) deep
  where
    by_drive : (d : Drive) → suc k ≤ depth_by (λ p. depth_within k drives p) d → is_gate d ≡ true
    by_drive input h = absurd (omega arith)
    by_drive (latch next init) h = absurd (omega arith)
    by_drive (gate pins cover) h = refl

-- a signal of which a pin is as deep as it can be, followed so far back
deep_pin : (drives : List Drive) (k s : ℕ) → suc (suc k) ≤ depth_within (suc (suc k)) drives s
    → (p : ℕ) × IsPin drives p s × (suc k ≤ depth_within (suc k) drives p)
deep_pin drives k s deep = by_drive (drive_in drives s) deep
  where
    by_drive : (d : Drive) → suc (suc k) ≤ depth_by (λ p. depth_within (suc k) drives p) d
        → (p : ℕ) × Contains (pins_of d) p × (suc k ≤ depth_within (suc k) drives p)
    by_drive input h = absurd (omega arith)
    by_drive (latch next init) h = absurd (omega arith)
    by_drive (gate pins cover) h =
        let depths = map (λ p. depth_within (suc k) drives p) pins in
        elim (greatest-reached depths) [
          | inl none ↦ absurd (omega (arith, none, h))
          | inr reached ↦
              let u = contains-unmap (λ p. depth_within (suc k) drives p) pins (greatest depths) reached in
              (u.0, u.1, omega (arith, h, u.2))
        ]

-- as many gates as a signal is deep stand on a chain that ends in it
chain_back : (drives : List Drive) (k s : ℕ) (rest : List ℕ) → suc k ≤ depth_within (suc k) drives s → IsPinOfFirst drives s rest → IsChain drives rest
    → (chain : List ℕ) × IsChain drives chain × (length chain ≡ suc k + length rest)
chain_back drives zero s rest deep pin c = (s ∷ rest, (deep_gate drives zero s deep, pin, c), omega arith)
chain_back drives (suc k) s rest deep pin c =
    let next = deep_pin drives k s deep in
    let longer = chain_back drives k next.0 (s ∷ rest) next.2 next.1 (deep_gate drives (suc k) s deep, pin, c) in
    (longer.0, longer.1, omega (arith, longer.2))

-- a signal that is less deep than it was followed back has that depth also where it is followed further
settled : (drives : List Drive) (k s : ℕ) → depth_within k drives s < k → depth_within (suc k) drives s ≡ depth_within k drives s
settled drives zero s low = absurd (omega arith)
settled drives (suc k) s low = by_drive (drive_in drives s) low (settled drives k)
  where
    by_drive : (d : Drive) → depth_by (λ p. depth_within k drives p) d < suc k
        → ((p : ℕ) → depth_within k drives p < k → depth_within (suc k) drives p ≡ depth_within k drives p)
        → depth_by (λ p. depth_within (suc k) drives p) d ≡ depth_by (λ p. depth_within k drives p) d
    by_drive input h each = refl
    by_drive (latch next init) h each = refl
    by_drive (gate pins cover) h each =
        ap (λ xs. suc (greatest xs)) (map-agree (λ p. depth_within (suc k) drives p) (λ p. depth_within k drives p) pins (λ p i.
        let most = greatest-above (map (λ q. depth_within k drives q) pins) (depth_within k drives p) (contains-map (λ q. depth_within k drives q) pins p i) in
        each p (omega (arith, most, h))))

-- where no signal is so deep, depths rise from pins to gates
rises_low : (drives : List Drive) (n : ℕ) → ((s : ℕ) → depth_within (suc n) drives s ≤ n) → IsRanked drives (depth_within (suc n) drives)
rises_low drives n low = record { rises = λ s. by_drive s (drive_in drives s) refl (low s) }
  where
    by_drive : (s : ℕ) (d : Drive) → depth_within (suc n) drives s ≡ depth_by (λ p. depth_within n drives p) d → depth_within (suc n) drives s ≤ n
        → RisesTo (depth_within (suc n) drives) s d
    by_drive s input is h = is
    by_drive s (latch next init) is h = is
    by_drive s (gate pins cover) is h = λ p i.
        let most = greatest-above (map (λ q. depth_within n drives q) pins) (depth_within n drives p) (contains-map (λ q. depth_within n drives q) pins p i) in
        let same = settled drives n p (omega (arith, most, is, h)) in
        omega (arith, most, is, same)

-- ---- the decision

-- some signal below this one is so deep, or none is
deep_below : (drives : List Drive) (n k : ℕ) → ((s : ℕ) × (n < depth_within (suc n) drives s)) ⊎ ((s : ℕ) → s < k → depth_within (suc n) drives s ≤ n)
deep_below drives n zero = inr (λ s within. absurd (omega arith))
deep_below drives n (suc k) =
    elim (deep_below drives n k) [
      | inl found ↦ inl found
      | inr none ↦ elim (cases_lt n (depth_within (suc n) drives k)) [
        | inl deep ↦ inl (k, deep)
        | inr low ↦ inr (λ s within. elim (cases_eq s k) [
          | inl same ↦ subst (λ x. depth_within (suc n) drives x ≤ n) (sym same) low
          | inr other ↦ none s (let apart = other in omega (arith, apart, within))
        ])
      ]
    ]

-- a signal past the end is not deep
past_low : (drives : List Drive) (n s : ℕ) → length drives ≤ s → depth_within (suc n) drives s ≤ n
past_low drives n s past = by_drive (drive_in drives s) refl
  where
    by_drive : (d : Drive) → drive_in drives s ≡ d → depth_by (λ p. depth_within n drives p) d ≤ n
    by_drive input is = omega arith
    by_drive (latch next init) is = omega arith
    by_drive (gate pins cover) is = let within = gate_below drives s (ap is_gate is) in absurd (omega arith)

-- Gates read one another in a circle, or they do not.
pub circle_decided : (drives : List Drive) → HasCircle drives ⊎ ¬ HasCircle drives
circle_decided drives =
    let n = length drives in
    elim (deep_below drives n n) [
      | inl found ↦
          let chain = chain_back drives n found.0 [] found.1 tt tt in
          inl (long_chain drives chain.0 chain.1 (omega (arith, chain.2)))
      | inr none ↦
          let low : (s : ℕ) → depth_within (suc n) drives s ≤ n
          = λ s. elim (cases_lt s n) [ inl within ↦ none s within | inr past ↦ past_low drives n s past ] in
          inr (ranked-no_circle drives (depth_within (suc n) drives) (rises_low drives n low))
    ]
