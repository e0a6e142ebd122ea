-- The period of a circuit is the greatest depth of its signals.
use Rattle.std.proofs.Common.{◌≡◌, ℕ, zero, suc, ◌+◌, ◌<◌, ◌≤◌, inl, inr, true, List, [], ◌∷◌, ◌++◌, map, length, refl, sym, ◌∙◌, subst, arith}
use Rattle.std.specs.Prelude.{slice_index, Contains}
use Rattle.std.proofs.lemmas.List.{get_or_default}
use Rattle.tm_circuit.specs.Plain.{Drive, input, latch, gate, Plain, drive_in, pins_of, greatest, is_gate}
use Rattle.tm_circuit.specs.Chain.{IsGate, IsPin, IsChain, IsPeriod, IsRanked, RisesTo, HasCircle, depth, depth_by}
use Rattle.tm_circuit.proofs.ListLemmas.{contains-unmap, contains-none, greatest-reached}
use Rattle.tm_circuit.proofs.DescentLemmas.{depth_by-gate}

-- each number is at most the greatest, read by its place
at_most : (xs : List ℕ) (s : ℕ) → slice_index xs s ≤ greatest xs
at_most [] s = omega arith
at_most (x ∷ xs) zero = omega arith
at_most (x ∷ xs) (suc s) = let ih = at_most xs s in omega arith

-- a rank rises from a pin to its gate
pub rises_pin : (drives : List Drive) (rank : ℕ → ℕ) → IsRanked drives rank → (p s : ℕ) → IsPin drives p s → rank p < rank s
rises_pin drives rank h p s pin = by_drive (drive_in drives s) (h.rises s) pin
  where
    by_drive : (d : Drive) → RisesTo rank s d → Contains (pins_of d) p → rank p < rank s
    by_drive input r i = absurd (contains-none p i)
    by_drive (latch next init) r i = absurd (contains-none p i)
    by_drive (gate pins cover) r i = r p i

-- along a chain ranks rise from its first gate to any gate on it
chain_rises : (drives : List Drive) (rank : ℕ → ℕ) → IsRanked drives rank → (a b : ℕ) (through : List ℕ) → IsChain drives (a ∷ (through ++ b ∷ [])) → rank a < rank b
chain_rises drives rank h a b [] c = rises_pin drives rank h a b c.1
chain_rises drives rank h a b (t ∷ through) c =
    let first = rises_pin drives rank h a t c.1 in
    let rest = chain_rises drives rank h t b through c.2 in
    omega arith

-- where there are ranks there is no circle
pub ranked-no_circle : (drives : List Drive) (rank : ℕ → ℕ) → IsRanked drives rank → ¬ HasCircle drives
ranked-no_circle drives rank h circle = let up = chain_rises drives rank h circle.0 circle.0 circle.1.0 circle.1.1 in absurd (omega arith)

module _ (drives : List Drive) (rank : ℕ → ℕ) (deepens : (s : ℕ) → rank s ≡ depth_by rank (drive_in drives s)) (rises : IsRanked drives rank) where
  -- a signal of positive rank is a gate
  deep_gate : (s r : ℕ) → rank s ≡ suc r → IsGate drives s
  deep_gate s r e = by_drive (drive_in drives s) (sym (deepens s) ∙ e)
    where
      by_drive : (d : Drive) → depth_by rank d ≡ suc r → is_gate d ≡ true
      by_drive input h = cc
      by_drive (latch next init) h = cc
      by_drive (gate pins cover) h = refl

  -- a chain goes back from a gate over as many gates as its rank says
  chain_from : (r s : ℕ) (rest : List ℕ) → rank s ≡ suc r → IsChain drives (s ∷ rest) → (chain : List ℕ) × IsChain drives chain × (length chain ≡ r + length (s ∷ rest))
  chain_from zero s rest e c = (s ∷ rest, c, omega arith)
  chain_from (suc r) s rest e c =
      let high : suc (greatest (map rank (pins_of (drive_in drives s)))) ≡ suc (suc r) = sym (depth_by-gate rank (drive_in drives s) c.0) ∙ sym (deepens s) ∙ e in
      elim (greatest-reached (map rank (pins_of (drive_in drives s)))) [
        | inl none ↦ absurd (omega (arith, high, none))
        | inr reached ↦
            let u = contains-unmap rank (pins_of (drive_in drives s)) (greatest (map rank (pins_of (drive_in drives s)))) reached in
            let is : rank u.0 ≡ suc r = omega (arith, high, u.2) in
            let longer = chain_from r u.0 (s ∷ rest) is (deep_gate u.0 r is, u.1, c) in
            (longer.0, longer.1, omega (arith, longer.2))
      ]

  -- a chain is no longer than the greatest rank lets it
  chain_low : (most : ℕ) → ((s : ℕ) → rank s ≤ most) → (a : ℕ) (rest : List ℕ) → IsChain drives (a ∷ rest) → length (a ∷ rest) + rank a ≤ suc most
  chain_low most low a [] c = let l = low a in omega arith
  chain_low most low a (b ∷ rest) c =
      let up = rises_pin drives rank rises a b c.1 in
      let ih = chain_low most low b rest c.2 in
      omega arith

  chain_within : (most : ℕ) → ((s : ℕ) → rank s ≤ most) → (chain : List ℕ) → IsChain drives chain → length chain ≤ most
  chain_within most low [] c = omega arith
  chain_within most low (a ∷ rest) c =
      let all = chain_low most low a rest c in
      let one = deepens a ∙ depth_by-gate rank (drive_in drives a) c.0 in
      omega (arith, all, one)

  -- the longest chain is as long as the greatest rank
  longest : (ranks : List ℕ) → ((s : ℕ) → slice_index ranks s ≡ rank s) → (chain : List ℕ) × IsChain drives chain × (length chain ≡ greatest ranks)
  longest ranks are =
      elim (greatest-reached ranks) [
        | inl none ↦ ([], tt, sym none)
        | inr at ↦
            let s = at.0 in
            let is : rank s ≡ greatest ranks = sym (are s) ∙ get_or_default ranks s 0 (greatest ranks) at.1 ∙ at.2 in
            by_rank (greatest ranks) refl s is
      ]
    where
      by_rank : (g : ℕ) → g ≡ greatest ranks → (s : ℕ) → rank s ≡ greatest ranks → (chain : List ℕ) × IsChain drives chain × (length chain ≡ greatest ranks)
      by_rank zero e s is = ([], tt, e)
      by_rank (suc r) e s is =
          let deep : rank s ≡ suc r = is ∙ sym e in
          let c = chain_from r s [] deep (deep_gate s r deep, tt, tt) in
          (c.0, c.1, omega (arith, c.2, e))

-- the period is the greatest of the depths
pub period_is : (c : Plain) (ranks : List ℕ) → ((s : ℕ) → depth c.drives s ≡ depth_by (depth c.drives) (drive_in c.drives s)) → IsRanked c.drives (depth c.drives)
    → ((s : ℕ) → slice_index ranks s ≡ depth c.drives s) → IsPeriod c (greatest ranks)
period_is c ranks deepens rises are = record {
  reached = longest c.drives (depth c.drives) deepens rises ranks are;
  greatest = chain_within c.drives (depth c.drives) deepens rises (greatest ranks) (λ s. subst (λ n. n ≤ greatest ranks) (are s) (at_most ranks s));
}
