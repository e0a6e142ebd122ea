-- How far chains go on, from what stands for each signal: chains behind a signal, the least of the longest ones, and
-- the longest ones through a gate.
use Rattle.std.proofs.Common.{◌≡◌, ℕ, zero, suc, ◌+◌, ◌<◌, ◌≤◌, inl, inr, true, false, List, [], ◌∷◌, map, length, refl, sym, ◌∙◌, ap, subst, arith}
use Rattle.std.specs.Prelude.{Contains}
use Rattle.std.proofs.lemmas.Bool.{cases_lt}
use Rattle.std.proofs.lemmas.List.{get_or_past}
use Rattle.tm_circuit.specs.Plain.{Plain, Drive, input, latch, gate, drive_in, pins_of, greatest, is_gate}
use Rattle.tm_circuit.specs.Chain.{IsGate, IsPin, IsPinOfFirst, IsChain, IsPeriod, rank, depth, depth_by, depth_within}
use Rattle.tm_circuit.specs.Sound.{IsSound}
use Rattle.tm_circuit.proofs.ListLemmas.{contains-first, contains-rest, contains-cases, contains-none, contains-unmap, greatest-reached}
use Rattle.tm_circuit.proofs.DescentLemmas.{depth_by-gate, pinned-gate}
use Rattle.tm_circuit.proofs.PeriodLemmas.{rises_pin}
use Rattle.tm_report.specs.declared.onward.Onward.{Onward}
use Rattle.tm_report.specs.Report.{IsNotAfter, IsFirstLongest, IsSlack}
use Rattle.tm_report.specs.Onward.{onward_at, behind, IsOnward, steps, way_behind, BeginsLongest, slack_of}

-- a gate is one of the signals
pub gate_inside : (drives : List Drive) (g : ℕ) → IsGate drives g → g < length drives
gate_inside drives g h =
    elim (cases_lt g (length drives)) [
      | inl below ↦ below
      | inr past ↦
          let none : drive_in drives g ≡ latch g false = get_or_past drives g (latch g false) past in
          let is : is_gate (latch g false) ≡ true = subst (λ d. is_gate d ≡ true) none h in
          absurd (cc)
    ]

-- what reads a pin is a gate
reader_gate : (drives : List Drive) (p s : ℕ) → IsPin drives p s → IsGate drives s
reader_gate drives p s h = pinned-gate (drive_in drives s) p h

-- the depth of a signal follows chains back over as many gates as there are signals
depth_is : (drives : List Drive) (s : ℕ) → depth drives s ≡ depth_within (length drives) drives s
unfolding depth
depth_is drives s = refl

-- a gate is at least one deep, where chains are followed back over some gates
gate_deep_within : (drives : List Drive) (n g : ℕ) → g < n → IsGate drives g → 0 < depth_within n drives g
gate_deep_within drives zero g below h = absurd (omega arith)
gate_deep_within drives (suc n) g below h = omega (arith, depth_by-gate (λ p. depth_within n drives p) (drive_in drives g) h)

gate_deep : (drives : List Drive) (g : ℕ) → IsGate drives g → 0 < depth drives g
gate_deep drives g h = omega (arith, depth_is drives g, gate_deep_within drives (length drives) g (gate_inside drives g h) h)

-- what has some depth is a gate
deep_gate : (drives : List Drive) (n r s : ℕ) → depth_within n drives s ≡ suc r → IsGate drives s
deep_gate drives zero r s is = absurd (omega arith)
deep_gate drives (suc n) r s is = by_drive (drive_in drives s) is
  where
    by_drive : (d : Drive) → depth_by (λ p. depth_within n drives p) d ≡ suc r → is_gate d ≡ true
    by_drive input h = cc
    by_drive (latch next init) h = cc
    by_drive (gate pins cover) h = refl

-- a chain goes back from a gate over as many gates as it is deep, with all that follows the gate
chain_back : (drives : List Drive) (n r s : ℕ) (rest : List ℕ) → depth_within n drives s ≡ suc r → IsChain drives (s ∷ rest)
    → (chain : List ℕ) × IsChain drives chain × ((x : ℕ) → Contains (s ∷ rest) x → Contains chain x) × (length chain ≡ r + length (s ∷ rest))
chain_back drives zero r s rest is chain = absurd (omega arith)
chain_back drives (suc n) zero s rest is chain = (s ∷ rest, chain, λ x h. h, omega arith)
chain_back drives (suc n) (suc r) s rest is chain =
    let depths : List ℕ = map (λ p. depth_within n drives p) (pins_of (drive_in drives s)) in
    let high : suc (greatest depths) ≡ suc (suc r) = sym (depth_by-gate (λ p. depth_within n drives p) (drive_in drives s) chain.0) ∙ is in
    elim (greatest-reached depths) [
      | inl none ↦ absurd (omega (arith, high, none))
      | inr reached ↦
          let pin = contains-unmap (λ p. depth_within n drives p) (pins_of (drive_in drives s)) (greatest depths) reached in
          let deep : depth_within n drives pin.0 ≡ suc r = omega (arith, high, pin.2) in
          let longer = chain_back drives n r pin.0 (s ∷ rest) deep (deep_gate drives n r pin.0 deep, pin.1, chain) in
          (longer.0, longer.1, λ x h. longer.2 x (contains-rest pin.0 (s ∷ rest) x h), omega (arith, longer.3))
    ]

module _ (c : Plain) (onward : List Onward) (h : IsOnward c onward) where
  -- a chain that follows a signal has no more gates than are behind the signal
  behind_above : (s : ℕ) (rest : List ℕ) → s < length c.drives → IsPinOfFirst c.drives s rest → IsChain c.drives rest → length rest ≤ behind onward s
  behind_above s [] inside pin chain = omega arith
  behind_above s (b ∷ rest) inside pin chain =
      let up = (h.best s inside).above b pin in
      let ih = behind_above b rest (gate_inside c.drives b chain.0) chain.1 chain.2 in
      omega (arith, up, ih)

  -- the steps behind a signal are a chain that follows it
  steps_follow : (n s : ℕ) → s < length c.drives → behind onward s ≡ n
      → IsPinOfFirst c.drives s (steps onward n s) × IsChain c.drives (steps onward n s) × (length (steps onward n s) ≡ n)
  steps_follow zero s inside is = (tt, tt, refl)
  steps_follow (suc n) s inside is =
      let next = (onward_at onward s).next in
      elim ((h.best s inside).reached) [
        | inl none ↦ absurd (omega (arith, none, is))
        | inr reader ↦
            let is_gate_next = reader_gate c.drives s next reader.0 in
            let less : behind onward next ≡ n = omega (arith, reader.1, is) in
            let ih = steps_follow n next (gate_inside c.drives next is_gate_next) less in
            (reader.0, (is_gate_next, ih.0, ih.1), omega (arith, ih.2))
      ]

  -- no chain as long that follows the signal comes before its steps
  steps_least : (n s : ℕ) → s < length c.drives → behind onward s ≡ n → (other : List ℕ) → IsPinOfFirst c.drives s other → IsChain c.drives other
      → length other ≡ n → IsNotAfter (steps onward n s) other
  steps_least zero s inside is other pin chain long = tt
  steps_least (suc n) s inside is [] pin chain long = absurd (omega arith)
  steps_least (suc n) s inside is (b ∷ rest) pin chain long =
      let within = gate_inside c.drives b chain.0 in
      let low = behind_above b rest within chain.1 chain.2 in
      let up = (h.best s inside).above b pin in
      let as_long : suc (behind onward b) ≡ behind onward s = omega (arith, low, up, is, long) in
      let next = (onward_at onward s).next in
      let least : next ≤ b = (h.best s inside).least b pin as_long in
      elim (cases_lt next b) [
        | inl before ↦ inl before
        | inr past ↦
            let same : next ≡ b = omega (arith, least, past) in
            let less : behind onward b ≡ n = omega (arith, as_long, is) in
            let ih = steps_least n b within less rest chain.1 chain.2 (omega (arith, long)) in
            inr (same, subst (λ x. IsNotAfter (steps onward n x) rest) (sym same) ih)
      ]

  -- the first gate of a chain as long as the period begins one by its steps
  begins_longest : (p b : ℕ) (rest : List ℕ) → IsPeriod c p → IsChain c.drives (b ∷ rest) → length (b ∷ rest) ≡ p → BeginsLongest c onward p b
  begins_longest p b rest period linked is =
      let within = gate_inside c.drives b linked.0 in
      let low = behind_above b rest within linked.1 linked.2 in
      let follows = steps_follow (behind onward b) b within refl in
      let up = period.greatest (b ∷ way_behind onward b) (linked.0, follows.0, follows.1) in
      record { gate = linked.0; long = omega (arith, low, up, follows.2, is) }

  -- no chain as long as the period comes before the steps from the first gate that begins one
  first_least : (p g : ℕ) → IsPeriod c p → BeginsLongest c onward p g → ((s : ℕ) → BeginsLongest c onward p s → g ≤ s)
      → (other : List ℕ) → IsChain c.drives other → length other ≡ p → IsNotAfter (g ∷ way_behind onward g) other
  first_least p g period begins first [] linked is = absurd (omega (arith, begins.long, is))
  first_least p g period begins first (b ∷ rest) linked is =
      let least = first b (begins_longest p b rest period linked is) in
      elim (cases_lt g b) [
        | inl before ↦ inl before
        | inr past ↦
            let same : g ≡ b = omega (arith, least, past) in
            let pin = subst (λ x. IsPinOfFirst c.drives x rest) (sym same) linked.1 in
            inr (same, steps_least (behind onward g) g (gate_inside c.drives g begins.gate) refl rest pin linked.2 (omega (arith, begins.long, is)))
      ]

  -- the steps from the first gate that begins a longest chain are the first longest chain
  pub first_longest : (p g : ℕ) → IsPeriod c p → BeginsLongest c onward p g → ((s : ℕ) → BeginsLongest c onward p s → g ≤ s)
      → IsFirstLongest c (g ∷ way_behind onward g)
  first_longest p g period begins first =
      let follows = steps_follow (behind onward g) g (gate_inside c.drives g begins.gate) refl in
      let linked : IsChain c.drives (g ∷ way_behind onward g) = (begins.gate, follows.0, follows.1) in
      let long : length (g ∷ way_behind onward g) ≡ p = omega (arith, follows.2, begins.long) in
      record {
        longest = record { linked = linked; greatest = λ other chain. omega (arith, period.greatest other chain, long) };
        least = λ other longest.
            first_least p g period begins first other longest.linked (omega (arith, period.greatest other longest.linked, longest.greatest (g ∷ way_behind onward g) linked, long));
      }

  -- where no gate begins a longest chain there is no gate on one
  none_long : (p : ℕ) → IsPeriod c p → ((s : ℕ) → ¬ BeginsLongest c onward p s) → (chain : List ℕ) → IsChain c.drives chain → length chain ≡ p → p ≡ 0
  none_long p period none [] linked is = sym is
  none_long p period none (b ∷ rest) linked is = absurd (none b (begins_longest p b rest period linked is))

  pub no_longest : (p : ℕ) → IsPeriod c p → ((s : ℕ) → ¬ BeginsLongest c onward p s) → IsFirstLongest c []
  no_longest p period none =
      let nothing = none_long p period none period.reached.0 period.reached.1 period.reached.2 in
      record {
        longest = record { linked = tt; greatest = λ other chain. omega (arith, period.greatest other chain, nothing) };
        least = λ other longest. tt;
      }

  module _ (sound : IsSound c) (g : ℕ) where
    -- a chain that begins with the gate itself
    through_here : (a : ℕ) (rest : List ℕ) → a ≡ g → IsChain c.drives (a ∷ rest) → length (a ∷ rest) + rank c a ≤ suc (rank c g + behind onward g)
    through_here a rest same linked =
        let low = behind_above a rest (gate_inside c.drives a linked.0) linked.1 linked.2 in
        let ranks : rank c a ≡ rank c g = ap (λ x. rank c x) same in
        let behinds : behind onward a ≡ behind onward g = ap (λ x. behind onward x) same in
        omega (arith, low, ranks, behinds)

    -- a chain with the gate in it is no longer than the gates up to it and behind it, less the gates before the chain
    through_low : (a : ℕ) (rest : List ℕ) → IsChain c.drives (a ∷ rest) → Contains (a ∷ rest) g → length (a ∷ rest) + rank c a ≤ suc (rank c g + behind onward g)
    through_low a [] linked has =
        elim (contains-cases a [] g has) [ inl same ↦ through_here a [] same linked | inr later ↦ absurd (contains-none g later) ]
    through_low a (b ∷ rest) linked has =
        elim (contains-cases a (b ∷ rest) g has) [
          | inl same ↦ through_here a (b ∷ rest) same linked
          | inr later ↦
              let up = rises_pin c.drives (rank c) sound.ranked a b linked.1 in
              let ih = through_low b rest linked.2 later in
              omega (arith, up, ih)
        ]

    through_within : (chain : List ℕ) → IsChain c.drives chain → Contains chain g → length chain ≤ rank c g + behind onward g
    through_within [] linked has = absurd (contains-none g has)
    through_within (a ∷ rest) linked has =
        let low = through_low a rest linked has in
        let deep = gate_deep c.drives a linked.0 in
        omega (arith, low, deep)

    -- a chain goes through a gate over as many gates as there are up to it and behind it
    through_by_depth : (d : ℕ) → depth_within (length c.drives) c.drives g ≡ d → IsGate c.drives g
        → (chain : List ℕ) × IsChain c.drives chain × Contains chain g × (length chain ≡ d + behind onward g)
    through_by_depth zero is is_gate_g = absurd (omega (arith, gate_deep_within c.drives (length c.drives) g (gate_inside c.drives g is_gate_g) is_gate_g, is))
    through_by_depth (suc r) is is_gate_g =
        let follows = steps_follow (behind onward g) g (gate_inside c.drives g is_gate_g) refl in
        let back = chain_back c.drives (length c.drives) r g (way_behind onward g) is (is_gate_g, follows.0, follows.1) in
        (back.0, back.1, back.2 g (contains-first g (way_behind onward g)), omega (arith, back.3, follows.2))

    through_reached : IsGate c.drives g → (chain : List ℕ) × IsChain c.drives chain × Contains chain g × (length chain ≡ rank c g + behind onward g)
    through_reached is_gate_g = through_by_depth (rank c g) (sym (depth_is c.drives g)) is_gate_g

    pub through_fits : (p : ℕ) → IsPeriod c p → IsGate c.drives g → rank c g + behind onward g ≤ p
    through_fits p period is_gate_g =
        let through = through_reached is_gate_g in
        omega (arith, period.greatest through.0 through.1, through.3)

    -- the period less the gates up to a gate and behind it is its slack
    pub is_slack : (p : ℕ) → IsPeriod c p → IsGate c.drives g → IsSlack c p g (slack_of c onward p g)
    is_slack p period is_gate_g =
        let through = through_reached is_gate_g in
        let fits = period.greatest through.0 through.1 in
        record {
          reached = (through.0, through.1, through.2, omega (arith, through.3, fits));
          greatest = λ chain linked has. omega (arith, through_within chain linked has, through.3, fits);
        }
