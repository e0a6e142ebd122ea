-- The walks of lawful drops as digits.
use Rattle.std.proofs.Common.{◌≡◌, ◌≢◌, ℕ, zero, suc, ◌-◌, ◌<◌, ◌≤◌, inl, inr, Bool, true, false, List, [], ◌∷◌, length, Option, refl, sym, ◌∙◌, ap, subst, arith}
use Rattle.std.specs.Prelude.{Contains, slice_index_or}
use Rattle.std.proofs.lemmas.Bool.{cases_Bool, and_parts}
use Rattle.std.proofs.lemmas.Grind.{common_steps}
use Rattle.std.proofs.lemmas.List.{length-map}
use Rattle.std.proofs.lemmas.List.Elements.{Contains-get_or}
use Rattle.tm_circuit.specs.Plain.{Plain, Drive, input, latch, gate, drive_in, is_gate, pins_of, widest}
use Rattle.tm_circuit.specs.Sound.{IsSound}
use Rattle.tm_circuit.proofs.ListLemmas.{contains-cases, contains-none}
use Rattle.tm_flow.specs.Lists.{Each}
use Rattle.tm_flow.specs.Nets.{IsIndexWalk}
use Rattle.tm_flow.specs.Cuts.{IsBarrier}
use Rattle.tm_unroll.specs.declared.node.Node.{Node}
use Rattle.tm_unroll.specs.Nodes.{node_at, reads_of, reads, is_end_of, is_end}
use Rattle.tm_unroll.specs.Unrolled.{is_node, unrolled}
use Rattle.tm_replay.specs.declared.label.Label.{Label}
use Rattle.tm_replay.specs.Labels.{first_labels}
use Rattle.tm_replay.specs.Served.{is_served, most_advance}
use Rattle.tm_replay.specs.Replays.{Drop, IsLawfulDrop, lowered, Replays}
use Rattle.tm_replay.specs.Bounds.{HasDigitWalks}

-- No drive has more pins than the widest.
narrow : (drives : List Drive) (i next : ℕ) → length (pins_of (slice_index_or drives i (latch next false))) ≤ widest drives
narrow [] i next = omega arith
narrow (x ∷ drives) zero next = omega arith
narrow (x ∷ drives) (suc i) next = let ih = narrow drives i next in omega (arith, ih)

few_reads : (k : ℕ) (d : Drive) (a : ℕ) → 1 ≤ k → length (pins_of d) ≤ k → length (reads_of d a) ≤ k
few_reads k input a some few = omega arith
few_reads k (latch next init) zero some few = omega arith
few_reads k (latch next init) (suc less) some few = omega arith
few_reads k (gate pins cover) a some few = let same = length-map pins (λ p. node_at a p) in omega (arith, same, few)

gate_goes_on : (d : Drive) (a : ℕ) → is_gate d ≡ true → is_end_of d a ≡ false
gate_goes_on input a is = cc
gate_goes_on (latch next init) a is = cc
gate_goes_on (gate pins cover) a is = refl

module _ (c : Plain) (k : ℕ) (width : widest c.drives ≤ k) (some : 1 ≤ k) (may_cut : Node → Bool) where
  below_k : (x : Node) (i : ℕ) → i < (unrolled most_advance c may_cut).reads x → i < k
  below_k x i low =
      let few = few_reads k (drive_in c.drives x.signal) x.advance some (let one = narrow c.drives x.signal x.signal in omega (arith, one, width)) in
      elim (cases_Bool (is_node most_advance c x)) [
        | inl is ↦ grind (arith, common_steps)
        | inr other ↦ absurd (grind (arith, common_steps))
      ]

  digits : (x : Node) (w : List ℕ) → IsIndexWalk (unrolled most_advance c may_cut) x w → (i : ℕ) → Contains w i → i < k
  digits x [] walk i stands = absurd (contains-none i stands)
  digits x (j ∷ w) walk i stands =
      elim (contains-cases j w i stands) [
        | inl is ↦ subst (λ n. n < k) is (below_k x j walk.0)
        | inr later ↦ digits (slice_index_or (reads c.drives x) j x) w walk.1 i later
      ]

  each_walk : (x : Node) (ws : List (List ℕ)) → Each (IsIndexWalk (unrolled most_advance c may_cut) x) ws → (w : List ℕ) → Contains ws w
      → IsIndexWalk (unrolled most_advance c may_cut) x w
  each_walk x [] each w stands = absurd (contains-none w stands)
  each_walk x (u ∷ ws) each w stands =
      elim (contains-cases u ws w stands) [
        | inl is ↦ subst (λ (v : List ℕ). IsIndexWalk (unrolled most_advance c may_cut) x v) is each.0
        | inr later ↦ each_walk x ws each.1 w later
      ]

  barrier_walks : (x : Node) (ws : List (List ℕ)) → IsBarrier (unrolled most_advance c may_cut) x k ws → (ws ≢ []) × ((w : List ℕ) → Contains ws w → IsIndexWalk (unrolled most_advance c may_cut) x w)
  barrier_walks x ws (inl (u, is, free)) =
      (λ none. (let two : u ∷ [] ≡ [] = sym is ∙ none in cc), λ w stands. each_walk x ws (subst (λ (vs : List (List ℕ)). Each (IsIndexWalk (unrolled most_advance c may_cut) x) vs) (sym is) (free.walk, tt)) w stands)
  barrier_walks x ws (inr (many, flow)) =
      (λ none. (let zero_long : length ws ≡ 0 = ap length none in omega (arith, many, zero_long)), λ w stands. each_walk x ws flow.walks w stands)

lawful_digits : (base : ℕ) (c : Plain) (k target : ℕ) (labels : List (Option Label)) (drop : Drop) → widest c.drives ≤ k → 1 ≤ k
    → IsLawfulDrop base c k target labels drop → HasDigitWalks k drop
lawful_digits base c k target labels drop width some is =
    let may_cut : Node → Bool = λ x. is_served base c.drives labels (drop.arrival - 1) x in
    let walks = barrier_walks c k width some may_cut (node_at drop.lag drop.gate) drop.walks is.barrier in
    record {
      some = walks.0;
      no_empty = λ w stands none. (
          let walk = subst (λ (v : List ℕ). IsIndexWalk (unrolled most_advance c may_cut) (node_at drop.lag drop.gate) v) none (walks.1 w stands) in
          let stops = (and_parts (is_node most_advance c (node_at drop.lag drop.gate)) (is_end c.drives (node_at drop.lag drop.gate)) walk).1 in
          let goes = gate_goes_on (drive_in c.drives drop.gate) drop.lag is.order.gate in
          cc
          );
      digits = λ w stands i e within. digits c k width some may_cut (node_at drop.lag drop.gate) w (walks.1 w stands) _ (Contains-get_or w i e within);
    }

pub digit_walks : (base : ℕ) (c : Plain) (k d target : ℕ) (drops : List Drop) → IsSound c → widest c.drives ≤ k → 1 ≤ k
    → Replays base c k target (first_labels c.drives d target) drops → (drop : Drop) → Contains drops drop → HasDigitWalks k drop
digit_walks base c k d target drops sound width some replays drop stands = from (first_labels c.drives d target) drops replays stands
  where
    from : (labels : List (Option Label)) (ds : List Drop) → Replays base c k target labels ds → Contains ds drop → HasDigitWalks k drop
    from labels [] replays stands = absurd (contains-none drop stands)
    from labels (first ∷ ds) replays stands =
        elim (contains-cases first ds drop stands) [
          | inl is ↦ subst (λ (x : Drop). HasDigitWalks k x) is (lawful_digits base c k target labels first width some replays.0)
          | inr later ↦ from (lowered target labels first) ds replays.1 later
        ]
