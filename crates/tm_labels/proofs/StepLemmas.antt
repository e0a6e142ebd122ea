-- What a search of the net of served nodes finds: a cut in order, or walks whose indices are digits.
use Rattle.std.proofs.Common.{◌≡◌, ℕ, zero, suc, ◌<◌, ◌≤◌, inl, inr, Bool, true, false, List, [], ◌∷◌, length, Option, refl, sym, subst, arith}
use Rattle.std.specs.Prelude.{Contains, All, slice_index_or}
use Rattle.std.proofs.lemmas.Bool.{cases_Bool, cases_lt}
use Rattle.std.proofs.lemmas.Grind.{common_steps}
use Rattle.std.proofs.lemmas.List.{length-map, get_or_past}
use Rattle.std.proofs.lemmas.List.Elements.{All-cons, All-nil}
use Rattle.tm_circuit.specs.Plain.{Plain, Drive, input, latch, gate, drive_in, is_gate}
use Rattle.tm_circuit.specs.Chain.{IsGate}
use Rattle.tm_circuit.specs.Sound.{IsSound, FitsPins}
use Rattle.tm_circuit.proofs.ListLemmas.{contains-cases, contains-none}
use Rattle.tm_flow.specs.Lists.{Each}
use Rattle.tm_flow.specs.Nets.{IsIndexWalk}
use Rattle.tm_flow.specs.Cuts.{IsCut, IsBarrier}
use Rattle.tm_unroll.specs.declared.node.Node.{Node}
use Rattle.tm_unroll.specs.Nodes.{node_at, reads_of, reads, is_end_of}
use Rattle.tm_unroll.specs.NetCuts.{IsNode, IsCoverBy}
use Rattle.tm_unroll.specs.Replaced.{IsInOrder}
use Rattle.tm_unroll.specs.Unrolled.{is_node}
use Rattle.tm_unroll.proofs.JudgeLemmas.{gate_within}
use Rattle.tm_unroll.proofs.NetLemmas.{cuts_covers}
use Rattle.tm_unroll.proofs.ReplaceLemmas.{same_covers}
use Rattle.tm_replay.specs.declared.label.Label.{Label}
use Rattle.tm_replay.specs.Served.{is_served, most_advance, served}
use Rattle.tm_merge.specs.Cuts.{IsCutWithin}

-- A gate at an advance is no end of the net.
gate_goes_on : (d : Drive) (a : ℕ) → is_gate d ≡ true → is_end_of d a ≡ false
gate_goes_on input a is = cc
gate_goes_on (latch next init) a is = cc
gate_goes_on (gate pins cover) a is = refl

pub no_end : (base : ℕ) (c : Plain) (labels : List (Option Label)) (within g lag : ℕ) → IsGate c.drives g → (served base c labels within).is_end (node_at lag g) ≡ false
no_end base c labels within g lag is =
    let goes = gate_goes_on (drive_in c.drives g) lag is in
    elim (cases_Bool (is_node most_advance c (node_at lag g))) [
      | inl node ↦ grind (arith, common_steps)
      | inr other ↦ grind (arith, common_steps)
    ]

module _ (base : ℕ) (c : Plain) (sound : IsSound c) (labels : List (Option Label)) (within : ℕ) where
  abbrev cuttable : Node → Bool
  cuttable x = is_served base c.drives labels within x

  -- A cut of the net whose nodes are put in order is a cut within the number.
  pub cut_in_order : (k g lag : ℕ) (nodes ordered : List Node) → IsGate c.drives g → lag ≤ most_advance → IsCut (served base c labels within) (node_at lag g) k nodes
      → IsInOrder nodes ordered → IsCutWithin base c k labels within (node_at lag g) ordered
  cut_in_order k g lag nodes ordered is low cut order =
      let node : IsNode most_advance c (node_at lag g) = record { signal = gate_within c.drives g is; advance = low } in
      let by : IsCoverBy most_advance c cuttable (node_at lag g) k nodes = (cuts_covers most_advance c cuttable sound (node_at lag g) k nodes node).0 cut in
      let few = by.few in
      let fewer = order.few in
      record {
        few = omega (arith, few, fewer);
        ascending = order.ascending;
        covers = same_covers c.drives nodes ordered (node_at lag g) order.same by.covers;
        served = λ y stands. by.may_be_cut y ((order.same y).1 stands);
      }

  few_reads : (d : Drive) (a : ℕ) → FitsPins d → length (reads_of d a) < 256
  few_reads input a fits = omega arith
  few_reads (latch next init) zero fits = omega arith
  few_reads (latch next init) (suc less) fits = omega arith
  few_reads (gate pins cover) a fits = let same = length-map pins (λ p. node_at a p) in let few = fits.0 in omega (arith, same, few)

  pins_fit : (s : ℕ) → FitsPins (drive_in c.drives s)
  pins_fit s =
      elim (cases_lt s (length c.drives)) [
        | inl low ↦ sound.range.pins s (latch s false) low
        | inr past ↦ subst (λ (d : Drive). FitsPins d) (sym (get_or_past c.drives s (latch s false) past)) tt
      ]

  low_index : (x : Node) (i : ℕ) → i < (served base c labels within).reads x → i < 256
  low_index x i low =
      let few = few_reads (drive_in c.drives x.signal) x.advance (pins_fit x.signal) in
      elim (cases_Bool (is_node most_advance c x)) [
        | inl is ↦ grind (arith, common_steps)
        | inr other ↦ absurd (grind (arith, common_steps))
      ]

  walk_digits : (x : Node) (w : List ℕ) → IsIndexWalk (served base c labels within) x w → All (λ i. i < 256) w
  walk_digits x [] walk = All-nil (λ i. i < 256)
  walk_digits x (i ∷ w) walk = All-cons (λ i. i < 256) i w (low_index x i walk.0) (walk_digits (slice_index_or (reads c.drives x) i x) w walk.1)

  each_digits : (x : Node) (ws : List (List ℕ)) → Each (IsIndexWalk (served base c labels within) x) ws → (w : List ℕ) → Contains ws w → All (λ i. i < 256) w
  each_digits x [] each w stands = absurd (contains-none w stands)
  each_digits x (u ∷ ws) each w stands =
      elim (contains-cases u ws w stands) [
        | inl is ↦ subst (λ (v : List ℕ). All (λ i. i < 256) v) is (walk_digits x u each.0)
        | inr later ↦ each_digits x ws each.1 w later
      ]

  -- The walks of a barrier have digits.
  pub barrier_digits : (x : Node) (k : ℕ) (ws : List (List ℕ)) → IsBarrier (served base c labels within) x k ws → (w : List ℕ) → Contains ws w → All (λ i. i < 256) w
  barrier_digits x k ws (inl free) w stands =
      each_digits x ws (subst (λ (vs : List (List ℕ)). Each (IsIndexWalk (served base c labels within) x) vs) (sym free.1) (free.2.walk, tt)) w stands
  barrier_digits x k ws (inr flow) w stands = each_digits x ws flow.1.walks w stands
