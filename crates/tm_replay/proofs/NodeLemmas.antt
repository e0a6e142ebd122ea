-- What the nodes of the net read, by the drives of their signals.
use Rattle.std.proofs.Common.{◌≡◌, ℕ, zero, suc, ◌-◌, ◌<◌, ◌≤◌, inl, inr, Bool, List, [], ◌∷◌, map, length, get_or, sym, ◌∙◌, ap, subst, arith}
use Rattle.std.proofs.lemmas.Bool.{cases_Bool, and_parts, ltb-true}
use Rattle.std.proofs.lemmas.List.{length-map}
use Rattle.std.proofs.lemmas.Grind.{common_steps}
use Rattle.tm_bits.specs.Rows.{Rows}
use Rattle.tm_circuit.specs.Plain.{Plain, Drive, latch, gate, drive_in}
use Rattle.tm_unroll.specs.declared.node.Node.{Node}
use Rattle.tm_unroll.specs.Nodes.{node_at, reads_of, reads}
use Rattle.tm_unroll.specs.Unrolled.{is_node}
use Rattle.tm_replay.specs.Served.{most_advance, net}

-- What reads is a node, and its reads are those of its drive.
pub read_within : (c : Plain) (x : Node) (i : ℕ) → i < (net c).reads x → (x.signal < length c.drives) × (i < length (reads c.drives x))
read_within c x i low =
    elim (cases_Bool (is_node most_advance c x)) [
      | inl is ↦ (ltb-true _ _ (and_parts _ _ is).0, grind (arith, common_steps))
      | inr other ↦ absurd (grind (arith, common_steps))
    ]

drive_reads : (c : Plain) (x : Node) (d : Drive) → drive_in c.drives x.signal ≡ d → reads c.drives x ≡ reads_of d x.advance
drive_reads c x d is = ap (λ (e : Drive). reads_of e x.advance) is

-- A latch that reads has an advance to spend, and reads its next.
pub latch_reads : (c : Plain) (x : Node) (i next : ℕ) (init : Bool) → drive_in c.drives x.signal ≡ latch next init → i < (net c).reads x
    → (1 ≤ x.advance) × (node_at (x.advance - 1) next ≡ (net c).read x i)
latch_reads c x i next init is low =
    let read = drive_reads c x (latch next init) is in
    let from = by_advance x.advance i (subst (λ (xs : List Node). i < length xs) read (read_within c x i low).1) in
    (from.0, from.1 ∙ sym (ap (λ (xs : List Node). get_or xs i x) read))
  where
    by_advance : (a j : ℕ) → j < length (reads_of (latch next init) a) → (1 ≤ a) × (node_at (a - 1) next ≡ get_or (reads_of (latch next init) a) j x)
    by_advance zero j within = absurd (omega arith)
    by_advance (suc a) zero within = (omega arith, ap (λ n. node_at n next) (omega arith))
    by_advance (suc a) (suc j) within = absurd (omega arith)

-- A gate reads its pins.
pub gate_reads : (c : Plain) (x : Node) (i : ℕ) (pins : List ℕ) (cover : Rows) → drive_in c.drives x.signal ≡ gate pins cover → i < (net c).reads x
    → (i < length pins) × ((p : ℕ) → p ≡ get_or pins i p → node_at x.advance p ≡ (net c).read x i)
gate_reads c x i pins cover is low =
    let read = drive_reads c x (gate pins cover) is in
    let within : i < length (map (λ p. node_at x.advance p) pins) = subst (λ (xs : List Node). i < length xs) read (read_within c x i low).1 in
    let few : i < length pins = let same = length-map pins (λ p. node_at x.advance p) in omega (arith, within, same) in
    (few, λ p at. mapped pins i p few at ∙ sym (ap (λ (xs : List Node). get_or xs i x) read))
  where
    mapped : (ps : List ℕ) (j p : ℕ) → j < length ps → p ≡ get_or ps j p → node_at x.advance p ≡ get_or (map (λ q. node_at x.advance q) ps) j x
    mapped [] j p within at = absurd (omega arith)
    mapped (q ∷ ps) zero p within at = ap (λ n. node_at x.advance n) at
    mapped (q ∷ ps) (suc j) p within at = mapped ps j p (omega arith) at
