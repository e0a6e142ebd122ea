-- A barrier of a node that a gate reads behind latches is one of the gate, with the way to the node in front of each walk.
use Rattle.std.proofs.Common.{◌≡◌, ℕ, zero, suc, ◌-◌, ◌<◌, ◌≤◌, inl, Bool, true, false, List, [], ◌∷◌, ◌++◌, length, map, Option, refl, sym, ◌∙◌, ap, subst, arith}
use Rattle.std.specs.Prelude.{replicate, slice_index, slice_index_or, ◌&&◌, nat_lt, nat_le, if◌then◌else◌}
use Rattle.std.proofs.lemmas.Grind.{common_steps}
use Rattle.std.proofs.lemmas.Bool.{and_from, lt-ltb, le-leb}
use Rattle.std.proofs.lemmas.List.{length-map, get_or_default, get_or-map}
use Rattle.tm_circuit.specs.Plain.{Plain, Drive, input, latch, gate, drive_in, pins_of, is_gate}
use Rattle.tm_circuit.specs.Chain.{IsGate}
use Rattle.tm_circuit.specs.Sound.{IsSound, ReadsBelow}
use Rattle.tm_flow.specs.Cuts.{IsBarrier}
use Rattle.tm_flow.specs.Nets.{Shape}
use Rattle.tm_flow.proofs.BarrierLemmas.{inherits}
use Rattle.tm_unroll.specs.declared.node.Node.{Node}
use Rattle.tm_unroll.specs.Nodes.{node_at, reads_of, reads, is_end}
use Rattle.tm_unroll.specs.Unrolled.{is_node}
use Rattle.tm_unroll.specs.NetCuts.{IsNode}
use Rattle.tm_unroll.specs.Latches.{behind_of, behind_latches}
use Rattle.tm_unroll.proofs.JudgeLemmas.{gate_within}
use Rattle.tm_replay.specs.declared.label.Label.{Label}
use Rattle.tm_replay.specs.Served.{is_served_of, is_served, most_advance, served}
use Rattle.tm_replay.proofs.SourceLemmas.{reads_signals}
use Rattle.tm_inherit.specs.declared.reads.Read.{Read}
use Rattle.tm_inherit.specs.Reads.{IsRead, way_to}
use Rattle.tm_inherit.proofs.ReadLemmas.{pin_within, read_within}

-- ---- digits in front of walks

none_in_front : (m : ℕ) (ws : List (List ℕ)) → m ≡ 0 → map (λ (w : List ℕ). replicate m 0 ++ w) ws ≡ ws
none_in_front m ws none = ap (λ n. map (λ (w : List ℕ). replicate n 0 ++ w) ws) none ∙ all ws
  where
    all : (us : List (List ℕ)) → map (λ (w : List ℕ). replicate 0 0 ++ w) us ≡ us
    all [] = refl
    all (u ∷ us) = ap (λ (ls : List (List ℕ)). u ∷ ls) (all us)

one_more_in_front : (m n : ℕ) (ws : List (List ℕ)) → n ≡ suc m → map (λ (w : List ℕ). 0 ∷ w) (map (λ (w : List ℕ). replicate m 0 ++ w) ws) ≡ map (λ (w : List ℕ). replicate n 0 ++ w) ws
one_more_in_front m n ws more = all ws ∙ ap (λ i. map (λ (w : List ℕ). replicate i 0 ++ w) ws) (sym more)
  where
    all : (us : List (List ℕ)) → map (λ (w : List ℕ). 0 ∷ w) (map (λ (w : List ℕ). replicate m 0 ++ w) us) ≡ map (λ (w : List ℕ). replicate (suc m) 0 ++ w) us
    all [] = refl
    all (u ∷ us) = ap (λ (ls : List (List ℕ)). (0 ∷ (replicate m 0 ++ u)) ∷ ls) (all us)

index_in_front : (i : ℕ) (v : List ℕ) (ws : List (List ℕ)) → map (λ (w : List ℕ). i ∷ w) (map (λ (w : List ℕ). v ++ w) ws) ≡ map (λ (w : List ℕ). (i ∷ v) ++ w) ws
index_in_front i v [] = refl
index_in_front i v (u ∷ us) = ap (λ (ls : List (List ℕ)). (i ∷ (v ++ u)) ∷ ls) (index_in_front i v us)

and_no : (b : Bool) → (b && false) ≡ false
and_no true = refl
and_no false = refl

module _ (base : ℕ) (c : Plain) (sound : IsSound c) (labels : List (Option Label)) (within : ℕ) where
  abbrev pub n : Shape Node
  n = served base c labels within

  -- A node at which the walks of a later one begin, with a 0 for each latch between.
  pub record IsBarred (a s k : ℕ) (ws : List (List ℕ)) (y : Node) : Type 0 where
    pub uncut : n.may_cut (node_at a s) ≡ false
    pub low : y.advance ≤ a
    pub barrier : IsBarrier n (node_at a s) k (map (λ (w : List ℕ). replicate (a - y.advance) 0 ++ w) ws)

  here : (a s k : ℕ) (ws : List (List ℕ)) (y : Node) → y ≡ node_at a s → n.may_cut y ≡ false → IsBarrier n y k ws → IsBarred a s k ws y
  here a s k ws y is uncut barrier = record {
    uncut = ap n.may_cut (sym is) ∙ uncut;
    low = let same = ap (λ (z : Node). z.advance) is in omega (arith, same);
    barrier = subst (λ (us : List (List ℕ)). IsBarrier n (node_at a s) k us) (sym (none_in_front (a - y.advance) ws (let same = ap (λ (z : Node). z.advance) is in omega (arith, same))))
        (subst (λ (z : Node). IsBarrier n z k ws) is barrier);
  }

  named : (x : Node) → x.signal < length c.drives → x.advance ≤ most_advance → is_node most_advance c x ≡ true
  named x inside low = and_from (nat_lt x.signal (length c.drives)) (nat_le x.advance most_advance) (lt-ltb x.signal (length c.drives) inside) (le-leb x.advance most_advance low)

  reads_are : (x : Node) → is_node most_advance c x ≡ true → n.reads x ≡ length (reads c.drives x)
  reads_are x is = ap (λ b. if b then length (reads c.drives x) else 0) is

  latch_uncut : (a s next : ℕ) (init : Bool) → is_served_of base (latch next init) c.drives labels within (node_at (suc a) s) ≡ false
  latch_uncut a s next init = grind (arith, common_steps)

  -- A latch with advance to spend may not be cut.
  uncut_latch : (a s next : ℕ) (init : Bool) → drive_in c.drives s ≡ latch next init → n.may_cut (node_at (suc a) s) ≡ false
  uncut_latch a s next init is =
      ap (λ (d : Drive). is_node most_advance c (node_at (suc a) s) && is_served_of base d c.drives labels within (node_at (suc a) s)) is
      ∙ ap (λ b. is_node most_advance c (node_at (suc a) s) && b) (latch_uncut a s next init) ∙ and_no (is_node most_advance c (node_at (suc a) s))

  pub way_bars : (a s k : ℕ) (ws : List (List ℕ)) → s < length c.drives → a ≤ most_advance → n.may_cut (behind_latches c.drives a s) ≡ false
      → IsBarrier n (behind_latches c.drives a s) k ws → IsBarred a s k ws (behind_latches c.drives a s)
  way_bars zero s k ws inside low uncut barrier = here zero s k ws (node_at zero s) refl uncut barrier
  way_bars (suc less) s k ws inside low uncut_end barrier_end =
      by_drive (λ next within_next. way_bars less next k ws within_next (omega (arith, low))) (drive_in c.drives s) refl uncut_end barrier_end
    where
      further : ℕ → Node
      further next = behind_latches c.drives less next

      by_drive : ((next : ℕ) → next < length c.drives → n.may_cut (behind_latches c.drives less next) ≡ false → IsBarrier n (behind_latches c.drives less next) k ws
          → IsBarred less next k ws (behind_latches c.drives less next))
          → (d : Drive) → drive_in c.drives s ≡ d → n.may_cut (behind_of d (node_at (suc less) s) (λ next. behind_latches c.drives less next)) ≡ false
          → IsBarrier n (behind_of d (node_at (suc less) s) (λ next. behind_latches c.drives less next)) k ws
          → IsBarred (suc less) s k ws (behind_of d (node_at (suc less) s) (λ next. behind_latches c.drives less next))
      by_drive ih input is uncut barrier = here (suc less) s k ws (node_at (suc less) s) refl uncut barrier
      by_drive ih (gate pins cover) is uncut barrier = here (suc less) s k ws (node_at (suc less) s) refl uncut barrier
      by_drive ih (latch next init) is uncut barrier =
          let inside_next : next < length c.drives = subst (λ (d : Drive). ReadsBelow (length c.drives) d) is (reads_signals c sound s inside) in
          let later = ih next inside_next uncut barrier in
          let y : Node = behind_latches c.drives less next in
          let x : Node = node_at (suc less) s in
          let node = named x inside low in
          let one : n.reads x ≡ 1 = reads_are x node ∙ ap (λ (d : Drive). length (reads_of d (suc less))) is in
          let at : n.read x 0 ≡ node_at less next = ap (λ (d : Drive). slice_index_or (reads_of d (suc less)) 0 x) is in
          let low_later = later.low in
          record {
            uncut = uncut_latch less s next init is;
            low = omega (arith, low_later);
            barrier = subst (λ (us : List (List ℕ)). IsBarrier n x k us) (one_more_in_front (less - y.advance) (suc less - y.advance) ws (omega (arith, low_later)))
                (inherits n x (node_at less next) 0 k (map (λ (w : List ℕ). replicate (less - y.advance) 0 ++ w) ws) (omega (arith, one)) at later.uncut later.barrier);
          }

  pin_read : (g lag i : ℕ) → (d : Drive) → is_gate d ≡ true → i < length (pins_of d) → (i < length (reads_of d lag)) × (slice_index_or (reads_of d lag) i (node_at lag g) ≡ node_at lag (slice_index (pins_of d) i))
  pin_read g lag i input is low = cc
  pin_read g lag i (latch next init) is low = cc
  pin_read g lag i (gate pins cover) is low =
      let same = length-map pins (λ p. node_at lag p) in
      let inside : i < length (map (λ p. node_at lag p) pins) = omega (arith, same, low) in
      (inside, get_or_default (map (λ p. node_at lag p) pins) i (node_at lag g) (node_at lag 0) inside ∙ get_or-map (λ p. node_at lag p) pins i 0 (node_at lag 0) low)

  -- What a gate reads hands its barrier on.
  pub hands_on : (g lag k : ℕ) (ws : List (List ℕ)) (r : Read) → IsGate c.drives g → lag ≤ most_advance → IsRead c.drives g lag r → n.may_cut r.node ≡ false → IsBarrier n r.node k ws
      → IsBarrier n (node_at lag g) k (map (λ (w : List ℕ). way_to lag r ++ w) ws)
  hands_on g lag k ws r is low read uncut barrier =
      let pin : ℕ = slice_index (pins_of (drive_in c.drives g)) r.index in
      let y : Node = behind_latches c.drives lag pin in
      let x : Node = node_at lag g in
      let barred = way_bars lag pin k ws (pin_within c sound g lag r is read) low (ap n.may_cut (sym read.node) ∙ uncut) (subst (λ (z : Node). IsBarrier n z k ws) read.node barrier) in
      let reads_it = pin_read g lag r.index (drive_in c.drives g) is read.within in
      let node = named x (gate_within c.drives g is) low in
      let first : r.index < n.reads x = let many = reads_are x node in let few = reads_it.0 in omega (arith, many, few) in
      let whole = inherits n x (node_at lag pin) r.index k (map (λ (w : List ℕ). replicate (lag - y.advance) 0 ++ w) ws) first reads_it.1 barred.uncut barred.barrier in
      subst (λ (z : Node). IsBarrier n x k (map (λ (w : List ℕ). (r.index ∷ replicate (lag - z.advance) 0) ++ w) ws)) (sym read.node)
      (subst (λ (us : List (List ℕ)). IsBarrier n x k us) (index_in_front r.index (replicate (lag - y.advance) 0) ws) whole)

  unserved_uncut : (y : Node) → is_served base c.drives labels within y ≡ false → n.may_cut y ≡ false
  unserved_uncut y unserved = ap (λ b. is_node most_advance c y && b) unserved ∙ and_no (is_node most_advance c y)

  -- The same of a node that is not served.
  pub unserved_hands_on : (g lag k : ℕ) (ws : List (List ℕ)) (r : Read) → IsGate c.drives g → lag ≤ most_advance → IsRead c.drives g lag r → is_served base c.drives labels within r.node ≡ false
      → IsBarrier n r.node k ws → IsBarrier n (node_at lag g) k (map (λ (w : List ℕ). way_to lag r ++ w) ws)
  unserved_hands_on g lag k ws r is low read unserved barrier = hands_on g lag k ws r is low read (unserved_uncut r.node unserved) barrier

  -- An end that is not served bars the way to it.
  pub end_hands_on : (g lag k : ℕ) (r : Read) → IsGate c.drives g → lag ≤ most_advance → IsRead c.drives g lag r → r.node.advance ≤ most_advance → is_end c.drives r.node ≡ true
      → is_served base c.drives labels within r.node ≡ false → IsBarrier n (node_at lag g) k ((way_to lag r ++ []) ∷ [])
  end_hands_on g lag k r is low read near end unserved =
      let ends : n.is_end r.node ≡ true = and_from (is_node most_advance c r.node) (is_end c.drives r.node) (named r.node (read_within c sound g lag r is read) near) end in
      unserved_hands_on g lag k ([] ∷ []) r is low read unserved (inl ([], refl, record { walk = ends; uncut = λ v h. absurd h }))
