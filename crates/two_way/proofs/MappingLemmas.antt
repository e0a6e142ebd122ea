-- Two-way mappings are the lawful mappings over a base, with the numbers that stand for their amounts.
use Rattle.std.proofs.Common.{◌≡◌, ℕ, zero, suc, ◌+◌, ◌-◌, ◌<◌, ◌≤◌, inl, inr, List, map, ℤ, pos, neg_ℤ, ◌≤ℤ◌, refl, sym, ◌∙◌, ap, subst, arith}
use Rattle.std.specs.Prelude.{IsTrue}
use Rattle.std.proofs.lemmas.List.{length-map}
use Rattle.tm_circuit.specs.Plain.{Plain, Drive, input, latch, gate, drive_in, is_latch}
use Rattle.tm_circuit.specs.Chain.{IsGate}
use Rattle.tm_circuit.specs.Source.{step_back, back as signal_behind}
use Rattle.tm_circuit.proofs.ListLemmas.{contains-map, contains-unmap}
use Rattle.tm_unroll.specs.declared.node.Node.{Node}
use Rattle.tm_unroll.specs.Nodes as one_node
use Rattle.tm_unroll.specs.Mappings as one
use Rattle.tm_unroll.specs.Mappings.{Table}
use Rattle.tm_unroll.specs.Latches.{need_of, LeadsToGate}
use Rattle.tm_unroll.proofs.BehindLemmas.{needs_count}
use Rattle.two_way.specs.declared.answer.TwoNode.{TwoNode}
use Rattle.two_way.specs.Nodes as two_nodes
use Rattle.two_way.specs.Nodes.{floor}
use Rattle.two_way.specs.Walks as two_walk
use Rattle.two_way.specs.Mappings as two
use Rattle.two_way.specs.Mappings.{TwoTable, IsTwoWay}
use Rattle.two_way.specs.Amounts.{amount, two_node, two_table}
use Rattle.two_way.proofs.AmountLemmas.{amount_floor, same_amount, amount_le, amount_le_up, amount_lt, amount_lt_up, floor_le, amount_most, amount_most_up, need_le, need_le_up, amount_raised}
use Rattle.two_way.proofs.MapLemmas.{pairs_map, pairs_up, unmap_all}
use Rattle.two_way.proofs.WalkLemmas.{leads_up, covers_two, covers_up}

-- ---- the gate to which latches lead

-- Where some steps back lead to a gate, so many latches as there are lead to it.
pub latches_down : (drives : List Drive) (n s : ℕ) → IsGate drives (signal_behind drives n s)
    → (m : ℕ) × LeadsToGate drives s m × (signal_behind drives m s ≡ signal_behind drives n s)
latches_down drives zero s at_gate = (0, record { passes = λ i low. absurd (omega (arith, low)); arrives = at_gate }, refl)
latches_down drives (suc n) s at_gate = by_drive (drive_in drives s) refl (λ t. latches_down drives n t) at_gate
  where
    passes_more : (next m : ℕ) → IsTrue (is_latch (drive_in drives s)) → step_back s (drive_in drives s) ≡ next
        → ((i : ℕ) → i < m → IsTrue (is_latch (drive_in drives (signal_behind drives i next))))
        → (i : ℕ) → i < suc m → IsTrue (is_latch (drive_in drives (signal_behind drives i s)))
    passes_more next m first is rest zero low = first
    passes_more next m first is rest (suc i) low =
        subst (λ t. IsTrue (is_latch (drive_in drives (signal_behind drives i t)))) (sym is) (rest i (omega (arith, low)))

    by_drive : (d : Drive) → drive_in drives s ≡ d
        → ((t : ℕ) → IsGate drives (signal_behind drives n t) → (m : ℕ) × LeadsToGate drives t m × (signal_behind drives m t ≡ signal_behind drives n t))
        → IsGate drives (signal_behind drives n (step_back s d))
        → (m : ℕ) × LeadsToGate drives s m × (signal_behind drives m s ≡ signal_behind drives n (step_back s d))
    by_drive input is down at_gate = down s at_gate
    by_drive (latch next init) is down at_gate =
        let (m, leads, same) = down next at_gate in
        let step : step_back s (drive_in drives s) ≡ next = ap (step_back s) is in (
          suc m,
          record {
            passes = passes_more next m (subst (λ (d : Drive). IsTrue (is_latch d)) (sym is) refl) step leads.passes;
            arrives = subst (λ t. IsGate drives (signal_behind drives m t)) (sym step) leads.arrives;
          },
          ap (signal_behind drives m) step ∙ same,
        )
    by_drive (gate pins cover) is down at_gate = down s at_gate

-- ---- nodes and leaves

before_two : (back : ℕ) (x y : Node) → one_node.IsBefore x y → two_nodes.IsBefore (two_node back x) (two_node back y)
before_two back x y (inl less) = inl less
before_two back x y (inr same) = inr (same.0, amount_lt back x.advance y.advance same.1)

before_up : (back : ℕ) (x y : Node) → two_nodes.IsBefore (two_node back x) (two_node back y) → one_node.IsBefore x y
before_up back x y (inl less) = inl less
before_up back x y (inr same) = inr (same.0, amount_lt_up back x.advance y.advance same.1)

kind_two : (back : ℕ) (dr : Drive) (lag a : ℕ) → one.IsLeafOf back dr lag a → two.IsLeafOf back dr (amount back lag) (amount back a)
kind_two back input lag a h = amount_most back 0 a (omega (arith, h))
kind_two back (latch next init) lag a h = ap (amount back) h ∙ amount_floor back
kind_two back (gate pins cover) lag a h = amount_le back a lag h

kind_up : (back : ℕ) (dr : Drive) (lag a : ℕ) → two.IsLeafOf back dr (amount back lag) (amount back a) → one.IsLeafOf back dr lag a
kind_up back input lag a h = let most = amount_most_up back 0 a h in omega (arith, most)
kind_up back (latch next init) lag a h = same_amount back a 0 (h ∙ sym (amount_floor back))
kind_up back (gate pins cover) lag a h = amount_le_up back a lag h

module _ (back : ℕ) (c : Plain) (k d : ℕ) (tables : List Table) where
  has_two : (g lag : ℕ) (z : ℤ) → ((n : ℕ) → lag ≤ n → z ≤ℤ amount back n) → one.HasTable tables g lag → two.HasTable (map (two_table back) tables) g z
  has_two g lag z low (t, stands, of, most) = (two_table back t, contains-map (two_table back) tables t stands, of, low t.lag most)

  has_up : (g lag : ℕ) (z : ℤ) → ((n : ℕ) → z ≤ℤ amount back n → lag ≤ n) → two.HasTable (map (two_table back) tables) g z → one.HasTable tables g lag
  has_up g lag z up (t, stands, of, most) =
      let (u, among, is) = contains-unmap (two_table back) tables t stands in
      (u, among, subst (λ (v : TwoTable). v.gate ≡ g) (sym is) of, up u.lag (subst (λ (v : TwoTable). z ≤ℤ v.lag) (sym is) most))

  served_two : (dr : Drive) (x : Node) → one.IsServedOf dr c.drives tables x
      → two.IsServedOf back dr c.drives (map (two_table back) tables) (two_node back x)
  served_two input x h = tt
  served_two (latch next init) x h = λ g source. has_two g 0 (floor back) (λ n low. floor_le back n) (h g source)
  served_two (gate pins cover) x h = has_two x.signal x.advance (amount back x.advance) (λ n low. amount_le back x.advance n low) h

  served_up : (dr : Drive) (x : Node) → two.IsServedOf back dr c.drives (map (two_table back) tables) (two_node back x)
      → one.IsServedOf dr c.drives tables x
  served_up input x h = tt
  served_up (latch next init) x h = λ g source. has_up g 0 (floor back) (λ n low. omega arith) (h g source)
  served_up (gate pins cover) x h = has_up x.signal x.advance (amount back x.advance) (λ n low. amount_le_up back x.advance n low) h

  -- ---- tables

  table_two : (t : Table) → one.IsLawfulTable back c.drives k (d + back) tables t
      → two.IsLawfulTable back c.drives k d (map (two_table back) tables) (two_table back t)
  table_two t is = record {
    gate = is.gate;
    least = floor_le back t.lag;
    most = amount_most back d t.lag is.lag;
    few = subst (λ n. n ≤ k) (sym (length-map t.leaves (two_node back))) is.leaves.few;
    ascending = pairs_map one_node.IsBefore two_nodes.IsBefore (two_node back) (before_two back) t.leaves is.leaves.ascending;
    leaves = λ y stands.
        let (x, leaf, same) = contains-unmap (two_node back) t.leaves y stands in
        let kind = is.leaves.leaves x leaf in
        subst (λ (v : TwoNode). two.IsLeaf back c.drives (amount back t.lag) v) same
        record { signal = kind.signal; kind = kind_two back (drive_in c.drives x.signal) t.lag x.advance kind.kind };
    covers = covers_two back c.drives t.leaves (one.root t) is.covers;
    served = λ y stands.
        let (x, leaf, same) = contains-unmap (two_node back) t.leaves y stands in
        subst (λ (v : TwoNode). two.IsServedOf back (drive_in c.drives v.signal) c.drives (map (two_table back) tables) v) same
        (served_two (drive_in c.drives x.signal) x (is.served x leaf));
  }

  table_up : (t : Table) → two.IsLawfulTable back c.drives k d (map (two_table back) tables) (two_table back t)
      → one.IsLawfulTable back c.drives k (d + back) tables t
  table_up t is = record {
    gate = is.gate;
    lag = amount_most_up back d t.lag is.most;
    leaves = record {
      few = subst (λ n. n ≤ k) (length-map t.leaves (two_node back)) is.few;
      ascending = pairs_up one_node.IsBefore two_nodes.IsBefore (two_node back) (before_up back) t.leaves is.ascending;
      leaves = λ x leaf.
          let kind = is.leaves (two_node back x) (contains-map (two_node back) t.leaves x leaf) in
          record { signal = kind.signal; kind = kind_up back (drive_in c.drives x.signal) t.lag x.advance kind.kind };
    };
    covers = covers_up back c.drives t.leaves (one.root t) is.covers;
    served = λ x leaf. served_up (drive_in c.drives x.signal) x (is.served (two_node back x) (contains-map (two_node back) t.leaves x leaf));
  }

  -- ---- mappings

  pub mapping_two : one.IsLawfulFrom back (need_of back c) c k (d + back) tables → IsTwoWay c k d back (map (two_table back) tables)
  mapping_two is = record {
    ascending = pairs_map (λ (t u : Table). t.gate < u.gate) (λ (t u : TwoTable). t.gate < u.gate) (two_table back) (λ t u less. less) tables is.ascending;
    each = λ v stands.
        let (t, among, same) = contains-unmap (two_table back) tables v stands in
        subst (λ (u : TwoTable). two.IsLawfulTable back c.drives k d (map (two_table back) tables) u) same (table_two t (is.each t among));
    outputs = λ s latches stands leads.
        has_two (signal_behind c.drives latches s) (back - latches) (neg_ℤ (pos latches)) (λ n low. need_le back latches n low)
        (subst (λ n. one.HasTable tables (signal_behind c.drives latches s) n) (needs_count back c s latches leads)
        (is.outputs s stands (signal_behind c.drives latches s) (leads.arrives, (latches, refl))));
  }

  pub mapping_up : IsTwoWay c k d back (map (two_table back) tables) → one.IsLawfulFrom back (need_of back c) c k (d + back) tables
  mapping_up is = record {
    ascending = pairs_up (λ (t u : Table). t.gate < u.gate) (λ (t u : TwoTable). t.gate < u.gate) (two_table back) (λ t u less. less) tables is.ascending;
    each = λ t among. table_up t (is.each (two_table back t) (contains-map (two_table back) tables t among));
    outputs = λ s stands g source.
        let (n, behind) = source.1 in
        let (m, leads, same) = latches_down c.drives n s (subst (λ e. IsGate c.drives e) (sym behind) source.0) in
        subst (λ e. one.HasTable tables e (need_of back c s)) (same ∙ behind)
        (has_up (signal_behind c.drives m s) (need_of back c s) (neg_ℤ (pos m))
        (λ i low. subst (λ q. q ≤ i) (sym (needs_count back c s m leads)) (need_le_up back m i low)) (is.outputs s m stands leads));
  }

-- ---- every two-way mapping is such a one

abbrev two_table_by : ℕ → ℤ → List TwoNode → TwoTable
two_table_by g lag leaves = record { gate = g; lag = lag; leaves = leaves }

table_raised : (back : ℕ) (drives : List Drive) (k d : ℕ) (tables : List TwoTable) (t : TwoTable) → two.IsLawfulTable back drives k d tables t
    → (u : Table) × (two_table back u ≡ t)
table_raised back drives k d tables t is =
    let (lag, by_lag) = amount_raised back t.lag is.least in
    let (leaves, by_leaves) = unmap_all (two_node back) t.leaves (λ y leaf.
    let (through, way) = is.covers.reached y leaf in
    let (z, reached, same) = leads_up back drives (one_node.node_at lag t.gate) through y
    (subst (λ (a : ℤ). two_walk.LeadsTo back drives (two_nodes.node_at a t.gate) through y) by_lag way) in
    (z, same)) in (
      record { gate = t.gate; lag = lag; leaves = leaves },
      sym (ap (λ (a : ℤ). two_table_by t.gate a t.leaves) by_lag ∙ ap (λ (ls : List TwoNode). two_table_by t.gate (amount back lag) ls) by_leaves),
    )

pub mapping_raised : (c : Plain) (k d back : ℕ) (tables : List TwoTable) → IsTwoWay c k d back tables
    → (raised : List Table) × (tables ≡ map (two_table back) raised)
mapping_raised c k d back tables is = unmap_all (two_table back) tables (λ t stands. table_raised back c.drives k d tables t (is.each t stands))
