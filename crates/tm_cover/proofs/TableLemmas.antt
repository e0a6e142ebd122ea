-- Tables at the labels of gates that are ready are a lawful mapping within the target, where the gates have the source of each
-- output among them and the source of each leaf.
use Rattle.std.proofs.Common.{◌≡◌, ℕ, ◌+◌, ◌-◌, ◌<◌, ◌≤◌, inl, inr, Bool, true, List, [], ◌∷◌, length, Option, Some, refl, sym, ◌∙◌, ap, subst, arith}
use Rattle.std.specs.Prelude.{Contains, AllPairs, nat_eq}
use Rattle.std.proofs.lemmas.Bool.{cases_lt, and_parts, leb-true, eqb-true}
use Rattle.tm_circuit.specs.Plain.{Plain, Drive, input, latch, gate, drive_in, is_gate}
use Rattle.tm_circuit.specs.Chain.{IsGate}
use Rattle.tm_circuit.specs.Sound.{IsSound}
use Rattle.tm_circuit.specs.Source.{IsSource}
use Rattle.tm_circuit.specs.declared.sources.Source.TheVariants.{Gate}
use Rattle.tm_unroll.specs.declared.node.Node.{Node}
use Rattle.tm_unroll.specs.Nodes.{node_at, IsBefore}
use Rattle.tm_unroll.specs.Walks.{Covers}
use Rattle.tm_unroll.specs.Leaves.{MayBeLeafOf}
use Rattle.tm_unroll.specs.Mappings.{Table, root, IsServedOf, IsLawfulTable, IsLawfulFrom}
use Rattle.tm_unroll.specs.Chains.{IsChain, HasChainsWithin}
use Rattle.tm_unroll.proofs.JudgeLemmas.{gate_within}
use Rattle.tm_unroll.proofs.LeafLemmas.{reached_leaf, reached_inside}
use Rattle.tm_replay.specs.declared.label.Label.{Label}
use Rattle.tm_replay.specs.Labels.{label_in, IsLabelFor}
use Rattle.tm_replay.specs.Served.{source_of, source_serves, label_serves, is_served_of, is_served}
use Rattle.tm_replay.specs.Replays.{HaveLost}
use Rattle.tm_merge.specs.Cuts.{cut_in}
use Rattle.tm_labels.specs.Settled.{Settling, IsSettledForOutputs}
use Rattle.tm_cover.specs.Chosen.{IsWanted, of_output, of_leaf, IsTableAt, AreChosen}
use Rattle.tm_cover.specs.Wanted.{AreSignals, AreLabelled}
use Rattle.tm_cover.proofs.LabelLemmas.{serves_low, serves_early, label_for}
use Rattle.tm_cover.proofs.LeadLemmas.{IsReady, own_source, wanted_ready, output_lag}

-- Gates that have the source of each output and of each leaf among them, each of them ready.
pub record AreClosed (base : ℕ) (c : Plain) (k : ℕ) (s : Settling) (counts : ℕ → Bool) (IsOne : ℕ → Type 0) : Type 0 where
  pub outputs : (o g : ℕ) → Contains c.outputs o → IsSource c.drives o (Gate g) → IsOne g
  pub leaves : (g h : ℕ) (x : Node) → IsOne g → Contains (cut_in s.cuts g) x → IsSource c.drives x.signal (Gate h) → IsOne h
  pub ready : (g : ℕ) → IsOne g → IsReady base c k s counts g

-- The tables of just these gates at their labels.
pub record AreTablesOf (s : Settling) (IsOne : ℕ → Type 0) (tables : List Table) : Type 0 where
  pub ascending : AllPairs (λ t u. t.gate < u.gate) tables
  pub each : (t : Table) → Contains tables t → IsTableAt s t × IsOne t.gate
  pub all : (g : ℕ) → IsOne g → (t : Table) × Contains tables t × (t.gate ≡ g)

-- A table whose leaves are served in time for the label of its gate.
record IsTimely (base : ℕ) (c : Plain) (k : ℕ) (s : Settling) (t : Table) : Type 0 where
  gate : IsGate c.drives t.gate
  label : Label
  now : label_in s.labels t.gate ≡ Some label
  lag : t.lag ≡ label.lag
  few : length t.leaves ≤ k
  ascending : AllPairs IsBefore t.leaves
  covers : Covers c.drives t.leaves (root t)
  served : (x : Node) → Contains t.leaves x → is_served base c.drives s.labels (label.arrival - 1) x ≡ true

timely : (base : ℕ) (c : Plain) (k : ℕ) (s : Settling) (counts : ℕ → Bool) (t : Table) → IsTableAt s t → IsReady base c k s counts t.gate → IsTimely base c k s t
timely base c k s counts t at is =
    let one : Some is.label ≡ Some at.label = sym is.now ∙ at.now in
    let same : is.label ≡ at.label = cc in
    let lag : is.label.lag ≡ t.lag = ap (λ (x : Label). x.lag) same ∙ sym at.lag in
    let leaves : cut_in s.cuts t.gate ≡ t.leaves = sym at.leaves in
    record {
      gate = is.gate;
      label = is.label;
      now = is.now;
      lag = sym lag;
      few = subst (λ (l : List Node). length l ≤ k) leaves is.cut.few;
      ascending = subst (λ (l : List Node). AllPairs IsBefore l) leaves is.cut.ascending;
      covers = subst (λ a. Covers c.drives t.leaves (node_at a t.gate)) lag (subst (λ (l : List Node). Covers c.drives l (node_at is.label.lag t.gate)) leaves is.cut.covers);
      served = λ x leaf. is.cut.served x (subst (λ (l : List Node). Contains l x) (sym leaves) leaf);
    }

-- What is served may be a leaf.
may_be_leaf : (base : ℕ) (dr : Drive) (drives : List Drive) (labels : List (Option Label)) (within : ℕ) (x : Node)
    → is_served_of base dr drives labels within x ≡ true → MayBeLeafOf base dr x.advance
may_be_leaf base input drives labels within x served = leb-true x.advance base served
may_be_leaf base (latch next init) drives labels within x served =
    eqb-true x.advance 0 (and_parts (nat_eq x.advance 0) (source_serves labels (source_of drives x.signal)) served).0
may_be_leaf base (gate pins cover) drives labels within x served = tt

-- A gate that is served is served by its label.
gate_served : (base : ℕ) (dr : Drive) (drives : List Drive) (labels : List (Option Label)) (within : ℕ) (x : Node)
    → is_gate dr ≡ true → is_served_of base dr drives labels within x ≡ true → label_serves (label_in labels x.signal) x.advance within ≡ true
gate_served base input drives labels within x is served = cc
gate_served base (latch next init) drives labels within x is served = cc
gate_served base (gate pins cover) drives labels within x is served = served

module _ (base : ℕ) (need : ℕ → ℕ) (c : Plain) (k d : ℕ) (s : Settling) (sound : IsSound c) (settled : IsSettledForOutputs base c k d s) (kept : HaveLost need c s.labels → ⊥)
    (IsOne : ℕ → Type 0) (tables : List Table) (closed : AreClosed base c k s settled.counts IsOne) (are : AreTablesOf s IsOne tables) where
  in_time : (t : Table) → Contains tables t → IsTimely base c k s t
  in_time t stands = timely base c k s settled.counts t (are.each t stands).0 (closed.ready t.gate (are.each t stands).1)

  -- The label of a table is one for the target.
  table_label : (t : Table) (stands : Contains tables t) → IsLabelFor d s.target (in_time t stands).label
  table_label t stands =
      let led = settled.settled.led in
      label_for base c k d s.target s.drops s.labels t.gate (in_time t stands).label led.replays led.led (in_time t stands).now

  -- The source gate of a leaf has a table.
  leaf_table : (t : Table) (x : Node) (h : ℕ) → Contains tables t → Contains t.leaves x → IsSource c.drives x.signal (Gate h)
      → (u : Table) × Contains tables u × (u.gate ≡ h)
  leaf_table t x h stands leaf source =
      let (at, is) = are.each t stands in
      are.all h (closed.leaves t.gate h x is (subst (λ (l : List Node). Contains l x) at.leaves leaf) source)

  leaf_is_served : (t : Table) (x : Node) → Contains tables t → Contains t.leaves x → IsServedOf (drive_in c.drives x.signal) c.drives tables x
  leaf_is_served t x stands leaf = by_drive (drive_in c.drives x.signal) refl ((in_time t stands).served x leaf)
    where
      by_drive : (dr : Drive) → drive_in c.drives x.signal ≡ dr → is_served_of base dr c.drives s.labels ((in_time t stands).label.arrival - 1) x ≡ true
          → IsServedOf dr c.drives tables x
      by_drive input is served = tt
      by_drive (latch next init) is served = λ g source. let (u, is_table, same) = leaf_table t x g stands leaf source in (u, is_table, same, omega arith)
      by_drive (gate pins cover) is served =
          let (u, is_table, same) = leaf_table t x x.signal stands leaf (own_source c.drives x.signal (ap is_gate is)) in
          let own = in_time u is_table in
          let has : label_in s.labels x.signal ≡ Some own.label = ap (λ g. label_in s.labels g) (sym same) ∙ own.now in
          let low = serves_low (label_in s.labels x.signal) own.label x.advance ((in_time t stands).label.arrival - 1) has served in
          let lag = own.lag in
          (u, is_table, same, omega (arith, low, lag))

  lawful_table : (t : Table) → Contains tables t → IsLawfulTable base c.drives k d tables t
  lawful_table t stands =
      let is = in_time t stands in
      let low = (table_label t stands).lag in
      let lag = is.lag in
      record {
        gate = is.gate;
        lag = omega (arith, low, lag);
        leaves = record {
          few = is.few;
          ascending = is.ascending;
          leaves = λ x leaf. reached_leaf base c (root t) x sound (gate_within c.drives t.gate is.gate) (is.covers.reached x leaf)
              (may_be_leaf base (drive_in c.drives x.signal) c.drives s.labels (is.label.arrival - 1) x (is.served x leaf));
        };
        covers = is.covers;
        served = λ x leaf. leaf_is_served t x stands leaf;
      }

  pub tables_lawful : IsLawfulFrom base need c k d tables
  tables_lawful = record {
    ascending = are.ascending;
    each = lawful_table;
    outputs = λ o stands g source.
        let (t, is_table, same) = are.all g (closed.outputs o g stands source) in
        let is = in_time t is_table in
        let has : label_in s.labels g ≡ Some is.label = ap (λ h. label_in s.labels h) (sym same) ∙ is.now in
        elim (cases_lt is.label.lag (need o)) [
          | inl short ↦ absurd (output_lag base c k d s sound settled need kept o g is.label stands source has short)
          | inr enough ↦ let lag = is.lag in (t, is_table, same, omega (arith, enough, lag))
        ];
  }

  -- The table of a leaf arrives before the table that has the leaf.
  leaf_earlier : (t u : Table) (h : Contains tables t) (i : Contains tables u) → Contains u.leaves (root t) → (in_time t h).label.arrival < (in_time u i).label.arrival
  leaf_earlier t u h i leaf =
      let first = in_time t h in
      let second = in_time u i in
      let served = gate_served base (drive_in c.drives t.gate) c.drives s.labels (second.label.arrival - 1) (root t) first.gate (second.served (root t) leaf) in
      let early = serves_early (label_in s.labels t.gate) first.label t.lag (second.label.arrival - 1) first.now first.lag served in
      let some = (table_label u i).some in
      omega (arith, early, some)

  chain_low : (t : Table) (rest : List Table) (chain : IsChain tables (t ∷ rest)) → length rest + (in_time t chain.0).label.arrival ≤ s.target
  chain_low t [] chain = let most = (table_label t chain.0).most in omega (arith, most)
  chain_low t (u ∷ rest) chain =
      let ih = chain_low u rest chain.2 in
      let earlier = leaf_earlier t u chain.0 chain.2.0 chain.1 in
      omega (arith, ih, earlier)

  pub tables_within : HasChainsWithin tables s.target
  tables_within [] chain = omega arith
  tables_within (t ∷ rest) chain =
      let low = chain_low t rest chain in
      let some = (table_label t chain.0).some in
      omega (arith, low, some)

-- ---- the wanted gates

module _ (base : ℕ) (need : ℕ → ℕ) (c : Plain) (k d : ℕ) (s : Settling) (sound : IsSound c) (settled : IsSettledForOutputs base c k d s) (kept : HaveLost need c s.labels → ⊥) where
  wanted_closed : AreClosed base c k s settled.counts (λ g. IsWanted c s.cuts g)
  wanted_closed = record {
    outputs = λ o g stands source. of_output o g stands source;
    leaves = λ g h x wanted leaf source. of_leaf g h x wanted leaf source;
    ready = λ g wanted. wanted_ready base c k d s sound settled need kept wanted;
  }

  -- Wanted gates and the leaves of their cuts are signals.
  pub wanted_signals : AreSignals c s.cuts
  wanted_signals = record {
    gates = λ g wanted. gate_within c.drives g (wanted_closed.ready g wanted).gate;
    leaves = λ g x wanted leaf.
        let is = wanted_closed.ready g wanted in
        (reached_inside c (node_at is.label.lag g) x sound (gate_within c.drives g is.gate) (is.cut.covers.reached x leaf)).signal;
  }

  pub wanted_labelled : AreLabelled c s
  wanted_labelled g wanted = let is = wanted_closed.ready g wanted in (is.label, is.now)

  chosen_tables : (tables : List Table) → AreChosen c s tables → AreTablesOf s (λ g. IsWanted c s.cuts g) tables
  chosen_tables tables chosen = record { ascending = chosen.ascending; each = chosen.each; all = chosen.all }

  pub chosen_lawful : (tables : List Table) → AreChosen c s tables → IsLawfulFrom base need c k d tables
  chosen_lawful tables chosen = tables_lawful base need c k d s sound settled kept (λ g. IsWanted c s.cuts g) tables wanted_closed (chosen_tables tables chosen)

  pub chosen_within : (tables : List Table) → AreChosen c s tables → HasChainsWithin tables s.target
  chosen_within tables chosen = tables_within base need c k d s sound settled kept (λ g. IsWanted c s.cuts g) tables wanted_closed (chosen_tables tables chosen)
