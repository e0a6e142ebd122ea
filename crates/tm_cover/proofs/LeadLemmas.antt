-- The gates that a settling is settled for: what the cut of one of them has as leaves leads to more of them, each with a label.
use Rattle.std.proofs.Common.{◌≡◌, ℕ, zero, suc, ◌-◌, ◌<◌, inl, inr, Bool, true, List, [], ◌∷◌, Option, None, Some, refl, sym, ◌∙◌, ap, subst}
use Rattle.std.specs.Prelude.{Contains, nat_eq}
use Rattle.std.proofs.lemmas.Bool.{and_parts}
use Rattle.tm_circuit.specs.Plain.{Plain, Drive, input, latch, gate, drive_in, is_input, is_latch, is_gate, pins_of}
use Rattle.tm_circuit.specs.Chain.{IsGate}
use Rattle.tm_circuit.specs.Sound.{IsSound}
use Rattle.tm_circuit.specs.Source.{step_back, IsSource}
use Rattle.tm_circuit.specs.declared.sources.Source.{Source}
use Rattle.tm_circuit.specs.declared.sources.Source.TheVariants.{Input, Gate}
use Rattle.tm_circuit.proofs.ListLemmas.{contains-none, contains-cases, contains-unmap}
use Rattle.tm_circuit.proofs.OneSource.{one_source}
use Rattle.tm_circuit.proofs.SourceLemmas.{source-back}
use Rattle.tm_unroll.specs.declared.node.Node.{Node}
use Rattle.tm_unroll.specs.Nodes.{node_at, reads_of, reads}
use Rattle.tm_unroll.specs.Walks.{LeadsTo}
use Rattle.tm_replay.specs.declared.label.Label.{Label}
use Rattle.tm_replay.specs.Labels.{label_in}
use Rattle.tm_replay.specs.Served.{source_of, source_serves, is_served_of, is_served}
use Rattle.tm_replay.specs.Replays.{FallsShort, HaveLost}
use Rattle.tm_replay.proofs.SourceLemmas.{source_found}
use Rattle.tm_merge.specs.Cuts.{IsCutWithin, cut_in}
use Rattle.tm_labels.specs.Settled.{Settling, IsSettled, IsSettledForOutputs}
use Rattle.tm_cover.specs.Chosen.{IsWanted, of_output, of_leaf}
use Rattle.tm_cover.proofs.LabelLemmas.{some_label, serving_label}

-- A gate is its own source.
pub own_source : (drives : List Drive) (g : ℕ) → IsGate drives g → IsSource drives g (Gate g)
own_source drives g is = (is, (0, refl))

pub own_only : (drives : List Drive) (g h : ℕ) → IsGate drives g → IsSource drives g (Gate h) → g ≡ h
own_only drives g h is source = let one : Gate g ≡ Gate h = one_source drives g (Gate g) (Gate h) (own_source drives g is) source in cc

input_none : (drives : List Drive) (s h : ℕ) → is_input (drive_in drives s) ≡ true → IsSource drives s (Gate h) → ⊥
input_none drives s h is source = let one : Input s ≡ Gate h = one_source drives s (Input s) (Gate h) (is, (0, refl)) source in cc

-- The source gate of a leaf that is served has a label.
pub leaf_label : (base : ℕ) (c : Plain) → IsSound c → (labels : List (Option Label)) (within : ℕ) (x : Node) (h : ℕ)
    → is_served base c.drives labels within x ≡ true → IsSource c.drives x.signal (Gate h) → (y : Label) × (label_in labels h ≡ Some y)
leaf_label base c sound labels within x h served source = by_drive (drive_in c.drives x.signal) refl served
  where
    by_drive : (dr : Drive) → drive_in c.drives x.signal ≡ dr → is_served_of base dr c.drives labels within x ≡ true → (y : Label) × (label_in labels h ≡ Some y)
    by_drive input is serves = absurd (input_none c.drives x.signal h (ap is_input is) source)
    by_drive (latch next init) is serves =
        let parts = and_parts (nat_eq x.advance 0) (source_serves labels (source_of c.drives x.signal)) serves in
        let found : source_of c.drives x.signal ≡ Gate h = sym (source_found c sound x.signal (Gate h) source) in
        some_label (label_in labels h) (subst (λ (e : Source). source_serves labels e ≡ true) found parts.1)
    by_drive (gate pins cover) is serves =
        let same : x.signal ≡ h = own_only c.drives x.signal h (ap is_gate is) source in
        let (y, has) = serving_label (label_in labels x.signal) x.advance within serves in
        (y, ap (λ s. label_in labels s) (sym same) ∙ has)

-- A gate that counts, with its label and its cut.
pub record IsReady (base : ℕ) (c : Plain) (k : ℕ) (s : Settling) (counts : ℕ → Bool) (g : ℕ) : Type 0 where
  pub gate : IsGate c.drives g
  pub counted : counts g ≡ true
  pub label : Label
  pub now : label_in s.labels g ≡ Some label
  pub cut : IsCutWithin base c k s.labels (label.arrival - 1) (node_at label.lag g) (cut_in s.cuts g)

module _ (base : ℕ) (c : Plain) (k d : ℕ) (s : Settling) (sound : IsSound c) (settled : IsSettledForOutputs base c k d s) where
  -- Where a signal's source is a gate, it counts.
  abbrev LeadsOn : ℕ → Type 0
  LeadsOn t = (h : ℕ) → IsSource c.drives t (Gate h) → settled.counts h ≡ true

  read_leads_on : (x y : Node) → Contains (reads c.drives x) y → LeadsOn x.signal → LeadsOn y.signal
  read_leads_on x y read leads = by_drive (drive_in c.drives x.signal) refl x.advance read
    where
      by_drive : (dr : Drive) → drive_in c.drives x.signal ≡ dr → (a : ℕ) → Contains (reads_of dr a) y → LeadsOn y.signal
      by_drive input is a r = absurd (contains-none y r)
      by_drive (latch next init) is zero r = absurd (contains-none y r)
      by_drive (latch next init) is (suc less) r =
          elim (contains-cases (node_at less next) [] y r) [
            | inr none ↦ absurd (contains-none y none)
            | inl at ↦
                let next_is : y.signal ≡ step_back x.signal (drive_in c.drives x.signal) = ap (λ (n : Node). n.signal) (sym at) ∙ ap (λ (e : Drive). step_back x.signal e) (sym is) in
                λ h source. leads h (source-back c.drives x.signal (Gate h) (ap is_latch is) (subst (λ t. IsSource c.drives t (Gate h)) next_is source))
          ]
      by_drive (gate pins cover) is a r =
          let (p, pin, at) = contains-unmap (λ q. node_at a q) pins y r in
          let stands : Contains (pins_of (drive_in c.drives x.signal)) y.signal =
          subst (λ (e : Drive). Contains (pins_of e) y.signal) (sym is) (subst (λ (n : Node). Contains pins n.signal) at pin) in
          λ h source. settled.pins x.signal y.signal h (leads x.signal (own_source c.drives x.signal (ap is_gate is))) stands source

  reached_leads_on : (x y : Node) (through : List Node) → LeadsTo c.drives x through y → LeadsOn x.signal → LeadsOn y.signal
  reached_leads_on x y [] read leads = read_leads_on x y read leads
  reached_leads_on x y (z ∷ through) way leads = reached_leads_on z y through way.1 (read_leads_on x z way.0 leads)

  -- A gate that counts leads on to itself.
  gate_leads_on : (g : ℕ) → IsGate c.drives g → settled.counts g ≡ true → LeadsOn g
  gate_leads_on g is counted h source = subst (λ i. settled.counts i ≡ true) (own_only c.drives g h is source) counted

  -- A gate that counts and has a label is ready.
  pub ready : (g : ℕ) (x : Label) → IsGate c.drives g → settled.counts g ≡ true → label_in s.labels g ≡ Some x → IsReady base c k s settled.counts g
  ready g x is counted has = record { gate = is; counted = counted; label = x; now = has; cut = settled.settled.cuts g x counted has }

  -- The source gate of a leaf of a gate that is ready is ready.
  pub leaf_ready : (g h : ℕ) (y : Node) → IsReady base c k s settled.counts g → Contains (cut_in s.cuts g) y → IsSource c.drives y.signal (Gate h)
      → IsReady base c k s settled.counts h
  leaf_ready g h y is leaf source =
      let way = is.cut.covers.reached y leaf in
      let counted = reached_leads_on (node_at is.label.lag g) y way.0 way.1 (gate_leads_on g is.gate is.counted) h source in
      let (x, has) = leaf_label base c sound s.labels (is.label.arrival - 1) y h (is.cut.served y leaf) source in
      ready h x source.0 counted has

  module _ (need : ℕ → ℕ) (kept : HaveLost need c s.labels → ⊥) where
    -- So is the source gate of an output.
    pub output_ready : (o g : ℕ) → Contains c.outputs o → IsSource c.drives o (Gate g) → IsReady base c k s settled.counts g
    output_ready o g stands source = by_label (label_in s.labels g) refl
      where
        by_label : (x : Option Label) → label_in s.labels g ≡ x → IsReady base c k s settled.counts g
        by_label None none = absurd (kept (o, stands, (g, source, subst (λ (y : Option Label). FallsShort y (need o)) (sym none) tt)))
        by_label (Some x) has = ready g x source.0 (settled.outputs o g stands source) has

    -- Each wanted gate is ready.
    pub wanted_ready : {g : ℕ} → IsWanted c s.cuts g → IsReady base c k s settled.counts g
    wanted_ready (of_output o h stands source) = output_ready o h stands source
    wanted_ready (of_leaf h i x wanted leaf source) = leaf_ready h i x (wanted_ready wanted) leaf source

    -- No output needs more lag than its source gate has.
    pub output_lag : (o g : ℕ) (x : Label) → Contains c.outputs o → IsSource c.drives o (Gate g) → label_in s.labels g ≡ Some x → x.lag < need o → ⊥
    output_lag o g x stands source has short =
        kept (o, stands, (g, source, subst (λ (y : Option Label). FallsShort y (need o)) (sym has) short))

-- A settling of all gates is one of those that lead to an output.
pub settled_for_outputs : (base : ℕ) (c : Plain) (k d : ℕ) (s : Settling) → IsSettled base c k d s → IsSettledForOutputs base c k d s
settled_for_outputs base c k d s settled = record {
  counts = λ g. true;
  outputs = λ o g stands source. refl;
  pins = λ g p h counted pin source. refl;
  settled = settled;
}
