-- A replay refutes: at each of its moments the tables of a lawful mapping of period at most the target are no better than the labels.
use Rattle.std.proofs.Common.{◌≡◌, ℕ, zero, suc, ◌+◌, ◌-◌, ◌<◌, ◌≤◌, inl, inr, ◌⊎◌, Bool, true, false, ◌&&◌, List, [], ◌∷◌, ◌++◌, length, Option, None, Some, refl, sym, ◌∙◌, ap, subst, arith}
use Rattle.std.specs.Prelude.{is_some, Contains, nat_lt, nat_le, nat_eq, slice_index_or}
use Rattle.std.proofs.lemmas.Grind.{common_steps}
use Rattle.std.proofs.lemmas.Bool.{cases_lt, cases_eq, cases_Bool, cond_both, and_parts, and_cases, or_parts, ltb-true, ltb-false, leb-true, leb-false, eqb-false}
use Rattle.std.proofs.lemmas.List.{get_or-set_same, get_or-set_other, get_or_past}
use Rattle.tm_circuit.specs.Plain.{Plain, Drive, input, latch, gate, drive_in, is_gate}
use Rattle.tm_circuit.specs.Source.{IsSource}
use Rattle.tm_circuit.specs.declared.sources.Source.{Source}
use Rattle.tm_circuit.specs.declared.sources.Source.TheVariants.{Input, Gate, Ring}
use Rattle.tm_circuit.specs.Sound.{IsSound}
use Rattle.tm_circuit.proofs.ListLemmas.{contains-first, contains-rest, contains-cases, contains-none}
use Rattle.tm_flow.specs.Nets.{IsIndexWalk}
use Rattle.tm_flow.specs.Cuts.{IsBarrier}
use Rattle.tm_unroll.specs.declared.node.Node.{Node}
use Rattle.tm_unroll.specs.Nodes.{node_at}
use Rattle.tm_unroll.specs.Unrolled.{is_node, unrolled}
use Rattle.tm_unroll.specs.NetCuts.{IsNode, HasNoCoverBy}
use Rattle.tm_unroll.specs.Mappings.{Table, root, IsLeafOf, IsServedOf, IsLawfulFrom}
use Rattle.tm_unroll.specs.Chains.{IsChain, HasChainsWithin, IsPeriodOf}
use Rattle.tm_unroll.proofs.ReadLemmas.{same_node}
use Rattle.tm_unroll.proofs.NetLemmas.{excludes_covers}
use Rattle.tm_replay.specs.declared.label.Label.{Label}
use Rattle.tm_replay.specs.Labels.{label, label_in, below_lag, next_below, first_label, first_labels, ArrivesLate, IsNoBetter}
use Rattle.tm_replay.specs.Served.{source_of, label_serves, source_serves, is_served_of, is_served, most_advance, served}
use Rattle.tm_replay.specs.Replays.{Drop, IsLawfulDrop, lowered, Replays, labels_after, FallsShort, HaveLost, RefutesFrom, AreNoBetter}
use Rattle.tm_replay.proofs.SourceLemmas.{source_is}

-- ---- barriers stand at nodes

node_named : (most : ℕ) (c : Plain) (x : Node) → is_node most c x ≡ true → IsNode most c x
node_named most c x is =
    let parts = and_parts (nat_lt x.signal (length c.drives)) (nat_le x.advance most) is in
    record { signal = ltb-true _ _ parts.0; advance = leb-true _ _ parts.1 }

-- A walk by indices begins at a node of the net.
walk_node : (most : ℕ) (c : Plain) (may_cut : Node → Bool) (x : Node) (w : List ℕ) → IsIndexWalk (unrolled most c may_cut) x w → IsNode most c x
walk_node most c may_cut x [] walk = node_named most c x (and_parts (is_node most c x) _ walk).0
walk_node most c may_cut x (i ∷ w) walk =
    elim (cases_Bool (is_node most c x)) [
      | inl is ↦ node_named most c x is
      | inr no_node ↦ absurd (let read = walk.0 in grind (arith, common_steps))
    ]

pub barrier_node : (most : ℕ) (c : Plain) (may_cut : Node → Bool) (x : Node) (k : ℕ) (ws : List (List ℕ)) → IsBarrier (unrolled most c may_cut) x k ws → IsNode most c x
barrier_node most c may_cut x k ws (inl free) = walk_node most c may_cut x free.0 free.2.walk
barrier_node most c may_cut x k [] (inr flow) = let none = flow.0 in absurd (omega (arith, none))
barrier_node most c may_cut x k (w ∷ ws) (inr flow) = walk_node most c may_cut x w flow.1.walks.0

-- ---- what is not served

-- All items pass a test, or some item fails it.
all_or_one : {X : Type 0} (p : X → Bool) (xs : List X) → ((x : X) → Contains xs x → p x ≡ true) ⊎ ((x : X) × Contains xs x × (p x ≡ false))
all_or_one p [] = inl (λ x none. absurd (contains-none x none))
all_or_one {X} p (y ∷ xs) =
    elim (cases_Bool (p y)) [
      | inr fails ↦ inr (y, contains-first y xs, fails)
      | inl passes ↦ elim (all_or_one p xs) [
        | inr (x, stands, fails) ↦ inr (x, contains-rest y xs x stands, fails)
        | inl all ↦ inl (λ x stands. elim (contains-cases y xs x stands) [ inl is ↦ subst (λ (z : X). p z ≡ true) is passes | inr later ↦ all x later ])
      ]
    ]

-- A source that does not serve is a gate without a label.
source_lost : (labels : List (Option Label)) (e : Source) → source_serves labels e ≡ false → (g : ℕ) × (e ≡ Gate g) × (label_in labels g ≡ None)
source_lost labels (Input s) lost = cc
source_lost labels Ring lost = cc
source_lost labels (Gate g) lost = (g, refl, no_label (label_in labels g) lost)
  where
    no_label : (x : Option Label) → is_some x ≡ false → x ≡ None
    no_label None h = refl
    no_label (Some x) h = cc

-- The first label of a signal is that of its drive.
pub label_first : (d target : ℕ) (drives : List Drive) (s : ℕ) → label_in (first_labels drives d target) s ≡ first_label d target (drive_in drives s)
label_first d target drives s = by_default drives s s
  where
    by_default : (ds : List Drive) (i next : ℕ) → label_in (first_labels ds d target) i ≡ first_label d target (slice_index_or ds i (latch next false))
    by_default [] i next = refl
    by_default (x ∷ ds) zero next = refl
    by_default (x ∷ ds) (suc i) next = by_default ds i next

-- The first drops of a replay replay.
front : (base : ℕ) (c : Plain) (k target : ℕ) (labels : List (Option Label)) (earlier later : List Drop) → Replays base c k target labels (earlier ++ later)
    → Replays base c k target labels earlier
front base c k target labels [] later replays = tt
front base c k target labels (drop ∷ earlier) later replays = (replays.0, front base c k target (lowered target labels drop) earlier later replays.1)

-- What has a label stands among the labels.
pub has_place : (labels : List (Option Label)) (s : ℕ) (x : Label) → label_in labels s ≡ Some x → s < length labels
has_place labels s x has = elim (cases_lt s (length labels)) [ inl within ↦ within | inr out ↦ absurd (let none : label_in labels s ≡ None = get_or_past labels s None out in cc) ]

module _ (base : ℕ) (need : ℕ → ℕ) (c : Plain) (k d : ℕ) (tables : List Table) (sound : IsSound c) (lawful : IsLawfulFrom base need c k d tables) where
  -- A table of a gate whose label does not serve it at an advance arrives late, and has just this lag.
  late_table : (u : Table) (x : Option Label) (advance within : ℕ) → IsNoBetter tables u x → advance ≤ u.lag → label_serves x advance within ≡ false
      → (u.lag ≡ advance) × ArrivesLate tables u (suc within)
  late_table u None advance within behind least lost = absurd behind
  late_table u (Some x) advance within behind least lost =
      let parts = or_parts (nat_lt advance x.lag) (nat_eq x.lag advance && nat_le x.arrival within) lost in
      let low : x.lag ≤ advance = ltb-false advance x.lag parts.0 in
      elim behind [
        | inl less ↦ absurd (omega (arith, low, least, less))
        | inr (same, (before, chain, many)) ↦
            let lag : x.lag ≡ advance = omega (arith, low, least, same) in
            let late : within < x.arrival = elim (and_cases (nat_eq x.lag advance) (nat_le x.arrival within) parts.1) [
              | inl other ↦ absurd (eqb-false x.lag advance other lag)
              | inr past ↦ leb-false x.arrival within past
            ] in
            (omega (arith, low, least, same), (before, chain, omega (arith, late, many)))
      ]

  -- A leaf that is not served is the root of a table that arrives late.
  late_leaf : (labels : List (Option Label)) → AreNoBetter tables labels → (lag within : ℕ) (y : Node) (dr : Drive)
      → IsLeafOf base dr lag y.advance → IsServedOf dr c.drives tables y → is_served_of base dr c.drives labels within y ≡ false
      → (u : Table) × Contains tables u × (root u ≡ y) × ArrivesLate tables u (suc within)
  late_leaf labels behind lag within y input kind has lost =
      absurd (let high : base < y.advance = leb-false y.advance base lost in omega (arith, kind, high))
  late_leaf labels behind lag within y (latch next init) kind has lost =
      elim (and_cases (nat_eq y.advance 0) (source_serves labels (source_of c.drives y.signal)) lost) [
        | inl ahead ↦ absurd (eqb-false y.advance 0 ahead kind)
        | inr none ↦
            let (g, is, no_label) = source_lost labels (source_of c.drives y.signal) none in
            let (u, stands, gate_is, least) = has g (subst (λ (e : Source). IsSource c.drives y.signal e) is (source_is c sound y.signal)) in
            let unlabelled : label_in labels u.gate ≡ None = ap (λ s. label_in labels s) gate_is ∙ no_label in
            absurd (subst (λ (x : Option Label). IsNoBetter tables u x) unlabelled (behind u stands))
      ]
  late_leaf labels behind lag within y (gate pins cover) kind has lost =
      let (u, stands, gate_is, least) = has in
      let own : IsNoBetter tables u (label_in labels y.signal) = subst (λ s. IsNoBetter tables u (label_in labels s)) gate_is (behind u stands) in
      let (lag_is, late) = late_table u (label_in labels y.signal) y.advance within own least lost in
      (u, stands, same_node (root u) y gate_is lag_is, late)

  -- A chain goes on by a table that has the last root as a leaf.
  goes_on : (before : List Table) (u t : Table) → IsChain tables (before ++ u ∷ []) → Contains t.leaves (root u) → Contains tables t
      → IsChain tables ((before ++ u ∷ []) ++ t ∷ [])
  goes_on [] u t chain leaf stands = (chain.0, leaf, (stands, tt, tt))
  goes_on (b ∷ []) u t chain leaf stands = (chain.0, chain.1, goes_on [] u t chain.2 leaf stands)
  goes_on (b ∷ a ∷ before) u t chain leaf stands = (chain.0, chain.1, goes_on (a ∷ before) u t chain.2 leaf stands)

  -- A table from whose root a barrier stands arrives later than what is served.
  later : (labels : List (Option Label)) → AreNoBetter tables labels → (within : ℕ) (t : Table) (ws : List (List ℕ)) → Contains tables t
      → IsBarrier (served base c labels within) (root t) k ws → ArrivesLate tables t (suc (suc within))
  later labels behind within t ws stands barrier =
      let table = lawful.each t stands in
      elim (all_or_one (λ x. is_served base c.drives labels within x) t.leaves) [
        | inl all ↦
            let node = barrier_node most_advance c (λ x. is_served base c.drives labels within x) (root t) k ws barrier in
            let none : HasNoCoverBy c (λ x. is_served base c.drives labels within x) (root t) k =
            excludes_covers most_advance c (λ x. is_served base c.drives labels within x) sound (root t) k ws node barrier in
            absurd (none t.leaves table.leaves.few all table.covers)
        | inr (y, leaf, lost) ↦
            let (u, is_table, is, (before, chain, many)) = late_leaf labels behind t.lag within y (drive_in c.drives y.signal) (table.leaves.leaves y leaf).kind (table.served y leaf) lost in
            (before ++ u ∷ [], goes_on before u t chain (subst (λ (x : Node). Contains t.leaves x) (sym is) leaf) stands, more before u within many)
      ]
    where
      more : (before : List Table) (u : Table) (n : ℕ) → suc n ≤ length before + 1 → suc (suc n) ≤ length (before ++ u ∷ []) + 1
      more before u n many = grind (arith, common_steps)

  module _ (target : ℕ) (short : HasChainsWithin tables target) where
    -- A table that is no better than a label, and arrives later where it has its lag, is no better than the one next below.
    after_drop : (t : Table) (lag arrival : ℕ) → Contains tables t → (t.lag < lag) ⊎ ((t.lag ≡ lag) × ArrivesLate tables t (arrival + 1))
        → IsNoBetter tables t (next_below target (label lag arrival))
    after_drop t lag arrival stands behind =
        cond_both (nat_lt arrival target) (Some (label lag (arrival + 1))) (below_lag lag) (λ x. IsNoBetter tables t x) (λ in_time. behind) (λ late. lag_falls lag (lower (ltb-false arrival target late)))
      where
        lower : target ≤ arrival → t.lag < lag
        lower late =
            elim behind [
              | inl less ↦ less
              | inr (same, (before, chain, many)) ↦
                  let long = short (before ++ t ∷ []) chain in
                  absurd (grind (arith, common_steps))
            ]

        lag_falls : (l : ℕ) → t.lag < l → IsNoBetter tables t (below_lag l)
        lag_falls zero less = absurd (omega arith)
        lag_falls (suc l) less =
            elim (cases_lt t.lag l) [
              | inl lower_still ↦ inl lower_still
              | inr high ↦ inr (omega arith, ([], (stands, tt, tt), omega arith))
            ]

    -- A lawful drop keeps all tables no better than the labels.
    drop_keeps : (labels : List (Option Label)) (drop : Drop) → AreNoBetter tables labels → IsLawfulDrop base c k target labels drop
        → AreNoBetter tables (lowered target labels drop)
    drop_keeps labels drop behind is t stands =
        elim (cases_eq t.gate drop.gate) [
          | inr other ↦
              let kept : label_in (lowered target labels drop) t.gate ≡ label_in labels t.gate = get_or-set_other labels drop.gate t.gate (next_below target (label drop.lag drop.arrival)) None other in
              subst (λ (x : Option Label). IsNoBetter tables t x) (sym kept) (behind t stands)
          | inl same ↦
              let set_to : label_in (lowered target labels drop) t.gate ≡ next_below target (label drop.lag drop.arrival) =
              ap (λ s. label_in (lowered target labels drop) s) same ∙ get_or-set_same labels drop.gate (next_below target (label drop.lag drop.arrival)) None (has_place labels drop.gate (label drop.lag is.order.arrived) is.order.now) in
              let was : IsNoBetter tables t (Some (label drop.lag is.order.arrived)) = subst (λ (x : Option Label). IsNoBetter tables t x) (ap (λ s. label_in labels s) same ∙ is.order.now) (behind t stands) in
              subst (λ (x : Option Label). IsNoBetter tables t x) (sym set_to) (after_drop t drop.lag drop.arrival stands (falls same was))
        ]
      where
        falls : t.gate ≡ drop.gate → IsNoBetter tables t (Some (label drop.lag is.order.arrived)) → (t.lag < drop.lag) ⊎ ((t.lag ≡ drop.lag) × ArrivesLate tables t (drop.arrival + 1))
        falls same (inl less) = inl less
        falls same (inr (lag_is, behind_now)) =
            let root_is : node_at drop.lag drop.gate ≡ root t = same_node (node_at drop.lag drop.gate) (root t) (sym same) (sym lag_is) in
            let late = later labels behind (drop.arrival - 1) t drop.walks stands (subst (λ (x : Node). IsBarrier (served base c labels (drop.arrival - 1)) x k drop.walks) root_is is.barrier) in
            inr (lag_is, (late.0, late.1, (let many = late.2 in let some = is.order.some in omega (arith, many, some))))

    -- So do lawful drops one after another.
    drops_keep : (labels : List (Option Label)) (drops : List Drop) → AreNoBetter tables labels → Replays base c k target labels drops
        → AreNoBetter tables (labels_after target labels drops)
    drops_keep labels [] behind replays = behind
    drops_keep labels (drop ∷ drops) behind replays =
        drops_keep (lowered target labels drop) drops (drop_keeps labels drop behind replays.0) replays.1

    -- At the first labels all tables are no better.
    first_keeps : AreNoBetter tables (first_labels c.drives d target)
    first_keeps t stands =
        let table = lawful.each t stands in
        subst (λ (x : Option Label). IsNoBetter tables t x) (sym (label_first d target c.drives t.gate)) (at_first (drive_in c.drives t.gate) target table.gate short table.lag)
      where
        at_first : (dr : Drive) (most : ℕ) → is_gate dr ≡ true → HasChainsWithin tables most → t.lag ≤ d → IsNoBetter tables t (first_label d most dr)
        at_first input most is within low = cc
        at_first (latch next init) most is within low = cc
        at_first (gate pins cover) zero is within low = absurd (let long = within (t ∷ []) (stands, tt, tt) in omega (arith, long))
        at_first (gate pins cover) (suc most) is within low =
            elim (cases_lt t.lag d) [ inl less ↦ inl less | inr high ↦ inr (omega arith, ([], (stands, tt, tt), omega arith)) ]

    -- At each moment of a replay all tables are no better than the labels.
    moments_keep : (earlier later : List Drop) → Replays base c k target (first_labels c.drives d target) (earlier ++ later)
        → AreNoBetter tables (labels_after target (first_labels c.drives d target) earlier)
    moments_keep earlier later replays =
        drops_keep (first_labels c.drives d target) earlier first_keeps (front base c k target (first_labels c.drives d target) earlier later replays)

    -- No output of a lawful mapping of period at most the target is lost.
    none_lost : (labels : List (Option Label)) → AreNoBetter tables labels → HaveLost need c labels → ⊥
    none_lost labels behind (output, is_output, (g, source, short)) =
        let (u, stands, gate_is, least) = lawful.outputs output is_output g source in
        not_short u (label_in labels g) (need output) (subst (λ s. IsNoBetter tables u (label_in labels s)) gate_is (behind u stands)) least short
      where
        not_short : (u : Table) (x : Option Label) (lag : ℕ) → IsNoBetter tables u x → lag ≤ u.lag → FallsShort x lag → ⊥
        not_short u None lag no_better least falls = no_better
        not_short u (Some x) lag (inl less) least falls = omega arith
        not_short u (Some x) lag (inr (same, late)) least falls = omega (arith, same)

pub labels_bound : (base : ℕ) (need : ℕ → ℕ) (c : Plain) (k d target : ℕ) (earlier later : List Drop) (tables : List Table) → IsSound c
    → Replays base c k target (first_labels c.drives d target) (earlier ++ later) → IsLawfulFrom base need c k d tables → HasChainsWithin tables target
    → AreNoBetter tables (labels_after target (first_labels c.drives d target) earlier)
labels_bound base need c k d target earlier later tables sound replays lawful short =
    moments_keep base need c k d tables sound lawful target short earlier later replays

pub refuted_below : (base : ℕ) (need : ℕ → ℕ) (c : Plain) (k d target : ℕ) (drops : List Drop) (tables : List Table) (p : ℕ) → IsSound c
    → RefutesFrom base need c k d target drops → IsLawfulFrom base need c k d tables → IsPeriodOf tables p → target < p
refuted_below base need c k d target drops tables p sound refutes lawful period =
    elim (cases_lt target p) [
      | inl above ↦ above
      | inr within ↦
          let short : HasChainsWithin tables target = λ chain is. let most = period.greatest chain is in omega (arith, most, within) in
          let behind = drops_keep base need c k d tables sound lawful target short (first_labels c.drives d target) drops (first_keeps base need c k d tables sound lawful target short) refutes.replays in
          absurd (none_lost base need c k d tables sound lawful target short (labels_after target (first_labels c.drives d target) drops) behind refutes.lost)
    ]
