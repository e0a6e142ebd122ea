-- Barriers, replays and refutations over a base are two-way ones, with the amounts for which their numbers stand.
use Rattle.std.proofs.Common.{◌≡◌, ℕ, ◌+◌, ◌-◌, ◌<◌, inl, inr, Bool, true, false, cond, List, [], ◌∷◌, map, length, Option, pos, neg_ℤ, refl, sym, ◌∙◌, ap, subst, arith}
use Rattle.std.specs.Prelude.{◌&&◌, slice_index_or}
use Rattle.std.specs.Option.{option_map}
use Rattle.std.proofs.lemmas.Bool.{and_parts}
use Rattle.std.proofs.lemmas.List.{length-map, get_or-map}
use Rattle.tm_circuit.specs.Plain.{Plain}
use Rattle.tm_circuit.specs.Chain.{IsGate}
use Rattle.tm_circuit.specs.Source.{back as signal_behind}
use Rattle.tm_flow.specs.Lists.{Has, Each}
use Rattle.tm_flow.specs.Nets.{Shape, IsIndexWalk, nodes_of}
use Rattle.tm_flow.specs.Cuts.{IsBarrier, AreDisjoint}
use Rattle.tm_unroll.specs.declared.node.Node.{Node}
use Rattle.tm_unroll.specs.Nodes as one_node
use Rattle.tm_unroll.specs.Unrolled.{is_node}
use Rattle.tm_unroll.specs.Latches.{need_of}
use Rattle.tm_unroll.proofs.BehindLemmas.{needs_count}
use Rattle.tm_replay.specs.declared.label.Label.{Label}
use Rattle.tm_replay.specs.Labels as one_label
use Rattle.tm_replay.specs.Served as one_served
use Rattle.tm_replay.specs.Served.{most_advance}
use Rattle.tm_replay.specs.Replays as one
use Rattle.tm_replay.specs.Replays.{Drop}
use Rattle.two_way.specs.declared.answer.TwoNode.{TwoNode}
use Rattle.two_way.specs.Nodes as two_node_of
use Rattle.two_way.specs.Labels.{TwoLabel}
use Rattle.two_way.specs.Served as two_served
use Rattle.two_way.specs.Replays as two
use Rattle.two_way.specs.Replays.{PlainDrop}
use Rattle.two_way.specs.Amounts.{two_node, two_label, two_drop}
use Rattle.two_way.proofs.WalkLemmas.{same_node, reads_two, end_two}
use Rattle.two_way.proofs.MappingLemmas.{latches_down}
use Rattle.two_way.proofs.LabelLemmas.{two_labels, first_labels_two, label_in_two, lowered_two, served_two, short_two}

-- ---- lists

has_map : {X Y : Type 0} (f : X → Y) (xs : List X) (y : Y) → Has (map f xs) y → (x : X) × Has xs x × (f x ≡ y)
has_map f [] y h = absurd h
has_map f (x ∷ xs) y (inl e) = (x, inl refl, e)
has_map f (x ∷ xs) y (inr h) = let (z, among, is) = has_map f xs y h in (z, inr among, is)

each_has : {X : Type 0} (P : X → Type 0) (xs : List X) (x : X) → Each P xs → Has xs x → P x
each_has P [] x each h = absurd h
each_has {X} P (y ∷ ys) x each (inl e) = subst (λ (z : X). P z) e each.0
each_has P (y ∷ ys) x each (inr h) = each_has P ys x each.1 h

-- ---- barriers

module _ (back : ℕ) (c : Plain) (labels : List (Option Label)) (within : ℕ) where
  abbrev net_of : Shape Node
  net_of = one_served.served back c labels within

  abbrev two_net_of : Shape TwoNode
  two_net_of = two_served.served back c (two_labels back labels) within

  -- Walks by indices go the same way, and all that they come to are nodes of the net.
  record GoesAlike (x : Node) (is : List ℕ) : Type 0 where
    walk : IsIndexWalk two_net_of (two_node back x) is
    nodes : nodes_of two_net_of (two_node back x) is ≡ map (two_node back) (nodes_of net_of x is)
    first : is_node most_advance c x ≡ true
    each : (v : Node) → Has (nodes_of net_of x is) v → is_node most_advance c v ≡ true

  index_within : (b : Bool) (i n : ℕ) → i < cond b n 0 → (b ≡ true) × (i < n)
  index_within true i n low = (refl, low)
  index_within false i n low = absurd (omega (arith, low))

  goes_alike : (x : Node) (is : List ℕ) → IsIndexWalk net_of x is → GoesAlike x is
  goes_alike x [] end =
      let parts = and_parts (is_node most_advance c x) (one_node.is_end c.drives x) end in
      record { walk = end_two back c.drives x ∙ parts.1; nodes = refl; first = parts.0; each = λ v h. absurd h }
  goes_alike x (i ∷ is) way =
      let inside = index_within (is_node most_advance c x) i (length (one_node.reads c.drives x)) way.0 in
      let reads = reads_two back c.drives x in
      let long : length (two_node_of.reads back c.drives (two_node back x)) ≡ length (one_node.reads c.drives x) =
      ap (λ (ys : List TwoNode). length ys) reads ∙ length-map (one_node.reads c.drives x) (two_node back) in
      let low = inside.1 in
      let read : slice_index_or (two_node_of.reads back c.drives (two_node back x)) i (two_node back x) ≡ two_node back (net_of.read x i) =
      ap (λ (ys : List TwoNode). slice_index_or ys i (two_node back x)) reads ∙ get_or-map (two_node back) (one_node.reads c.drives x) i x (two_node back x) low in
      let further = goes_alike (net_of.read x i) is way.1 in
      record {
        walk = (omega (arith, long, low), subst (λ (y : TwoNode). IsIndexWalk two_net_of y is) (sym read) further.walk);
        nodes = ap (λ (y : TwoNode). y ∷ nodes_of two_net_of y is) read ∙ ap (λ (ys : List TwoNode). two_node back (net_of.read x i) ∷ ys) further.nodes;
        first = inside.0;
        each = λ v h. elim h [
          | inl e ↦ subst (λ (y : Node). is_node most_advance c y ≡ true) e further.first
          | inr later ↦ further.each v later
        ];
      }

  -- A node of the net may be cut just where the node with its amount may.
  cut_alike : (v : Node) → is_node most_advance c v ≡ true → two_net_of.may_cut (two_node back v) ≡ net_of.may_cut v
  cut_alike v node =
      served_two back c.drives labels within v
      ∙ sym (ap (λ (b : Bool). b && one_served.is_served back c.drives labels within v) node)

  module _ (x : Node) where
    flow_walks : (ws : List (List ℕ)) → Each (IsIndexWalk net_of x) ws → Each (IsIndexWalk two_net_of (two_node back x)) ws
    flow_walks [] each = tt
    flow_walks (w ∷ ws) each = ((goes_alike x w each.0).walk, flow_walks ws each.1)

    flow_apart : (ws : List (List ℕ)) → Each (IsIndexWalk net_of x) ws → AreDisjoint net_of x ws → AreDisjoint two_net_of (two_node back x) ws
    flow_apart [] each apart = tt
    flow_apart (w ∷ ws) each apart = (
      λ u v other cut on_first on_other.
          let alike = goes_alike x w each.0 in
          let alike_other = goes_alike x u (each_has (IsIndexWalk net_of x) ws u each.1 other) in
          let (a, a_on, a_is) = has_map (two_node back) (nodes_of net_of x w) v (subst (λ (ys : List TwoNode). Has ys v) alike.nodes on_first) in
          let (b, b_on, b_is) = has_map (two_node back) (nodes_of net_of x u) v (subst (λ (ys : List TwoNode). Has ys v) alike_other.nodes on_other) in
          let same : b ≡ a = same_node back b a (b_is ∙ sym a_is) in
          let may_cut : net_of.may_cut a ≡ true =
          sym (cut_alike a (alike.each a a_on)) ∙ ap (λ (y : TwoNode). two_net_of.may_cut y) a_is ∙ cut in
          apart.0 u a other may_cut a_on (subst (λ (y : Node). Has (nodes_of net_of x u) y) same b_on),
      flow_apart ws each.1 apart.1,
    )

    barrier_two : (k : ℕ) (ws : List (List ℕ)) → IsBarrier net_of x k ws → IsBarrier two_net_of (two_node back x) k ws
    barrier_two k ws (inl (w, is, free)) =
        let alike = goes_alike x w free.walk in
        inl (
          w,
          is,
          record {
            walk = alike.walk;
            uncut = λ v on.
                let (a, a_on, a_is) = has_map (two_node back) (nodes_of net_of x w) v (subst (λ (ys : List TwoNode). Has ys v) alike.nodes on) in
                ap (λ (y : TwoNode). two_net_of.may_cut y) (sym a_is) ∙ cut_alike a (alike.each a a_on) ∙ free.uncut a a_on;
          },
        )
    barrier_two k ws (inr (many, flow)) = inr (many, record { walks = flow_walks ws flow.walks; disjoint = flow_apart ws flow.walks flow.disjoint })

-- ---- replays

module _ (back : ℕ) (c : Plain) (k target : ℕ) where
  drop_two : (labels : List (Option Label)) (drop : Drop) → one.IsLawfulDrop back c k target labels drop
      → two.IsLawfulDrop back c k target (two_labels back labels) (two_drop back drop)
  drop_two labels drop is = record {
    gate = is.order.gate;
    some = is.order.some;
    most = is.order.most;
    arrived = is.order.arrived;
    now = label_in_two back labels drop.gate ∙ ap (option_map (two_label back)) is.order.now;
    least = is.order.least;
    barrier = barrier_two back c labels (drop.arrival - 1) (one_node.node_at drop.lag drop.gate) k drop.walks is.barrier;
  }

  replays_two : (drops : List Drop) (labels : List (Option Label)) → one.Replays back c k target labels drops
      → two.Replays back c k target (two_labels back labels) (map (two_drop back) drops)
  replays_two [] labels replays = tt
  replays_two (drop ∷ drops) labels replays = (
    drop_two labels drop replays.0,
    subst (λ (ls : List (Option TwoLabel)). two.Replays back c k target ls (map (two_drop back) drops)) (sym (lowered_two back target labels drop))
        (replays_two drops (one.lowered target labels drop) replays.1),
  )

  after_two : (drops : List Drop) (labels : List (Option Label))
      → two.labels_after back target (two_labels back labels) (map (two_drop back) drops) ≡ two_labels back (one.labels_after target labels drops)
  after_two [] labels = refl
  after_two (drop ∷ drops) labels =
      ap (λ (ls : List (Option TwoLabel)). two.labels_after back target ls (map (two_drop back) drops)) (lowered_two back target labels drop)
      ∙ after_two drops (one.lowered target labels drop)

-- What is lost over a base is lost two-way.
lost_two : (back : ℕ) (c : Plain) (labels : List (Option Label)) → one.HaveLost (need_of back c) c labels → two.HaveLost c (two_labels back labels)
lost_two back c labels (s, stands, lost) =
    let (g, source, short) = lost in
    let (n, behind) = source.1 in
    let (m, leads, same) = latches_down c.drives n s (subst (λ e. IsGate c.drives e) (sym behind) source.0) in
    let short_at = subst (λ e. one.FallsShort (one_label.label_in labels e) (need_of back c s)) (sym (same ∙ behind)) short in (
      s,
      m,
      stands,
      leads,
      subst (λ (x : Option TwoLabel). two.FallsShort x (neg_ℤ (pos m))) (sym (label_in_two back labels (signal_behind c.drives m s)))
          (short_two back (one_label.label_in labels (signal_behind c.drives m s)) (need_of back c s) m (needs_count back c s m leads) short_at),
    )

pub refutes_two : (back : ℕ) (c : Plain) (k d target : ℕ) (drops : List Drop) → one.RefutesFrom back (need_of back c) c k (d + back) target drops
    → two.Refutes c k d back target (map (two_drop back) drops)
refutes_two back c k d target drops is =
    let first = first_labels_two back c.drives d target in
    let start = one_label.first_labels c.drives (d + back) target in
    record {
      replays =
          subst (λ (ls : List (Option TwoLabel)). two.Replays back c k target ls (map (two_drop back) drops)) (sym first)
          (replays_two back c k target drops start is.replays);
      lost =
          subst (λ (ls : List (Option TwoLabel)). two.HaveLost c (two.labels_after back target ls (map (two_drop back) drops))) (sym first)
          (subst (λ (ls : List (Option TwoLabel)). two.HaveLost c ls) (sym (after_two back c k target drops start))
          (lost_two back c (one.labels_after target start drops) is.lost));
    }
