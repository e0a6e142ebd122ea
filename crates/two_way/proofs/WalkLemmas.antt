-- Nodes with amounts read, walk and are covered as the nodes with the numbers that stand for them.
use Rattle.std.proofs.Common.{◌≡◌, ℕ, zero, suc, Bool, not, cond, List, [], ◌∷◌, map, ℤ, pos, ◌-ℤ◌, refl, sym, ◌∙◌, ap, subst}
use Rattle.std.specs.Prelude.{Contains, IsTrue}
use Rattle.tm_circuit.specs.Plain.{Drive, input, latch, gate, drive_in}
use Rattle.tm_circuit.proofs.ListLemmas.{contains-map, contains-unmap}
use Rattle.tm_unroll.specs.declared.node.Node.{Node}
use Rattle.tm_unroll.specs.Nodes as one
use Rattle.tm_unroll.specs.Walks as one_walk
use Rattle.two_way.specs.declared.answer.TwoNode.{TwoNode}
use Rattle.two_way.specs.Nodes as two
use Rattle.two_way.specs.Walks as two_walk
use Rattle.two_way.specs.Amounts.{amount, two_node}
use Rattle.two_way.proofs.AmountLemmas.{amount_less, same_amount, above_floor, at_floor}
use Rattle.two_way.proofs.MapLemmas.{map_map, contains_up}

-- Different nodes stand for different ones.
pub same_node : (back : ℕ) (x y : Node) → two_node back x ≡ two_node back y → x ≡ y
same_node back x y is =
    let signal : x.signal ≡ y.signal = ap (λ (z : TwoNode). z.signal) is in
    let advance : x.advance ≡ y.advance = same_amount back x.advance y.advance (ap (λ (z : TwoNode). z.advance) is) in
    ap (λ s. one.node_at x.advance s) signal ∙ ap (λ a. one.node_at a y.signal) advance

module _ (back : ℕ) (drives : List Drive) where
  reads_of_two : (d : Drive) (a : ℕ) → two.reads_of back d (amount back a) ≡ map (two_node back) (one.reads_of d a)
  reads_of_two input a = refl
  reads_of_two (latch next init) zero = ap (λ (b : Bool). cond b (two.node_at (amount back 0 -ℤ pos 1) next ∷ []) []) (at_floor back)
  reads_of_two (latch next init) (suc less) =
      ap (λ (b : Bool). cond b (two.node_at (amount back (suc less) -ℤ pos 1) next ∷ []) []) (above_floor back less)
      ∙ ap (λ (z : ℤ). two.node_at z next ∷ []) (amount_less back less)
  reads_of_two (gate pins cover) a = sym (map_map (two_node back) (λ p. one.node_at a p) pins)

  pub reads_two : (x : Node) → two.reads back drives (two_node back x) ≡ map (two_node back) (one.reads drives x)
  reads_two x = reads_of_two (drive_in drives x.signal) x.advance

  end_of_two : (d : Drive) (a : ℕ) → two.is_end_of back d (amount back a) ≡ one.is_end_of d a
  end_of_two input a = refl
  end_of_two (latch next init) zero = ap not (at_floor back)
  end_of_two (latch next init) (suc less) = ap not (above_floor back less)
  end_of_two (gate pins cover) a = refl

  pub end_two : (x : Node) → two.is_end back drives (two_node back x) ≡ one.is_end drives x
  end_two x = end_of_two (drive_in drives x.signal) x.advance

  read_two : (x y : Node) → Contains (one.reads drives x) y → Contains (two.reads back drives (two_node back x)) (two_node back y)
  read_two x y read = subst (λ (ys : List TwoNode). Contains ys (two_node back y)) (sym (reads_two x)) (contains-map (two_node back) (one.reads drives x) y read)

  read_up : (x : Node) (y : TwoNode) → Contains (two.reads back drives (two_node back x)) y → (z : Node) × Contains (one.reads drives x) z × (two_node back z ≡ y)
  read_up x y read = contains-unmap (two_node back) (one.reads drives x) y (subst (λ (ys : List TwoNode). Contains ys y) (reads_two x) read)

  walk_two : (x : Node) (walk : List Node) → one_walk.IsWalk drives x walk → two_walk.IsWalk back drives (two_node back x) (map (two_node back) walk)
  walk_two x [] end = subst (λ (b : Bool). IsTrue b) (sym (end_two x)) end
  walk_two x (y ∷ rest) way = (read_two x y way.0, walk_two y rest way.1)

  walk_up : (x : Node) (walk : List TwoNode) → two_walk.IsWalk back drives (two_node back x) walk
      → (nodes : List Node) × one_walk.IsWalk drives x nodes × (walk ≡ map (two_node back) nodes)
  walk_up x [] end = ([], subst (λ (b : Bool). IsTrue b) (end_two x) end, refl)
  walk_up x (y ∷ rest) way =
      let (z, read, is) = read_up x y way.0 in
      let (nodes, further, are) = walk_up z rest (subst (λ (v : TwoNode). two_walk.IsWalk back drives v rest) (sym is) way.1) in
      (z ∷ nodes, (read, further), cc)

  leads_two : (x : Node) (through : List Node) (y : Node) → one_walk.LeadsTo drives x through y
      → two_walk.LeadsTo back drives (two_node back x) (map (two_node back) through) (two_node back y)
  leads_two x [] y read = read_two x y read
  leads_two x (z ∷ through) y way = (read_two x z way.0, leads_two z through y way.1)

  pub leads_up : (x : Node) (through : List TwoNode) (y : TwoNode) → two_walk.LeadsTo back drives (two_node back x) through y
      → (z : Node) × one_walk.IsReached drives x z × (two_node back z ≡ y)
  leads_up x [] y read = let (z, by, is) = read_up x y read in (z, ([], by), is)
  leads_up x (v ∷ through) y way =
      let (w, read, is) = read_up x v way.0 in
      let (z, reached, last) = leads_up w through y (subst (λ (u : TwoNode). two_walk.LeadsTo back drives u through y) (sym is) way.1) in
      (z, (w ∷ reached.0, (read, reached.1)), last)

  module _ (leaves : List Node) (x : Node) where
    pub covers_two : one_walk.Covers drives leaves x → two_walk.Covers back drives (map (two_node back) leaves) (two_node back x)
    covers_two cover = record {
      met = λ walk way.
          let (nodes, one_way, are) = walk_up x walk way in
          let (y, stands, leaf) = cover.met nodes one_way in (
            two_node back y,
            subst (λ (ys : List TwoNode). Contains ys (two_node back y)) (sym are) (contains-map (two_node back) nodes y stands),
            contains-map (two_node back) leaves y leaf,
          );
      reached = λ y stands.
          let (z, leaf, is) = contains-unmap (two_node back) leaves y stands in
          let (through, way) = cover.reached z leaf in
          subst (λ (v : TwoNode). two_walk.IsReached back drives (two_node back x) v) is (map (two_node back) through, leads_two x through z way);
    }

    pub covers_up : two_walk.Covers back drives (map (two_node back) leaves) (two_node back x) → one_walk.Covers drives leaves x
    covers_up cover = record {
      met = λ walk way.
          let (y, stands, leaf) = cover.met (map (two_node back) walk) (walk_two x walk way) in
          let (z, among, is) = contains-unmap (two_node back) walk y stands in
          (z, among, contains_up (two_node back) (same_node back) leaves z (subst (λ (v : TwoNode). Contains (map (two_node back) leaves) v) (sym is) leaf));
      reached = λ y stands.
          let (through, way) = cover.reached (two_node back y) (contains-map (two_node back) leaves y stands) in
          let (z, reached, is) = leads_up x through (two_node back y) way in
          subst (λ (v : Node). one_walk.IsReached drives x v) (same_node back z y is) reached;
    }
