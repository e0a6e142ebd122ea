-- The unrolled net keeps the laws of a net, and its index walks, cuts and barriers speak of walks and covers of nodes.
use Rattle.std.proofs.Common.{◌≡◌, ◌≢◌, ◌↔◌, ℕ, zero, suc, ◌+◌, ◌*◌, ◌<◌, ◌≤◌, inl, inr, Bool, true, false, List, [], ◌∷◌, length, get_or, refl, sym, ◌∙◌, ap, subst, arith}
use Rattle.std.proofs.Math.Nat.{mul-le-mul_right}
use Rattle.std.specs.Prelude.{Contains, AllPairs, nat_lt, nat_le, if◌then◌else◌}
use Rattle.std.proofs.lemmas.Bool.{lt-ltb, le-leb, ltb-true, leb-true, and_from, and_parts, cases_Bool}
use Rattle.std.proofs.lemmas.List.{get_or_default}
use Rattle.std.proofs.lemmas.List.Elements.{Contains-get_or}
use Rattle.std.proofs.lemmas.List.Kept.{AllPairs-cons}
use Rattle.tm_circuit.specs.Plain.{Plain, Drive, input, latch, gate, gate_count, drive_in}
use Rattle.tm_circuit.specs.Chain.{rank}
use Rattle.tm_circuit.specs.Sound.{IsSound}
use Rattle.tm_circuit.proofs.ListLemmas.{contains-first, contains-rest, contains-cases, contains-none}
use Rattle.tm_flow.specs.Lists.{Has, AreApart}
use Rattle.tm_flow.specs.Nets.{IsPath, IsIndexWalk, nodes_of}
use Rattle.tm_flow.specs.Cuts.{MeetsAllWalks, IsCut, IsBarrier}
use Rattle.tm_flow.proofs.Menger.{barrier_excludes_covers}
use Rattle.tm_unroll.specs.declared.node.Node.{Node}
use Rattle.tm_unroll.specs.Nodes.{reads_of, reads, is_end_of, is_end}
use Rattle.tm_unroll.specs.Walks.{IsWalk, LeadsTo, IsReached, Covers}
use Rattle.tm_unroll.specs.Falls.{height}
use Rattle.tm_unroll.specs.Unrolled.{is_node, unrolled}
use Rattle.tm_unroll.specs.NetCuts.{KeepsNetLaws, IsNode, HasWalksOf, IsCoverBy, HasNoCoverBy}
use Rattle.tm_unroll.proofs.ListLemmas.{pairs_rest, pairs_first}
use Rattle.tm_unroll.proofs.ReadLemmas.{height_falls}
use Rattle.tm_unroll.proofs.CountLemmas.{reached_within}

-- ---- the two words for what a list has

contains_has : {A : Type 0} (xs : List A) (x : A) → Contains xs x → Has xs x
contains_has [] x h = contains-none x h
contains_has (y ∷ xs) x h = elim (contains-cases y xs x h) [ inl e ↦ inl e | inr later ↦ inr (contains_has xs x later) ]

has_contains : {A : Type 0} (xs : List A) (x : A) → Has xs x → Contains xs x
has_contains [] x h = elim h [ ]
has_contains {A} (y ∷ xs) x (inl e) = subst (λ (z : A). Contains (y ∷ xs) z) e (contains-first y xs)
has_contains (y ∷ xs) x (inr h) = contains-rest y xs x (has_contains xs x h)

apart_pairs : {A : Type 0} (xs : List A) → AreApart xs → AllPairs (λ a b. a ≢ b) xs
apart_pairs [] apart = λ i j d before inside. absurd (omega arith)
apart_pairs {A} (x ∷ xs) apart =
    AllPairs-cons (λ (a : A) (b : A). a ≢ b) x xs (λ k d inside e. apart.0 (contains_has xs x (subst (λ (z : A). Contains xs z) (sym e) (Contains-get_or xs k d inside)))) (apart_pairs xs apart.1)

pairs_apart : {A : Type 0} (xs : List A) → AllPairs (λ a b. a ≢ b) xs → AreApart xs
pairs_apart [] pairs = tt
pairs_apart {A} (x ∷ xs) pairs =
    (λ h. pairs_first (λ (a : A) (b : A). a ≢ b) x xs pairs x (has_contains xs x h) refl, pairs_apart xs (pairs_rest (λ (a : A) (b : A). a ≢ b) x xs pairs))

-- ---- nodes of the net

node_true : (most : ℕ) (c : Plain) (x : Node) → IsNode most c x → is_node most c x ≡ true
node_true most c x is = and_from (nat_lt x.signal (length c.drives)) (nat_le x.advance most) (lt-ltb x.signal (length c.drives) is.signal) (le-leb x.advance most is.advance)

node_from : (most : ℕ) (c : Plain) (x : Node) → is_node most c x ≡ true → IsNode most c x
node_from most c x is =
    let parts = and_parts (nat_lt x.signal (length c.drives)) (nat_le x.advance most) is in
    record { signal = ltb-true x.signal (length c.drives) parts.0; advance = leb-true x.advance most parts.1 }

-- What a node of the net reaches is a node of the net.
reached_node : (most : ℕ) (c : Plain) → IsSound c → (x y : Node) → IsNode most c x → IsReached c.drives x y → IsNode most c y
reached_node most c sound x y node way =
    let within = reached_within c sound x y way.0 way.1 node.signal in
    record { signal = within.0; advance = let ahead = within.1 in let low = node.advance in omega (arith, ahead, low) }

-- A number that is below a choice of one number and 0 is below the number, and it was chosen.
below_chosen : (b : Bool) (i n : ℕ) → i < (if b then n else 0) → (b ≡ true) × (i < n)
below_chosen true i n low = (refl, low)
below_chosen false i n low = absurd (omega arith)

chosen : (b : Bool) (n : ℕ) → b ≡ true → (if b then n else 0) ≡ n
chosen true n is = refl
chosen false n is = cc

end_reads_none : (d : Drive) (a : ℕ) → is_end_of d a ≡ true → length (reads_of d a) ≡ 0
end_reads_none input a ends = refl
end_reads_none (latch next init) zero ends = refl
end_reads_none (latch next init) (suc less) ends = cc
end_reads_none (gate pins cover) a ends = cc

-- ---- the laws of a net

module _ (most : ℕ) (c : Plain) (may_cut : Node → Bool) (sound : IsSound c) where
  -- What stands at an index is read.
  read_at : (x : Node) (i : ℕ) → i < length (reads c.drives x) → Contains (reads c.drives x) (get_or (reads c.drives x) i x)
  read_at x i inside = Contains-get_or (reads c.drives x) i x inside

  read_node : (x : Node) (i : ℕ) → IsNode most c x → i < length (reads c.drives x) → IsNode most c (get_or (reads c.drives x) i x)
  read_node x i node inside = reached_node most c sound x (get_or (reads c.drives x) i x) node ([], read_at x i inside)

  node_high : (x : Node) → IsNode most c x → height c x < suc most * suc (gate_count c.drives)
  node_high x node = below x.advance most (gate_count c.drives) (rank c x.signal) node.advance (sound.bounded x.signal)
    where
      below : (a m g r : ℕ) → a ≤ m → r ≤ g → a * suc g + r < suc m * suc g
      below a m g r low small =
          let up : suc a ≤ suc m = omega arith in
          let product = mul-le-mul_right (suc g) up in
          omega (arith, product, small)

  falls : (x : Node) (i : ℕ) → i < (unrolled most c may_cut).reads x
      → (unrolled most c may_cut).rank ((unrolled most c may_cut).read x i) < (unrolled most c may_cut).rank x
  falls x i inside =
      let from = below_chosen (is_node most c x) i (length (reads c.drives x)) inside in
      let y = get_or (reads c.drives x) i x in
      let node = read_node x i (node_from most c x from.0) from.1 in
      let lower = height_falls c sound x y (read_at x i from.1) in
      let rank_x = chosen (is_node most c x) (height c x) from.0 in
      let rank_y = chosen (is_node most c y) (height c y) (node_true most c y node) in
      omega (arith, lower, rank_x, rank_y)

  below : (x : Node) → (unrolled most c may_cut).rank x < (unrolled most c may_cut).bound
  below x =
      elim (cases_Bool (is_node most c x)) [
        | inl is ↦ let rank_x = chosen (is_node most c x) (height c x) is in let high = node_high x (node_from most c x is) in omega (arith, rank_x, high)
        | inr other ↦ none (is_node most c x) other
      ]
    where
      none : (b : Bool) → b ≡ false → (if b then height c x else 0) < suc most * suc (gate_count c.drives)
      none true is = cc
      none false is = let product = mul-le-mul_right (suc (gate_count c.drives)) (positive most) in omega (arith, product)
        where
          positive : (m : ℕ) → 1 ≤ suc m
          positive m = omega arith

  stops : (x : Node) → (unrolled most c may_cut).is_end x ≡ true → (unrolled most c may_cut).reads x ≡ 0
  stops x ends =
      let parts = and_parts (is_node most c x) (is_end c.drives x) ends in
      chosen (is_node most c x) (length (reads c.drives x)) parts.0 ∙ end_reads_none (drive_in c.drives x.signal) x.advance parts.1

  pub keeps_net_laws : KeepsNetLaws (unrolled most c may_cut)
  keeps_net_laws = record { falls = falls; below = below; stops = stops }

  -- ---- index walks and walks of nodes

  -- What a node of the net reads stands at an index of it.
  index_of : (x y : Node) → IsNode most c x → Contains (reads c.drives x) y
      → (i : ℕ) × (i < (unrolled most c may_cut).reads x) × (get_or (reads c.drives x) i x ≡ y)
  index_of x y node (i, inside, is) =
      let many = chosen (is_node most c x) (length (reads c.drives x)) (node_true most c x node) in
      (i, omega (arith, many, inside), get_or_default (reads c.drives x) i x y inside ∙ is)

  -- An index within what a node reads.
  inside_reads : (x : Node) (i : ℕ) → i < (unrolled most c may_cut).reads x → i < length (reads c.drives x)
  inside_reads x i inside = (below_chosen (is_node most c x) i (length (reads c.drives x)) inside).1

  to_nodes : (is : List ℕ) (x : Node) → IsNode most c x → IsIndexWalk (unrolled most c may_cut) x is
      → IsWalk c.drives x (nodes_of (unrolled most c may_cut) x is)
  to_nodes [] x node walk = (and_parts (is_node most c x) (is_end c.drives x) walk).1
  to_nodes (i ∷ is) x node walk =
      let inside = inside_reads x i walk.0 in
      (read_at x i inside, to_nodes is (get_or (reads c.drives x) i x) (read_node x i node inside) walk.1)

  to_indices : (walk : List Node) (x : Node) → IsNode most c x → IsWalk c.drives x walk
      → (is : List ℕ) × IsIndexWalk (unrolled most c may_cut) x is × (nodes_of (unrolled most c may_cut) x is ≡ walk)
  to_indices [] x node walk = ([], and_from (is_node most c x) (is_end c.drives x) (node_true most c x node) walk, refl)
  to_indices (y ∷ rest) x node walk =
      let at = index_of x y node walk.0 in
      let z = get_or (reads c.drives x) at.0 x in
      let z_node = read_node x at.0 node (inside_reads x at.0 at.1) in
      let more = to_indices rest z z_node (subst (λ (v : Node). IsWalk c.drives v rest) (sym at.2) walk.1) in
      (at.0 ∷ more.0, (at.1, more.1), ap (λ (v : Node). v ∷ nodes_of (unrolled most c may_cut) z more.0) at.2 ∙ ap (λ (vs : List Node). y ∷ vs) more.2)

  pub walks_of : (x : Node) → IsNode most c x → HasWalksOf (unrolled most c may_cut) c.drives x
  walks_of x node = record { nodes = λ is walk. to_nodes is x node walk; indices = λ walk is. to_indices walk x node is }

  -- ---- cuts and covers

  path_reaches : (is : List ℕ) (x v : Node) → IsNode most c x → IsPath (unrolled most c may_cut) x is → Has (nodes_of (unrolled most c may_cut) x is) v
      → (through : List Node) × LeadsTo c.drives x through v
  path_reaches [] x v node path h = elim h [ ]
  path_reaches (i ∷ is) x v node path (inl e) = ([], subst (λ (z : Node). Contains (reads c.drives x) z) e (read_at x i (inside_reads x i path.0)))
  path_reaches (i ∷ is) x v node path (inr h) =
      let inside = inside_reads x i path.0 in
      let y = get_or (reads c.drives x) i x in
      let more = path_reaches is y v (read_node x i node inside) path.1 h in
      (y ∷ more.0, (read_at x i inside, more.1))

  reached_path : (through : List Node) (x v : Node) → IsNode most c x → LeadsTo c.drives x through v
      → (is : List ℕ) × IsPath (unrolled most c may_cut) x is × Has (nodes_of (unrolled most c may_cut) x is) v
  reached_path [] x v node leads = let at = index_of x v node leads in (at.0 ∷ [], (at.1, tt), inl at.2)
  reached_path (y ∷ through) x v node leads =
      let at = index_of x y node leads.0 in
      let z = get_or (reads c.drives x) at.0 x in
      let more = reached_path through z v (read_node x at.0 node (inside_reads x at.0 at.1)) (subst (λ (w : Node). LeadsTo c.drives w through v) (sym at.2) leads.1) in
      (at.0 ∷ more.0, (at.1, more.1), inr more.2)

  cut_covers : (x : Node) (k : ℕ) (nodes : List Node) → IsNode most c x → IsCut (unrolled most c may_cut) x k nodes → IsCoverBy most c may_cut x k nodes
  cut_covers x k nodes node cut = record {
    few = cut.few;
    distinct = apart_pairs nodes cut.apart;
    within = λ y leaf. node_from most c y (both y leaf).0;
    may_be_cut = λ y leaf. (both y leaf).1;
    covers = record {
      met = λ walk is.
          let by = to_indices walk x node is in
          let met = cut.covers by.0 by.1 in
          (met.0, has_contains walk met.0 (subst (λ (vs : List Node). Has vs met.0) by.2 met.2), has_contains nodes met.0 met.1);
      reached = λ y leaf. let way = cut.reached y (contains_has nodes y leaf) in path_reaches way.0 x y node way.1 way.2;
    };
  }
    where
      both : (y : Node) → Contains nodes y → (is_node most c y ≡ true) × (may_cut y ≡ true)
      both y leaf = and_parts (is_node most c y) (may_cut y) (cut.may_be_cut y (contains_has nodes y leaf))

  meets_all : (x : Node) (nodes : List Node) → IsNode most c x → Covers c.drives nodes x → MeetsAllWalks (unrolled most c may_cut) x nodes
  meets_all x nodes node covers is walk =
      let met = covers.met (nodes_of (unrolled most c may_cut) x is) (to_nodes is x node walk) in
      (met.0, contains_has nodes met.0 met.2, contains_has (nodes_of (unrolled most c may_cut) x is) met.0 met.1)

  cover_cuts : (x : Node) (k : ℕ) (nodes : List Node) → IsNode most c x → IsCoverBy most c may_cut x k nodes → IsCut (unrolled most c may_cut) x k nodes
  cover_cuts x k nodes node by = record {
    few = by.few;
    apart = pairs_apart nodes by.distinct;
    may_be_cut = λ y leaf. let h = has_contains nodes y leaf in and_from (is_node most c y) (may_cut y) (node_true most c y (by.within y h)) (by.may_be_cut y h);
    reached = λ y leaf. let way = by.covers.reached y (has_contains nodes y leaf) in reached_path way.0 x y node way.1;
    covers = meets_all x nodes node by.covers;
  }

  pub cuts_covers : (x : Node) (k : ℕ) (nodes : List Node) → IsNode most c x → IsCut (unrolled most c may_cut) x k nodes ↔ IsCoverBy most c may_cut x k nodes
  cuts_covers x k nodes node = (cut_covers x k nodes node, cover_cuts x k nodes node)

  pub excludes_covers : (x : Node) (k : ℕ) (walks : List (List ℕ)) → IsNode most c x → IsBarrier (unrolled most c may_cut) x k walks → HasNoCoverBy c may_cut x k
  excludes_covers x k walks node barrier leaves few may covers =
      barrier_excludes_covers (unrolled most c may_cut) x k walks leaves barrier few (λ y leaf.
      let h = has_contains leaves y leaf in
      and_from (is_node most c y) (may_cut y) (node_true most c y (reached_node most c sound x y node (covers.reached y h))) (may y h)) (meets_all x leaves node covers)
