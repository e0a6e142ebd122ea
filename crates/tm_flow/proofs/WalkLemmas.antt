-- Walks as lists of indices and as lists of edges.
use Rattle.std.proofs.Common.{◌≡◌, ℕ, ◌+◌, ◌<◌, ◌≤◌, Bool, true, false, cond, inl, inr, List, [], ◌∷◌, ◌++◌, length, map, get_or, drop, refl, sym, ap, subst, ◌∙◌, append_assoc, All, arith}
use Rattle.std.proofs.lemmas.Bool.{cases_lt}
use Rattle.std.proofs.lemmas.List.{length-map}
use Rattle.tm_flow.specs.Lists.{Has, Each, At}
use Rattle.tm_flow.specs.Nets.{Shape, IsPath, IsIndexWalk, nodes_of, node_after, Reaches}
use Rattle.tm_flow.specs.Cuts.{AreDisjoint, AreFlow, IsFree, IsBarrier}
use Rattle.tm_flow.specs.Flows.{Leads, hits, all_hits, edges_along, indices_of, edges_to, all_edges_to, IsFlow}
use Rattle.tm_flow.specs.declared.flow.Edge.{Edge}
use Rattle.tm_flow.proofs.ListLemmas.{each_from, each_join}
use Rattle.tm_flow.proofs.PlaceLemmas.{drop_more, each_at, each_image, all_has}

one_if : (b : Bool) → b ≡ true → cond {A = ℕ} b 1 0 ≡ 1
one_if b e = ap (λ c. cond {A = ℕ} c 1 0) e

zero_if : (b : Bool) → b ≡ false → cond {A = ℕ} b 1 0 ≡ 0
zero_if b e = ap (λ c. cond {A = ℕ} c 1 0) e

module _ {T : Type 0} (n : Shape T) where
  -- the next index of a walk
  pub walk_next : (x : T) (is : List ℕ) (at i : ℕ) → at < length is → i ≡ get_or is at 0 → IsIndexWalk n x (drop at is) → (i < n.reads x) × IsIndexWalk n (n.read x i) (drop (at + 1) is)
  walk_next x is at i lt e w = let r : IsIndexWalk n x (i ∷ drop (at + 1) is) = subst (IsIndexWalk n x) (drop_more is at 0 i lt e) w in (r.0, r.1)

  pub edges_next : (x y : T) (is : List ℕ) (at i : ℕ) (made made_new all : List (Edge T)) → at < length is → i ≡ get_or is at 0 → y ≡ n.read x i
      → made ++ edges_along n x (drop at is) ≡ all → made_new ≡ made ++ record { from = x; index = i; to = y } ∷ []
      → made_new ++ edges_along n y (drop (at + 1) is) ≡ all
  edges_next x y is at i made made_new all lt e to before pushed =
      let edge : T → Edge T = λ z. record { from = x; index = i; to = z } in
      ap (λ l. l ++ edges_along n y (drop (at + 1) is)) pushed ∙ append_assoc made (edge y ∷ []) (edges_along n y (drop (at + 1) is))
      ∙ ap (λ z. made ++ edge z ∷ edges_along n z (drop (at + 1) is)) to
      ∙ ap (λ l. made ++ l) (sym (ap (edges_along n x) (drop_more is at 0 i lt e))) ∙ before

  pub leads_along : (x : T) (is : List ℕ) → IsIndexWalk n x is → Leads n x (edges_along n x is)
  leads_along x [] w = w
  leads_along x (i ∷ is) w = (refl, w.0, refl, leads_along (n.read x i) is w.1)

  -- a known walk leads from its root
  pub known_leads : {W : Type 0} (f : W → List ℕ) (root : T) (lists : List W) (i : ℕ) (list : W) (slice : List ℕ) (walk : List (Edge T))
      → i < length lists → list ≡ get_or lists i list → slice ≡ f list → walk ≡ edges_along n root slice → Each (IsIndexWalk n root) (map f lists) → Leads n root walk
  known_leads f root lists i list slice walk lt is image made all =
      subst (Leads n root) (sym made) (leads_along root slice (each_image f (IsIndexWalk n root) lists i list slice lt is image all))

  pub walk_of : (x : T) (w : List (Edge T)) → Leads n x w → IsIndexWalk n x (indices_of w)
  walk_of x [] l = l
  walk_of x (e ∷ w) l = (l.1, subst (λ y. IsIndexWalk n y (indices_of w)) l.2 (walk_of e.to w l.3))

  pub each_along : (x : T) (ls : List (List ℕ)) → Each (IsIndexWalk n x) ls → Each (Leads n x) (map (edges_along n x) ls)
  each_along x [] a = tt
  each_along x (l ∷ ls) a = (leads_along x l a.0, each_along x ls a.1)

  each_walk_of : (x : T) (ws : List (List (Edge T))) → Each (Leads n x) ws → Each (IsIndexWalk n x) (map indices_of ws)
  each_walk_of x [] a = tt
  each_walk_of x (w ∷ ws) a = (walk_of x w a.0, each_walk_of x ws a.1)

  reaches_from : (x y : T) (i : ℕ) (v : T) → i < n.reads x → y ≡ n.read x i → Reaches n y v → Reaches n x v
  reaches_from x y i v lt is r = (i ∷ r.0, (lt, subst (λ z. IsPath n z r.0) is r.1), subst (λ z. node_after n z r.0 ≡ v) is r.2)

  -- the root of a walk reaches the nodes that its edges leave
  leads_reaches : (w : List (Edge T)) (x : T) (e : Edge T) → Leads n x w → Has w e → Reaches n x e.from
  leads_reaches [] x e l h = absurd h
  leads_reaches (d ∷ w) x e l (inl g) = ([], tt, sym l.0 ∙ ap (λ u. u.from) g)
  leads_reaches (d ∷ w) x e l (inr g) = reaches_from x d.to d.index e.from l.1 l.2 (leads_reaches w d.to e l.3 g)

  -- and those that they come to
  pub leads_to_reached : (w : List (Edge T)) (x : T) (e : Edge T) → Leads n x w → Has w e → Reaches n x e.to
  leads_to_reached [] x e l h = absurd h
  leads_to_reached (d ∷ w) x e l (inl g) = (d.index ∷ [], (l.1, tt), sym l.2 ∙ ap (λ u. u.to) g)
  leads_to_reached (d ∷ w) x e l (inr g) = reaches_from x d.to d.index e.to l.1 l.2 (leads_to_reached w d.to e l.3 g)

  module _ (eq : T → T → Bool) where
    has_edges_to : (v : T) (w : List (Edge T)) (e : Edge T) → Has (edges_to eq v w) e → Has w e
    has_edges_to v [] e h = absurd h
    has_edges_to v (d ∷ w) e h = by (eq d.to v) h (has_edges_to v w e)
      where
        by : (b : Bool) → Has (cond b (d ∷ edges_to eq v w) (edges_to eq v w)) e → (Has (edges_to eq v w) e → Has w e) → Has (d ∷ w) e
        by true (inl g) rest = inl g
        by true (inr g) rest = inr (rest g)
        by false g rest = inr (rest g)

    pub flow_reaches : (root : T) (ws : List (List (Edge T))) → Each (Leads n root) ws → (v : T) → Each (λ e. Reaches n root e.from) (all_edges_to eq v ws)
    flow_reaches root [] a v = tt
    flow_reaches root (w ∷ ws) a v =
        each_join (λ e. Reaches n root e.from) (edges_to eq v w) (all_edges_to eq v ws)
        (each_from (λ e. Reaches n root e.from) (edges_to eq v w) (λ e h. leads_reaches w root e a.0 (has_edges_to v w e h)))
        (flow_reaches root ws a.1 v)

    module _ (same : (x y : T) → eq x y ≡ true → x ≡ y) (self : (x : T) → eq x x ≡ true) where
      -- a node of a walk is hit
      has_hits : (x : T) (w : List (Edge T)) (v : T) → Leads n x w → Has (nodes_of n x (indices_of w)) v → 1 ≤ hits eq v w
      has_hits x [] v l h = absurd h
      has_hits x (e ∷ w) v l (inl g) =
          let is : e.to ≡ v = l.2 ∙ g in
          let one = one_if (eq e.to v) (ap (λ y. eq y v) is ∙ self v) in
          omega arith
      has_hits x (e ∷ w) v l (inr g) =
          omega (arith, has_hits e.to w v l.3 (subst (λ y. Has (nodes_of n y (indices_of w)) v) (sym l.2) g))

      -- a node that is hit is a node of the walk
      hits_has : (x : T) (is : List ℕ) (v : T) → 1 ≤ hits eq v (edges_along n x is) → Has (nodes_of n x is) v
      hits_has x [] v h = let c : ⊥ = omega arith in absurd c
      hits_has x (i ∷ is) v h = by (eq (n.read x i) v) refl (hits_has (n.read x i) is v)
        where
          by : (b : Bool) → eq (n.read x i) v ≡ b → (1 ≤ hits eq v (edges_along n (n.read x i) is) → Has (nodes_of n (n.read x i) is) v) → Has (nodes_of n x (i ∷ is)) v
          by true e rest = inl (same (n.read x i) v e)
          by false e rest = let z = zero_if (eq (n.read x i) v) e in inr (rest (omega arith))

      all_hits_has : (x : T) (ls : List (List ℕ)) (v : T) → 1 ≤ all_hits eq v (map (edges_along n x) ls) → (l : List ℕ) × Has ls l × Has (nodes_of n x l) v
      all_hits_has x [] v h = let c : ⊥ = omega arith in absurd c
      all_hits_has x (l ∷ ls) v h =
          elim (cases_lt 0 (hits eq v (edges_along n x l))) [
            | inl some ↦ (l, inl refl, hits_has x l v (omega arith))
            | inr none ↦ let r = all_hits_has x ls v (omega arith) in (r.0, inr r.1, r.2)
          ]

      has_all_hits : (x : T) (ws : List (List (Edge T))) (u : List ℕ) (v : T) → Each (Leads n x) ws → Has (map indices_of ws) u → Has (nodes_of n x u) v → 1 ≤ all_hits eq v ws
      has_all_hits x [] u v a h g = absurd h
      has_all_hits x (w ∷ ws) u v a (inl e) g = omega (arith, has_hits x w v a.0 (subst (λ l. Has (nodes_of n x l) v) (sym e) g))
      has_all_hits x (w ∷ ws) u v a (inr h) g = omega (arith, has_all_hits x ws u v a.1 h g)

      -- walks of a flow as lists of indices
      disjoint_of : (x : T) (ws : List (List (Edge T))) → Each (Leads n x) ws → ((v : T) → n.may_cut v ≡ true → all_hits eq v ws ≤ 1) → AreDisjoint n x (map indices_of ws)
      disjoint_of x [] a room = tt
      disjoint_of x (w ∷ ws) a room = (
        (λ u v h may g k.
            let one : 1 ≤ hits eq v w = has_hits x w v a.0 g in
            let other : 1 ≤ all_hits eq v ws = has_all_hits x ws u v a.1 h k in
            let most : hits eq v w + all_hits eq v ws ≤ 1 = room v may in
            let c : ⊥ = omega arith in c),
        disjoint_of x ws a.1 (λ v may. let most : hits eq v w + all_hits eq v ws ≤ 1 = room v may in omega arith),
      )

      pub flow_lists : (x : T) (ws : List (List (Edge T))) → IsFlow n eq x ws → AreFlow n x (map indices_of ws)
      flow_lists x ws f = record { walks = each_walk_of x ws f.walks; disjoint = disjoint_of x ws f.walks f.room }

      module _ (falls : (x : T) (i : ℕ) → i < n.reads x → n.rank (n.read x i) < n.rank x) where
        -- a walk comes to no node of the rank of its first node
        no_hits : (x : T) (w : List (Edge T)) (v : T) → Leads n x w → n.rank x ≤ n.rank v → hits eq v w ≡ 0
        no_hits x [] v l low = refl
        no_hits x (e ∷ w) v l low = by (eq e.to v) refl (no_hits e.to w v l.3 (omega (arith, less)))
          where
            less : n.rank e.to < n.rank x
            less = omega (arith, ap n.rank l.2, falls x e.index l.1)

            by : (b : Bool) → eq e.to v ≡ b → hits eq v w ≡ 0 → cond (eq e.to v) 1 0 + hits eq v w ≡ 0
            by true g rest =
                let r : n.rank e.to ≡ n.rank v = ap n.rank (same e.to v g) in
                let a = less in
                let c : ⊥ = omega arith in absurd c
            by false g rest = let z = zero_if (eq e.to v) g in omega arith

        -- and at most once to each node
        pub hits_once : (x : T) (w : List (Edge T)) (v : T) → Leads n x w → hits eq v w ≤ 1
        hits_once x [] v l = omega arith
        hits_once x (e ∷ w) v l = by (eq e.to v) refl (hits_once e.to w v l.3)
          where
            by : (b : Bool) → eq e.to v ≡ b → hits eq v w ≤ 1 → cond (eq e.to v) 1 0 + hits eq v w ≤ 1
            by true g once =
                let r : n.rank e.to ≡ n.rank v = ap n.rank (same e.to v g) in
                let o = one_if (eq e.to v) g in
                let rest : hits eq v w ≡ 0 = no_hits e.to w v l.3 (omega arith) in
                omega arith
            by false g once = let z = zero_if (eq e.to v) g in omega arith

        room_along : (x : T) (ls : List (List ℕ)) → Each (IsIndexWalk n x) ls → AreDisjoint n x ls → (v : T) → n.may_cut v ≡ true → all_hits eq v (map (edges_along n x) ls) ≤ 1
        room_along x [] a d v may = omega arith
        room_along x (l ∷ ls) a d v may =
            let once : hits eq v (edges_along n x l) ≤ 1 = hits_once x (edges_along n x l) v (leads_along x l a.0) in
            let rest : all_hits eq v (map (edges_along n x) ls) ≤ 1 = room_along x ls a.1 d.1 v may in
            elim (cases_lt 0 (hits eq v (edges_along n x l))) [
              | inl here ↦ elim (cases_lt 0 (all_hits eq v (map (edges_along n x) ls))) [
                | inl there ↦
                    let r = all_hits_has x ls v (omega arith) in
                    absurd (d.0 r.0 v r.1 may (hits_has x l v (omega arith)) r.2)
                | inr none ↦ omega arith
              ]
              | inr none ↦ omega arith
            ]

        -- lists of indices as the walks of a flow
        pub flow_along : (x : T) (ls : List (List ℕ)) → AreFlow n x ls → IsFlow n eq x (map (edges_along n x) ls)
        flow_along x ls f = record { walks = each_along x ls f.walks; room = room_along x ls f.walks f.disjoint }

  -- a walk of a flow with no node that may be cut
  free_nodes : (x : T) (w : List (Edge T)) → Leads n x w → ((e : Edge T) → Has w e → n.may_cut e.to ≡ false) → (v : T) → Has (nodes_of n x (indices_of w)) v → n.may_cut v ≡ false
  free_nodes x [] l free v h = absurd h
  free_nodes x (e ∷ w) l free v (inl g) = subst (λ y. n.may_cut y ≡ false) (l.2 ∙ g) (free e (inl refl))
  free_nodes x (e ∷ w) l free v (inr g) = free_nodes e.to w l.3 (λ d k. free d (inr k)) v (subst (λ y. Has (nodes_of n y (indices_of w)) v) (sym l.2) g)

  pub is_free : (x : T) (w : List (Edge T)) → Leads n x w → ((e : Edge T) → Has w e → n.may_cut e.to ≡ false) → IsFree n x (indices_of w)
  is_free x w l free = record { walk = walk_of x w l; uncut = free_nodes x w l free }

  module _ (eq : T → T → Bool) (same : (x y : T) → eq x y ≡ true → x ≡ y) (self : (x : T) → eq x x ≡ true) where
    pub free_barrier : (x : T) (k : ℕ) (ws : List (List (Edge T))) (w : List (Edge T)) (which : ℕ) (lists : List (List ℕ))
        → IsFlow n eq x ws → At ws which w → All (λ e. n.may_cut e.to ≡ false) w → lists ≡ indices_of w ∷ [] → IsBarrier n x k lists
    free_barrier x k ws w which lists flow at free one =
        inl (indices_of w, one, is_free x w (each_at (Leads n x) ws which w flow.walks at) (all_has (λ e. n.may_cut e.to ≡ false) w free))

    pub full_barrier : (x : T) (k : ℕ) (ws : List (List (Edge T))) (lists : List (List ℕ)) → IsFlow n eq x ws → length ws ≡ k + 1 → lists ≡ map indices_of ws → IsBarrier n x k lists
    full_barrier x k ws lists flow many all =
        inr (ap length all ∙ length-map ws indices_of ∙ many, subst (AreFlow n x) (sym all) (flow_lists eq same self x ws flow))
