-- Walks of edges: ranks fall along them, and what the edges to a node are.
use Rattle.std.proofs.Common.{◌≡◌, ℕ, ◌+◌, ◌<◌, ◌≤◌, zero, suc, Bool, true, false, ◌&&◌, true≢false, nat_eq, nat_lt, ◌⊎◌, inl, inr, List, [], ◌∷◌, ◌++◌, length, get_or, take, drop, map, reverse, insert, remove, ◌-◌, length-append, refl, sym, ap, subst, ◌∙◌, append_assoc, arith}
use Rattle.std.proofs.lemmas.Bool.{cases_lt}
use Rattle.std.proofs.lemmas.List.{take_more, append-nil, map-append, length-map, reverse-append, reverse-reverse}
use Rattle.std.proofs.Math.Seq.{drop-length}
use Rattle.std.specs.List.Sorted.{IsPartitionedBy, IsPartitionPoint}
use borrow.Author.Tests.{ltb-true, ltb-false, eqb-true, lt-ltb, eq-eqb}
use Rattle.tm_flow.specs.Lists.{Has, Each, At}
use Rattle.tm_flow.specs.Nets.{Shape}
use Rattle.tm_flow.specs.Flows.{Leads, InFlow, IsOnWalk, BeginsWith, edges_to, all_edges_to, Exchanges}
use Rattle.tm_flow.specs.declared.flow.Edge.{Edge}
use Rattle.tm_flow.proofs.PlaceLemmas.{at_after, each_at, at_same, at_within, at_has, has_at, at_get_or, get_or_at, at_split, replaced}

module _ {T : Type 0} (eq : T → T → Bool) where
  -- the derived equality of edges
  abbrev pub edge_eq : Edge T → Edge T → Bool
  edge_eq x y = eq x.from y.from && (nat_eq x.index y.index && eq x.to y.to)

  both_true : (a b : Bool) → (a && b) ≡ true → (a ≡ true) × (b ≡ true)
  both_true true true h = (refl, refl)
  both_true true false h = absurd (true≢false (sym h))
  both_true false b h = absurd (true≢false (sym h))

  pub edge_same : ((x y : T) → eq x y ≡ true → x ≡ y) → (x y : Edge T) → edge_eq x y ≡ true → x ≡ y
  edge_same same x y h =
      let outer = both_true (eq x.from y.from) (nat_eq x.index y.index && eq x.to y.to) h in
      let inner = both_true (nat_eq x.index y.index) (eq x.to y.to) outer.1 in
      let a : x.from ≡ y.from = same x.from y.from outer.0 in
      let b : x.index ≡ y.index = eqb-true x.index y.index inner.0 in
      let c : x.to ≡ y.to = same x.to y.to inner.1 in
      λ j. record { from = a j; index = b j; to = c j }

  pub edge_self : ((x : T) → eq x x ≡ true) → (x : Edge T) → edge_eq x x ≡ true
  edge_self self x =
      ap (λ b. b && (nat_eq x.index x.index && eq x.to x.to)) (self x.from)
      ∙ ap (λ b. b && eq x.to x.to) (eq-eqb x.index x.index refl) ∙ self x.to

  -- what comparing the item with an index tells
  pub is_at_cases : ((x y : T) → eq x y ≡ true → x ≡ y) → ((x : T) → eq x x ≡ true)
      → (w : List (Edge T)) (place : ℕ) (here e : Edge T) (answer : Bool) → place < length w → here ≡ get_or w place here → answer ≡ edge_eq here e
      → (answer ≡ true → At w place e) × (At w place e → answer ≡ true)
  is_at_cases same self w place here e answer lt is test =
      let at : At w place here = subst (At w place) (sym is) (at_get_or w place here lt) in (
        (λ yes. subst (At w place) (edge_same same here e (sym test ∙ yes)) at),
        (λ there. test ∙ ap (λ x. edge_eq here x) (sym (at_same w place here e at there)) ∙ edge_self self here),
      )

  -- what comparing the node that the edge with an index comes to tells
  pub comes_to_cases : ((x y : T) → eq x y ≡ true → x ≡ y) → ((x : T) → eq x x ≡ true)
      → (w : List (Edge T)) (place : ℕ) (here : Edge T) (v : T) (answer : Bool) → place < length w → here ≡ get_or w place here → answer ≡ eq here.to v
      → (answer ≡ true → (e : Edge T) × At w place e × (e.to ≡ v)) × ((e : Edge T) × At w place e × (e.to ≡ v) → answer ≡ true)
  comes_to_cases same self w place here v answer lt is test =
      let at : At w place here = subst (At w place) (sym is) (at_get_or w place here lt) in (
        (λ yes. (here, at, same here.to v (sym test ∙ yes))),
        (λ there. test ∙ ap (λ x. eq x v) (ap (λ x. x.to) (at_same w place here there.0 at there.1) ∙ there.2) ∙ self v),
      )

  all_edges_to_join : (v : T) (ws us : List (List (Edge T))) → all_edges_to eq v (ws ++ us) ≡ all_edges_to eq v ws ++ all_edges_to eq v us
  all_edges_to_join v [] us = refl
  all_edges_to_join v (w ∷ ws) us =
      ap (λ l. edges_to eq v w ++ l) (all_edges_to_join v ws us) ∙ sym (append_assoc (edges_to eq v w) (all_edges_to eq v ws) (all_edges_to eq v us))

  -- one more walk
  pub all_edges_to_more : {V : Type 0} (f : V → List (Edge T)) (v : T) (old now new : List (Edge T)) (ws : List V) (i : ℕ) (w : V) → i < length ws → w ≡ get_or ws i w
      → now ≡ old ++ all_edges_to eq v (map f (take i ws)) → new ≡ now ++ edges_to eq v (f w)
      → new ≡ old ++ all_edges_to eq v (map f (take (i + 1) ws))
  all_edges_to_more {V} f v old now new ws i w lt is before step =
      let more : take (i + 1) ws ≡ take i ws ++ w ∷ [] = take_more ws i w lt ∙ ap (λ x. take i ws ++ x ∷ []) (sym is) in
      let all = λ (us : List V). all_edges_to eq v (map f us) in
      step ∙ ap (λ l. l ++ edges_to eq v (f w)) before ∙ append_assoc old (all (take i ws)) (edges_to eq v (f w))
      ∙ ap (λ l. old ++ (all (take i ws) ++ l)) (sym (append-nil (edges_to eq v (f w))))
      ∙ ap (λ l. old ++ l) (sym (all_edges_to_join v (map f (take i ws)) (f w ∷ [])) ∙ ap (all_edges_to eq v) (sym (map-append f (take i ws) (w ∷ [])) ∙ ap (map f) (sym more)))

module _ {T : Type 0} where
  pub in_flow_either : (ws us : List (List (Edge T))) (e : Edge T) → InFlow (ws ++ us) e → InFlow ws e ⊎ InFlow us e
  in_flow_either [] us e h = inr h
  in_flow_either (w ∷ ws) us e (inl h) = inl (inl h)
  in_flow_either (w ∷ ws) us e (inr h) = elim (in_flow_either ws us e h) [ inl a ↦ inl (inr a) | inr b ↦ inr b ]

  module _ {V : Type 0} (f : V → List (Edge T)) where
    -- a walk has the number of the value that it is the image of
    pub at_map_get : (vs : List V) (i : ℕ) (v : V) → i < length vs → v ≡ get_or vs i v → At (map f vs) i (f v)
    at_map_get vs i v lt is = subst (λ x. At (map f vs) i (f x)) (sym is) (on vs i lt)
      where
        on : (us : List V) (j : ℕ) → j < length us → At (map f us) j (f (get_or us j v))
        on [] j l = let c : ⊥ = omega arith in absurd c
        on (u ∷ us) zero l = refl
        on (u ∷ us) (suc j) l = let less : j < length us = omega arith in on us j less

    -- the walk with a number is the image of the value with the number
    pub walk_is : (vs : List V) (i : ℕ) (v : V) (w s : List (Edge T)) → At (map f vs) i w → v ≡ get_or vs i v → s ≡ f v → w ≡ s
    walk_is vs i v w s at is image =
        let lt : i < length vs = omega (arith, at_within (map f vs) i w at, length-map vs f) in
        at_same (map f vs) i w (f v) at (at_map_get vs i v lt is) ∙ sym image

    -- each walk leads from somewhere
    pub leads_at : (n : Shape T) (vs : List V) (i : ℕ) (v : V) (w : List (Edge T)) → Each (λ u. (x : T) × Leads n x u) (map f vs) → i < length vs → v ≡ get_or vs i v → w ≡ f v
        → (x : T) × Leads n x w
    leads_at n vs i v w all lt is same =
        let r : (x : T) × Leads n x (f v) = each_at (λ u. (x : T) × Leads n x u) (map f vs) i (f v) all (at_map_get vs i v lt is) in
        (r.0, subst (Leads n r.0) (sym same) r.1)

    pub on_walk : (vs : List V) (i : ℕ) (v : V) (w : List (Edge T)) (place : ℕ) (e : Edge T) → i < length vs → v ≡ get_or vs i v → w ≡ f v → At w place e → IsOnWalk (map f vs) i place e
    on_walk vs i v w place e lt is same at = (f v, at_map_get vs i v lt is, subst (λ u. At u place e) same at)

    -- an edge that is on none of the first walks nor on the next one
    pub absent_more : (vs : List V) (i : ℕ) (v : V) (w : List (Edge T)) (e : Edge T) → i < length vs → v ≡ get_or vs i v → w ≡ f v
        → (InFlow (map f (take i vs)) e → ⊥) → (Has w e → ⊥) → InFlow (map f (take (i + 1) vs)) e → ⊥
    absent_more vs i v w e lt is same before here h =
        let more : take (i + 1) vs ≡ take i vs ++ v ∷ [] = take_more vs i v lt ∙ ap (λ x. take i vs ++ x ∷ []) (sym is) in
        elim (in_flow_either (map f (take i vs)) (f v ∷ []) e (subst (λ l. InFlow l e) (ap (map f) more ∙ map-append f (take i vs) (v ∷ [])) h)) [
          | inl a ↦ before a
          | inr b ↦ elim b [ inl a ↦ here (subst (λ u. Has u e) (sym same) a) | inr none ↦ none ]
        ]

    pub on_walk_within : (vs : List V) (which place : ℕ) (e : Edge T) → IsOnWalk (map f vs) which place e → which < length vs
    on_walk_within vs which place e h = omega (arith, at_within (map f vs) which h.0 h.1, length-map vs f)

    pub on_walk_place : (vs : List V) (which place : ℕ) (e : Edge T) (v : V) → IsOnWalk (map f vs) which place e → v ≡ get_or vs which v → place < length (f v)
    on_walk_place vs which place e v h is =
        let same : h.0 ≡ f v = at_same (map f vs) which h.0 (f v) h.1 (at_map_get vs which v (on_walk_within vs which place e h) is) in
        at_within (f v) place e (subst (λ u. At u place e) same h.2)

    -- what taking a walk out, exchanging its part after the edge and putting it back makes of the walks
    pub exchanges : (vs vs_new : List V) (which place : ℕ) (e : Edge T) (v z : V) (t rest_new : List (Edge T))
        → IsOnWalk (map f vs) which place e → v ≡ get_or vs which v → f z ≡ take place (f v) ++ t → rest_new ≡ reverse (drop (place + 1) (f v))
        → vs_new ≡ insert (remove vs which) which z → Exchanges e (map f vs) t (map f vs_new) (reverse rest_new)
    exchanges vs vs_new which place e v z t rest_new h is walk rest put =
        let lt : which < length vs = on_walk_within vs which place e h in
        let at : At vs which v = subst (At vs which) (sym is) (at_get_or vs which v lt) in
        let r = replaced f vs which v z at in
        let same : h.0 ≡ f v = at_same (map f vs) which h.0 (f v) h.1 (at_map_get vs which v lt is) in
        let parts : f v ≡ take place (f v) ++ e ∷ drop (place + 1) (f v) = at_split (f v) place e (subst (λ u. At u place e) same h.2) in
        let kept : drop (place + 1) (f v) ≡ reverse rest_new = sym (ap reverse rest ∙ reverse-reverse (drop (place + 1) (f v))) in (
          r.0,
          r.1,
          take place (f v),
          r.2 ∙ ap (λ u. r.0 ++ u ∷ r.1) (parts ∙ ap (λ l. take place (f v) ++ e ∷ l) kept),
          ap (map f) put ∙ r.3 ∙ ap (λ u. r.0 ++ u ∷ r.1) walk,
        )

  -- the last edge of a list is the first of the walk in hand that the list holds backwards
  pub first_in_hand : (rest : List (Edge T)) (i : ℕ) (e : Edge T) → At rest i e → i + 1 ≡ length rest → reverse rest ≡ e ∷ reverse (take i rest)
  first_in_hand rest i e at last =
      let parts : rest ≡ take i rest ++ e ∷ [] = at_split rest i e at ∙ ap (λ l. take i rest ++ e ∷ l) (ap (λ k. drop k rest) last ∙ drop-length rest) in
      ap reverse parts ∙ reverse-append (take i rest) (e ∷ [])

  pub not_in_hand : (rest : List (Edge T)) (i : ℕ) (e : Edge T) → i ≡ length rest - 1 → (At rest i e → ⊥) → BeginsWith e (reverse rest) → ⊥
  not_in_hand rest i e last absent h =
      let parts : rest ≡ reverse h.0 ++ e ∷ [] = sym (reverse-reverse rest) ∙ ap reverse h.1 ∙ reverse-append (e ∷ []) h.0 in
      let one : length rest ≡ length (reverse h.0) + 1 = ap length parts ∙ length-append (reverse h.0) (e ∷ []) in
      let place : i ≡ length (reverse h.0) = omega arith in
      absent (subst (λ k. At rest k e) (sym place) (subst (λ l. At l (length (reverse h.0)) e) (sym parts) (at_after (reverse h.0) [] e)))

  -- the first edge goes out of hand
  pub hand_popped : (rest new slice : List (Edge T)) (i : ℕ) (e : Edge T) → slice ≡ rest → At slice i e → i ≡ length rest - 1 → new ≡ take i rest → reverse rest ≡ e ∷ reverse new
  hand_popped rest new slice i e same at last taken =
      let here : At rest i e = subst (λ l. At l i e) same at in
      let lt : i < length rest = at_within rest i e here in
      first_in_hand rest i e here (omega arith) ∙ ap (λ l. e ∷ reverse l) (sym taken)

  pub hand_lacks : (rest slice : List (Edge T)) (i : ℕ) (e : Edge T) → slice ≡ rest → (At slice i e → ⊥) → i ≡ length rest - 1 → BeginsWith e (reverse rest) → ⊥
  hand_lacks rest slice i e same absent last = not_in_hand rest i e last (λ at. absent (subst (λ l. At l i e) (sym same) at))

  -- an edge that goes in hand is the first of the walk in hand
  pub reverse_push : (rest new : List (Edge T)) (e : Edge T) → new ≡ rest ++ e ∷ [] → reverse new ≡ e ∷ reverse rest
  reverse_push rest new e pushed = ap reverse pushed ∙ reverse-append rest (e ∷ [])

module _ {T : Type 0} (n : Shape T) (falls : (x : T) (i : ℕ) → i < n.reads x → n.rank (n.read x i) < n.rank x) where
  -- ranks fall from the first node on
  pub rank_below : (w : List (Edge T)) (x : T) (e : Edge T) → Leads n x w → Has w e → n.rank e.from ≤ n.rank x
  rank_below [] x e l h = absurd h
  rank_below (f ∷ w) x e l (inl same) =
      let a : n.rank f.from ≡ n.rank x = ap n.rank l.0 in
      let b : n.rank f.from ≡ n.rank e.from = ap (λ u. n.rank u.from) same in
      omega arith
  rank_below (f ∷ w) x e l (inr h) =
      let to : n.rank f.to ≡ n.rank (n.read x f.index) = ap n.rank l.2 in
      let less : n.rank (n.read x f.index) < n.rank x = falls x f.index l.1 in
      let rest : n.rank e.from ≤ n.rank f.to = rank_below w f.to e l.3 h in
      omega arith

  -- the rank of a later edge is smaller
  pub ranks_fall : (w : List (Edge T)) (x : T) (i j : ℕ) (e f : Edge T) → Leads n x w → At w i e → At w j f → i < j → n.rank f.from < n.rank e.from
  ranks_fall [] x i j e f l a b lt = absurd a
  ranks_fall (d ∷ w) x i zero e f l a b lt = let c : ⊥ = omega arith in absurd c
  ranks_fall (d ∷ w) x zero (suc j) e f l a b lt =
      let to : n.rank d.to ≡ n.rank (n.read x d.index) = ap n.rank l.2 in
      let less : n.rank (n.read x d.index) < n.rank x = falls x d.index l.1 in
      let from : n.rank d.from ≡ n.rank x = ap n.rank l.0 in
      let same : n.rank d.from ≡ n.rank e.from = ap (λ u. n.rank u.from) a in
      let rest : n.rank f.from ≤ n.rank d.to = rank_below w d.to f l.3 (at_has w j f b) in
      omega arith
  ranks_fall (d ∷ w) x (suc i) (suc j) e f l a b lt = let less : i < j = omega arith in ranks_fall w d.to i j e f l.3 a b less

  -- a walk is parted by each rank
  pub parted : (rank : ℕ) (w : List (Edge T)) (x : T) → Leads n x w → IsPartitionedBy (λ e. nat_lt rank (n.rank e.from)) w
  parted rank w x l i j d le lt above =
      let lti : i < length w = omega arith in
      elim (cases_lt i j) [
        | inl less ↦
            let fall : n.rank (get_or w j d).from < n.rank (get_or w i d).from = ranks_fall w x i j (get_or w i d) (get_or w j d) l (at_get_or w i d lti) (at_get_or w j d lt) less in
            let low : rank < n.rank (get_or w j d).from = ltb-true rank (n.rank (get_or w j d).from) above in
            lt-ltb rank (n.rank (get_or w i d).from) (omega arith)
        | inr more ↦ let e : j ≡ i = omega arith in subst (λ k. nat_lt rank (n.rank (get_or w k d).from) ≡ true) e above
      ]

  -- an edge stands where the ranks above its own end, or nowhere
  pub absent_else : (w : List (Edge T)) (x : T) (e : Edge T) (place : ℕ) → Leads n x w
      → IsPartitionPoint (λ f. nat_lt (n.rank e.from) (n.rank f.from) ≡ true) (λ f. nat_lt (n.rank e.from) (n.rank f.from) ≡ false) w place
      → (At w place e → ⊥) → Has w e → ⊥
  absent_else w x e place l point not_here h =
      let there : (i : ℕ) × At w i e = has_at w e h in
      let lt : there.0 < length w = at_within w there.0 e there.1 in
      elim (cases_lt there.0 place) [
        | inl before ↦
            let above : n.rank e.from < n.rank (get_or w there.0 e).from = ltb-true (n.rank e.from) (n.rank (get_or w there.0 e).from) (point.0 there.0 e (omega arith) before) in
            let same : n.rank (get_or w there.0 e).from ≡ n.rank e.from = ap (λ u. n.rank u.from) (get_or_at w there.0 e e there.1) in
            let c : ⊥ = omega arith in absurd c
        | inr after ↦ elim (cases_lt place there.0) [
          | inl later ↦
              let lt_place : place < length w = omega arith in
              let low : n.rank (get_or w place e).from ≤ n.rank e.from = ltb-false (n.rank e.from) (n.rank (get_or w place e).from) (point.1 place e (omega arith) lt_place) in
              let fall : n.rank e.from < n.rank (get_or w place e).from = ranks_fall w x place there.0 (get_or w place e) e l (at_get_or w place e lt_place) there.1 later in
              let c : ⊥ = omega arith in absurd c
          | inr here ↦ let same : there.0 ≡ place = omega arith in not_here (subst (λ k. At w k e) same there.1)
        ]
      ]

  -- the ranks of the nodes that a walk comes to fall too
  to_below : (w : List (Edge T)) (x : T) (e : Edge T) → Leads n x w → Has w e → n.rank e.to < n.rank x
  to_below [] x e l h = absurd h
  to_below (d ∷ w) x e l (inl same) = omega (arith, ap n.rank l.2, ap (λ u. n.rank u.to) same, falls x d.index l.1)
  to_below (d ∷ w) x e l (inr h) = omega (arith, ap n.rank l.2, to_below w d.to e l.3 h, falls x d.index l.1)

  pub ranks_fall_to : (w : List (Edge T)) (x : T) (i j : ℕ) (e f : Edge T) → Leads n x w → At w i e → At w j f → i < j → n.rank f.to < n.rank e.to
  ranks_fall_to [] x i j e f l a b lt = absurd a
  ranks_fall_to (d ∷ w) x i zero e f l a b lt = let c : ⊥ = omega arith in absurd c
  ranks_fall_to (d ∷ w) x zero (suc j) e f l a b lt = omega (arith, ap (λ u. n.rank u.to) a, to_below w d.to f l.3 (at_has w j f b))
  ranks_fall_to (d ∷ w) x (suc i) (suc j) e f l a b lt = let less : i < j = omega arith in ranks_fall_to w d.to i j e f l.3 a b less

  pub parted_to : (rank : ℕ) (w : List (Edge T)) (x : T) → Leads n x w → IsPartitionedBy (λ e. nat_lt rank (n.rank e.to)) w
  parted_to rank w x l i j d le lt above =
      let lti : i < length w = omega arith in
      elim (cases_lt i j) [
        | inl less ↦
            let fall : n.rank (get_or w j d).to < n.rank (get_or w i d).to = ranks_fall_to w x i j (get_or w i d) (get_or w j d) l (at_get_or w i d lti) (at_get_or w j d lt) less in
            let low : rank < n.rank (get_or w j d).to = ltb-true rank (n.rank (get_or w j d).to) above in
            lt-ltb rank (n.rank (get_or w i d).to) (omega arith)
        | inr more ↦ let e : j ≡ i = omega arith in subst (λ k. nat_lt rank (n.rank (get_or w k d).to) ≡ true) e above
      ]

  -- an edge to a node stands where the ranks above the node's end, or nowhere
  pub absent_to : (w : List (Edge T)) (x : T) (e : Edge T) (place : ℕ) → Leads n x w
      → IsPartitionPoint (λ f. nat_lt (n.rank e.to) (n.rank f.to) ≡ true) (λ f. nat_lt (n.rank e.to) (n.rank f.to) ≡ false) w place
      → (At w place e → ⊥) → Has w e → ⊥
  absent_to w x e place l point not_here h =
      let there : (i : ℕ) × At w i e = has_at w e h in
      let lt : there.0 < length w = at_within w there.0 e there.1 in
      elim (cases_lt there.0 place) [
        | inl before ↦
            let above : n.rank e.to < n.rank (get_or w there.0 e).to = ltb-true (n.rank e.to) (n.rank (get_or w there.0 e).to) (point.0 there.0 e (omega arith) before) in
            let same : n.rank (get_or w there.0 e).to ≡ n.rank e.to = ap (λ u. n.rank u.to) (get_or_at w there.0 e e there.1) in
            let c : ⊥ = omega arith in absurd c
        | inr after ↦ elim (cases_lt place there.0) [
          | inl later ↦
              let lt_place : place < length w = omega arith in
              let low : n.rank (get_or w place e).to ≤ n.rank e.to = ltb-false (n.rank e.to) (n.rank (get_or w place e).to) (point.1 place e (omega arith) lt_place) in
              let fall : n.rank e.to < n.rank (get_or w place e).to = ranks_fall_to w x place there.0 (get_or w place e) e l (at_get_or w place e lt_place) there.1 later in
              let c : ⊥ = omega arith in absurd c
          | inr here ↦ let same : there.0 ≡ place = omega arith in not_here (subst (λ k. At w k e) same there.1)
        ]
      ]
