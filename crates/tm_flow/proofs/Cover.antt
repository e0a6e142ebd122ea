-- Where a search ends with no end met, the first unmet node of each walk of the flow makes a cut.
use Rattle.std.proofs.Common.{◌≡◌, ℕ, ◌+◌, ◌<◌, ◌≤◌, suc, Bool, true, false, cond, true≢false, ◌⊎◌, inl, inr, List, [], ◌∷◌, ◌++◌, length, Option, Some, None, option_to_list, is_some, refl, sym, ap, subst, ◌∙◌, arith}
use Rattle.tm_flow.specs.Lists.{Has, Each, AreApart}
use Rattle.tm_flow.specs.Nets.{Shape, IsPath, IsIndexWalk, nodes_of}
use Rattle.tm_flow.specs.Cuts.{MeetsAllWalks, IsCut}
use Rattle.tm_flow.specs.Flows.{Leads, InFlow, hits, all_hits, edges_to, all_edges_to, IsFlow}
use Rattle.tm_flow.specs.Searches.{near, far, IsSearchedOut, first_unmet, all_first_unmet}
use Rattle.tm_flow.specs.declared.flow.Edge.{Edge}
use Rattle.tm_flow.specs.declared.search.Side.{Side}
use Rattle.tm_flow.specs.declared.search.Step.TheVariants.{Read, Cross, Return, Back}
use Rattle.tm_flow.proofs.ListLemmas.{has_left, has_right, each_has}
use Rattle.tm_flow.proofs.Augment.{all_edges_to_has}

one_if : (b : Bool) → b ≡ true → cond {A = ℕ} b 1 0 ≡ 1
one_if b e = ap (λ c. cond {A = ℕ} c 1 0) e

module _ {T : Type 0} (n : Shape T) (eq : T → T → Bool) (same : (x y : T) → eq x y ≡ true → x ≡ y) (self : (x : T) → eq x x ≡ true)
    (root : T) (ws : List (List (Edge T))) (flow : IsFlow n eq root ws) (IsMet : Side T → Type 0) (met : T → Bool)
    (met_if : (v : T) → met v ≡ true → IsMet (far v)) (unmet_if : (v : T) → met v ≡ false → IsMet (far v) → ⊥)
    (start : IsMet (far root)) (out : IsSearchedOut n (λ v. all_edges_to eq v ws) IsMet) where
  no_end : (x : T) → IsMet (far x) → n.is_end x ≡ true → ⊥
  no_end x m e = (out (far x) m).1 (refl, e)

  along : (x : T) (i : ℕ) → IsMet (far x) → i < n.reads x → IsMet (near (n.read x i))
  along x i m lt = (out (far x) m).0 (Read i) (near (n.read x i)) (refl, (lt, refl))

  under : (x : T) → IsMet (far x) → IsMet (near x)
  under x m = (out (far x) m).0 Return (near x) (refl, refl)

  over : (x : T) → IsMet (near x) → (n.may_cut x ≡ false) ⊎ (all_edges_to eq x ws ≡ []) → IsMet (far x)
  over x m free = (out (near x) m).0 Cross (far x) (refl, refl, free)

  back : (x : T) (e : Edge T) → IsMet (near x) → Has (all_edges_to eq x ws) e → IsMet (far e.from)
  back x e m h = (out (near x) m).0 (Back e.index) (far e.from) (refl, (e, h, refl, refl))

  by_met : {P : Type 0} (v : T) → (met v ≡ true → P) → (met v ≡ false → P) → P
  by_met {P} v passed stopped = by (met v) refl
    where
      by : (b : Bool) → met v ≡ b → P
      by true e = passed e
      by false e = stopped e

  cuttable : (v : T) → IsMet (near v) → met v ≡ false → n.may_cut v ≡ true
  cuttable v m u = by (n.may_cut v) refl
    where
      by : (b : Bool) → n.may_cut v ≡ b → n.may_cut v ≡ true
      by true e = e
      by false e = absurd (unmet_if v u (over v m (inl e)))

  -- a walk to an end leaves the far sides that were met
  leaves : (is : List ℕ) (x : T) → IsMet (far x) → IsIndexWalk n x is → (v : T) × Has (nodes_of n x is) v × IsMet (near v) × (met v ≡ false)
  leaves [] x m w = absurd (no_end x m w)
  leaves (i ∷ is) x m w =
      by_met (n.read x i)
      (λ m1. let r = leaves is (n.read x i) (met_if (n.read x i) m1) w.1 in (r.0, inr r.1, r.2, r.3))
      (λ u1. (n.read x i, inl refl, along x i m w.0, u1))

  has_edges : (w : List (Edge T)) (e : Edge T) → Has w e → Has (edges_to eq e.to w) e
  has_edges [] e h = absurd h
  has_edges (d ∷ w) e (inl g) = subst (λ b. Has (cond b (d ∷ edges_to eq e.to w) (edges_to eq e.to w)) e) (sym (ap (λ x. eq x.to e.to) g ∙ self e.to)) (inl g)
  has_edges (d ∷ w) e (inr g) = by (eq d.to e.to) (has_edges w e g)
    where
      by : (b : Bool) → Has (edges_to eq e.to w) e → Has (cond b (d ∷ edges_to eq e.to w) (edges_to eq e.to w)) e
      by true h = inr h
      by false h = h

  has_all_edges : (us : List (List (Edge T))) (e : Edge T) → InFlow us e → Has (all_edges_to eq e.to us) e
  has_all_edges [] e h = absurd h
  has_all_edges (w ∷ us) e (inl h) = has_left (edges_to eq e.to w) (all_edges_to eq e.to us) e (has_edges w e h)
  has_all_edges (w ∷ us) e (inr h) = has_right (edges_to eq e.to w) (all_edges_to eq e.to us) e (has_all_edges us e h)

  -- an edge whose node has its near side met and its far side not is where its walk is first unmet
  first_is : (w : List (Edge T)) (x : T) (e : Edge T) → Leads n x w → ((d : Edge T) → Has w d → InFlow ws d) → Has w e → IsMet (near e.to) → met e.to ≡ false
      → IsMet (far x) × (first_unmet met w ≡ Some e.to)
  first_is [] x e l on h m u = absurd h
  first_is (d ∷ w) x e l on (inl g) m u = (
    subst (λ y. IsMet (far y)) (ap (λ z. z.from) (sym g) ∙ l.0) (back e.to e m (has_all_edges ws e (subst (InFlow ws) g (on d (inl refl))))),
    ap (λ z. cond (met z.to) (first_unmet met w) (Some z.to)) g ∙ ap (λ b. cond b (first_unmet met w) (Some e.to)) u,
  )
  first_is (d ∷ w) x e l on (inr g) m u =
      let r = first_is w d.to e l.3 (λ f h. on f (inr h)) g m u in (
        subst (λ y. IsMet (far y)) l.0 (back d.to d (under d.to r.0) (has_all_edges ws d (on d (inl refl)))),
        by_met d.to (λ m1. ap (λ b. cond b (first_unmet met w) (Some d.to)) m1 ∙ r.1) (λ u1. absurd (unmet_if d.to u1 r.0)),
      )

  in_flow_walk : (us : List (List (Edge T))) (e : Edge T) → InFlow us e → (w : List (Edge T)) × Has us w × Has w e
  in_flow_walk [] e h = absurd h
  in_flow_walk (w ∷ us) e (inl h) = (w, inl refl, h)
  in_flow_walk (w ∷ us) e (inr h) = let r = in_flow_walk us e h in (r.0, inr r.1, r.2)

  walk_in_flow : (us : List (List (Edge T))) (w : List (Edge T)) (e : Edge T) → Has us w → Has w e → InFlow us e
  walk_in_flow [] w e h g = absurd h
  walk_in_flow (u ∷ us) w e (inl f) g = inl (subst (λ l. Has l e) (sym f) g)
  walk_in_flow (u ∷ us) w e (inr h) g = inr (walk_in_flow us w e h g)

  has_firsts : (us : List (List (Edge T))) (w : List (Edge T)) (v : T) → Has us w → first_unmet met w ≡ Some v → Has (all_first_unmet met us) v
  has_firsts [] w v h f = absurd h
  has_firsts (u ∷ us) w v (inl e) f =
      has_left (option_to_list (first_unmet met u)) (all_first_unmet met us) v
      (subst (λ o. Has (option_to_list o) v) (sym (ap (first_unmet met) e ∙ f)) (inl refl))
  has_firsts (u ∷ us) w v (inr h) f = has_right (option_to_list (first_unmet met u)) (all_first_unmet met us) v (has_firsts us w v h f)

  covers : MeetsAllWalks n root (all_first_unmet met ws)
  covers is w = let v = leaves is root start w in by v.0 v.1 v.2 v.3 (all_edges_to eq v.0 ws) refl
    where
      by : (v : T) → Has (nodes_of n root is) v → IsMet (near v) → met v ≡ false → (edges : List (Edge T)) → all_edges_to eq v ws ≡ edges
          → (y : T) × Has (all_first_unmet met ws) y × Has (nodes_of n root is) y
      by v on m u [] none = absurd (unmet_if v u (over v m (inr none)))
      by v on m u (e ∷ edges) some =
          let used : InFlow ws e × (e.to ≡ v) = all_edges_to_has eq same v ws e (subst (λ l. Has l e) (sym some) (inl refl)) in
          let walk = in_flow_walk ws e used.0 in
          let first = first_is walk.0 root e (each_has (Leads n root) ws flow.walks walk.0 walk.1) (λ d h. walk_in_flow ws walk.0 d walk.1 h) walk.2
          (subst (λ y. IsMet (near y)) (sym used.1) m) (subst (λ y. met y ≡ false) (sym used.1) u) in
          (v, has_firsts ws walk.0 v walk.1 (first.1 ∙ ap Some used.1), on)

  first_far : (w : List (Edge T)) (x v : T) → Leads n x w → IsMet (far x) → first_unmet met w ≡ Some v
      → IsMet (near v) × (met v ≡ false) × (1 ≤ hits eq v w) × ((is : List ℕ) × IsPath n x is × Has (nodes_of n x is) v)
  first_far [] x v l m f = absurd (let o : is_some {T = T} None ≡ is_some (Some v) = ap is_some f in true≢false (sym o))
  first_far (e ∷ w) x v l m f =
      by_met e.to
      (λ m1.
      let rest : first_unmet met w ≡ Some v = sym (ap (λ b. cond b (first_unmet met w) (Some e.to)) m1) ∙ f in
      let r = first_far w e.to v l.3 (met_if e.to m1) rest in (
        r.0,
        r.1,
        omega (arith, r.2),
        (e.index ∷ r.3.0, (l.1, subst (λ y. IsPath n y r.3.0) l.2 r.3.1), inr (subst (λ y. Has (nodes_of n y r.3.0) v) l.2 r.3.2)),
      ))
      (λ u1.
      let is : e.to ≡ v = some_same (sym (ap (λ b. cond b (first_unmet met w) (Some e.to)) u1) ∙ f) in
      let one = one_if (eq e.to v) (ap (λ y. eq y v) is ∙ self v) in
      let here : IsMet (near e.to) = subst (λ y. IsMet (near y)) (sym l.2) (along x e.index m l.1) in (
        subst (λ y. IsMet (near y)) is here,
        subst (λ y. met y ≡ false) is u1,
        omega arith,
        (e.index ∷ [], (l.1, tt), inl (sym l.2 ∙ is)),
      ))
    where
      some_same : {a b : T} → Some a ≡ Some b → a ≡ b
      some_same {a} {b} h = cc

  -- each of the nodes is the first unmet of a walk
  of_walk : (us : List (List (Edge T))) (v : T) → Each (Leads n root) us → Has (all_first_unmet met us) v
      → IsMet (near v) × (met v ≡ false) × (1 ≤ all_hits eq v us) × ((is : List ℕ) × IsPath n root is × Has (nodes_of n root is) v)
  of_walk [] v a h = absurd h
  of_walk (u ∷ us) v a h = by (of_walk us v a.1) (first_unmet met u) refl h
    where
      by : (Has (all_first_unmet met us) v → IsMet (near v) × (met v ≡ false) × (1 ≤ all_hits eq v us) × ((is : List ℕ) × IsPath n root is × Has (nodes_of n root is) v))
          → (o : Option T) → first_unmet met u ≡ o → Has (option_to_list o ++ all_first_unmet met us) v
          → IsMet (near v) × (met v ≡ false) × (1 ≤ hits eq v u + all_hits eq v us) × ((is : List ℕ) × IsPath n root is × Has (nodes_of n root is) v)
      by rest None e g = let r = rest g in (r.0, r.1, omega (arith, r.2), r.3)
      by rest (Some x) e (inl g) = let r = first_far u root v a.0 start (e ∙ ap Some g) in (r.0, r.1, omega (arith, r.2), r.3)
      by rest (Some x) e (inr g) = let r = rest g in (r.0, r.1, omega (arith, r.2), r.3)

  apart : (us : List (List (Edge T))) → Each (Leads n root) us → ((v : T) → n.may_cut v ≡ true → all_hits eq v us ≤ 1) → AreApart (all_first_unmet met us)
  apart [] a room = tt
  apart (u ∷ us) a room = by (apart us a.1 (λ v may. let most : hits eq v u + all_hits eq v us ≤ 1 = room v may in omega arith)) (first_unmet met u) refl
    where
      by : AreApart (all_first_unmet met us) → (o : Option T) → first_unmet met u ≡ o → AreApart (option_to_list o ++ all_first_unmet met us)
      by rest None e = rest
      by rest (Some v) e = (
        (λ h.
            let here = first_far u root v a.0 start e in
            let there = of_walk us v a.1 h in
            let may : n.may_cut v ≡ true = cuttable v here.0 here.1 in
            let most : hits eq v u + all_hits eq v us ≤ 1 = room v may in
            let one : 1 ≤ hits eq v u = here.2 in
            let other : 1 ≤ all_hits eq v us = there.2 in
            let c : ⊥ = omega arith in c),
        rest,
      )

  few : (us : List (List (Edge T))) → length (all_first_unmet met us) ≤ length us
  few [] = omega arith
  few (u ∷ us) = by (few us) (first_unmet met u)
    where
      by : length (all_first_unmet met us) ≤ length us → (o : Option T) → length (option_to_list o ++ all_first_unmet met us) ≤ suc (length us)
      by rest None = omega arith
      by rest (Some v) = omega arith

  pub cut : IsCut n root (length ws) (all_first_unmet met ws)
  cut = record {
    few = few ws;
    apart = apart ws flow.walks flow.room;
    may_be_cut = λ v h. let r = of_walk ws v flow.walks h in cuttable v r.0 r.1;
    reached = λ v h. (of_walk ws v flow.walks h).3;
    covers = covers;
  }
