-- A flow grows: the steps of a way are undone from its end back to the root, with the walk from there
-- to an end in hand. A node that may be cut is come to at most once, where the near side in hand counts too.
use Rattle.std.proofs.Common.{◌≡◌, ℕ, ◌+◌, ◌-◌, ◌<◌, ◌≤◌, Bool, true, false, cond, true≢false, ◌⊎◌, inl, inr, List, [], ◌∷◌, ◌++◌, length, refl, sym, ap, subst, ◌∙◌, length-append, arith}
use Rattle.tm_flow.specs.Lists.{Has, Each, At}
use Rattle.tm_flow.specs.Nets.{Shape}
use Rattle.tm_flow.specs.Flows.{Leads, InFlow, BeginsWith, hits, all_hits, edges_to, all_edges_to, IsFlow, TakesBack}
use Rattle.tm_flow.specs.Searches.{sides, near, far, IsStep, IsWay, CanUndo, IsUndone, CanGrow}
use Rattle.tm_flow.specs.declared.flow.Edge.{Edge}
use Rattle.tm_flow.specs.declared.search.Side.{Side}
use Rattle.tm_flow.specs.declared.search.Step.{Step}
use Rattle.tm_flow.specs.declared.search.Taken.{Taken}
use Rattle.tm_flow.specs.declared.search.Step.TheVariants.{Read, Cross, Return, Back}
use Rattle.tm_flow.proofs.ListLemmas.{has_left, has_right, has_either, each_as, each_join, each_left, each_right}
use Rattle.tm_flow.proofs.PlaceLemmas.{at_same, at_once}
use Rattle.tm_flow.proofs.SearchLemmas.{at_side, far_is, near_is}
use Rattle.tm_flow.proofs.FlowLemmas.{in_flow_either, rank_below}

one_if : (b : Bool) → b ≡ true → cond {A = ℕ} b 1 0 ≡ 1
one_if b e = ap (λ c. cond {A = ℕ} c 1 0) e

zero_if : (b : Bool) → b ≡ false → cond {A = ℕ} b 1 0 ≡ 0
zero_if b e = ap (λ c. cond {A = ℕ} c 1 0) e

module _ {T : Type 0} where
  in_flow_left : (ws us : List (List (Edge T))) (e : Edge T) → InFlow ws e → InFlow (ws ++ us) e
  in_flow_left [] us e h = absurd h
  in_flow_left (w ∷ ws) us e (inl h) = inl h
  in_flow_left (w ∷ ws) us e (inr h) = inr (in_flow_left ws us e h)

  in_flow_right : (ws us : List (List (Edge T))) (e : Edge T) → InFlow us e → InFlow (ws ++ us) e
  in_flow_right [] us e h = h
  in_flow_right (w ∷ ws) us e h = inr (in_flow_right ws us e h)

  module _ (eq : T → T → Bool) where
    hits_join : (v : T) (xs ys : List (Edge T)) → hits eq v (xs ++ ys) ≡ hits eq v xs + hits eq v ys
    hits_join v [] ys = omega arith
    hits_join v (x ∷ xs) ys = omega (arith, hits_join v xs ys)

    pub all_hits_join : (v : T) (ws us : List (List (Edge T))) → all_hits eq v (ws ++ us) ≡ all_hits eq v ws + all_hits eq v us
    all_hits_join v [] us = omega arith
    all_hits_join v (w ∷ ws) us = omega (arith, all_hits_join v ws us)

    pub hits_count : (v : T) (w : List (Edge T)) → hits eq v w ≡ length (edges_to eq v w)
    hits_count v [] = refl
    hits_count v (e ∷ w) = by (eq e.to v) (hits_count v w)
      where
        by : (b : Bool) → hits eq v w ≡ length (edges_to eq v w) → cond b 1 0 + hits eq v w ≡ length (cond b (e ∷ edges_to eq v w) (edges_to eq v w))
        by true h = omega arith
        by false h = omega arith

    pub all_hits_count : (v : T) (ws : List (List (Edge T))) → all_hits eq v ws ≡ length (all_edges_to eq v ws)
    all_hits_count v [] = refl
    all_hits_count v (w ∷ ws) = omega (arith, hits_count v w, all_hits_count v ws, length-append (edges_to eq v w) (all_edges_to eq v ws))

    pub edges_to_has : ((x y : T) → eq x y ≡ true → x ≡ y) → (v : T) (w : List (Edge T)) (e : Edge T) → Has (edges_to eq v w) e → Has w e × (e.to ≡ v)
    edges_to_has same v [] e h = absurd h
    edges_to_has same v (d ∷ w) e h = by (eq d.to v) refl h (edges_to_has same v w e)
      where
        by : (b : Bool) → eq d.to v ≡ b → Has (cond b (d ∷ edges_to eq v w) (edges_to eq v w)) e → (Has (edges_to eq v w) e → Has w e × (e.to ≡ v)) → Has (d ∷ w) e × (e.to ≡ v)
        by true f (inl g) rest = (inl g, ap (λ x. x.to) (sym g) ∙ same d.to v f)
        by true f (inr g) rest = let r = rest g in (inr r.0, r.1)
        by false f g rest = let r = rest g in (inr r.0, r.1)

    pub all_edges_to_has : ((x y : T) → eq x y ≡ true → x ≡ y) → (v : T) (ws : List (List (Edge T))) (e : Edge T) → Has (all_edges_to eq v ws) e → InFlow ws e × (e.to ≡ v)
    all_edges_to_has same v [] e h = absurd h
    all_edges_to_has same v (w ∷ ws) e h =
        elim (has_either (edges_to eq v w) (all_edges_to eq v ws) e h) [
          | inl a ↦ let r : Has w e × (e.to ≡ v) = edges_to_has same v w e a in (inl r.0, r.1)
          | inr b ↦ let r : InFlow ws e × (e.to ≡ v) = all_edges_to_has same v ws e b in (inr r.0, r.1)
        ]

  module _ (n : Shape T) where
    -- a walk that goes on otherwise after an edge
    leads_instead : (front : List (Edge T)) (x : T) (e : Edge T) (after t : List (Edge T)) → Leads n x (front ++ e ∷ after) → Leads n e.from t → Leads n x (front ++ t)
    leads_instead [] x e after t l k = subst (λ y. Leads n y t) l.0 k
    leads_instead (f ∷ front) x e after t l k = (l.0, l.1, l.2, leads_instead front f.to e after t l.3 k)

    leads_after : (front : List (Edge T)) (x : T) (e : Edge T) (after : List (Edge T)) → Leads n x (front ++ e ∷ after) → Leads n e.to after
    leads_after [] x e after l = l.3
    leads_after (f ∷ front) x e after l = leads_after front f.to e after l.3

    module _ (eq : T → T → Bool) (same : (x y : T) → eq x y ≡ true → x ≡ y) (root : T) where
      -- walks from the root, and in hand a walk from the side q
      pub record Holds (ws : List (List (Edge T))) (t : List (Edge T)) (q : Side T) : Type 0 where
        pub walks : Each (Leads n root) ws
        pub rest : Leads n q.node t
        pub room : (v : T) → n.may_cut v ≡ true → all_hits eq v ws + hits eq v t + cond q.is_far 0 (cond (eq q.node v) 1 0) ≤ 1

      at_far : (q : Side T) (m : ℕ) → q.is_far ≡ true → cond q.is_far 0 m ≡ 0
      at_far q m f = ap (λ b. cond b 0 m) f

      at_near : (q : Side T) (m : ℕ) → q.is_far ≡ false → cond q.is_far 0 m ≡ m
      at_near q m f = ap (λ b. cond b 0 m) f

      hold_read : (ws : List (List (Edge T))) (t : List (Edge T)) (p q : Side T) (i : ℕ) → p.is_far ≡ true → i < n.reads p.node → q ≡ near (n.read p.node i)
          → Holds ws t q → Holds ws (record { from = p.node; index = i; to = q.node } ∷ t) p
      hold_read ws t p q i f lt is h = record {
        walks = h.walks;
        rest = (refl, lt, ap (λ s. s.node) is, h.rest);
        room = λ v may.
            let old : all_hits eq v ws + hits eq v t + cond q.is_far 0 (cond (eq q.node v) 1 0) ≤ 1 = h.room v may in
            let a = at_near q (cond (eq q.node v) 1 0) (ap (λ s. s.is_far) is) in
            let b = at_far p (cond (eq p.node v) 1 0) f in
            omega arith;
      }

      hold_return : (ws : List (List (Edge T))) (t : List (Edge T)) (p q : Side T) → p.is_far ≡ true → q ≡ near p.node → Holds ws t q → Holds ws t p
      hold_return ws t p q f is h = record {
        walks = h.walks;
        rest = subst (λ s. Leads n s.node t) is h.rest;
        room = λ v may.
            let old : all_hits eq v ws + hits eq v t + cond q.is_far 0 (cond (eq q.node v) 1 0) ≤ 1 = h.room v may in
            let b = at_far p (cond (eq p.node v) 1 0) f in
            omega arith;
      }

      hold_cross : (ws : List (List (Edge T))) (t : List (Edge T)) (p q : Side T) → p.is_far ≡ false → q ≡ far p.node
          → (n.may_cut q.node ≡ true → all_hits eq q.node ws + hits eq q.node t ≡ 0) → Holds ws t q → Holds ws t p
      hold_cross ws t p q f is unused h = record {
        walks = h.walks;
        rest = subst (λ s. Leads n s.node t) is h.rest;
        room = λ v may. by v may (eq p.node v) refl;
      }
        where
          by : (v : T) → n.may_cut v ≡ true → (b : Bool) → eq p.node v ≡ b → all_hits eq v ws + hits eq v t + cond p.is_far 0 (cond (eq p.node v) 1 0) ≤ 1
          by v may true e =
              let is_v : q.node ≡ v = ap (λ s. s.node) is ∙ same p.node v e in
              let none : all_hits eq v ws + hits eq v t ≡ 0 = subst (λ y. n.may_cut y ≡ true → all_hits eq y ws + hits eq y t ≡ 0) is_v unused may in
              let a = at_near p (cond (eq p.node v) 1 0) f in
              let one = one_if (eq p.node v) e in
              omega arith
          by v may false e =
              let old : all_hits eq v ws + hits eq v t + cond q.is_far 0 (cond (eq q.node v) 1 0) ≤ 1 = h.room v may in
              let a = at_near p (cond (eq p.node v) 1 0) f in
              let zeroth = zero_if (eq p.node v) e in
              omega arith

      -- edges that are taken back: their hits move to the near side in hand
      moved : (e : Edge T) (ws : List (List (Edge T))) (t : List (Edge T)) (ws' : List (List (Edge T))) (t' : List (Edge T)) → TakesBack e ws t ws' t' → (v : T)
          → all_hits eq v ws' + hits eq v t' + cond (eq e.to v) 1 0 ≡ all_hits eq v ws + hits eq v t
      moved e ws t ws' t' (inl pop) v =
          let a : hits eq v t ≡ cond (eq e.to v) 1 0 + hits eq v t' = ap (hits eq v) pop.0 in
          let b : all_hits eq v ws' ≡ all_hits eq v ws = ap (all_hits eq v) pop.1 in
          omega arith
      moved e ws t ws' t' (inr x) v =
          let a : all_hits eq v ws ≡ all_hits eq v x.0 + (hits eq v (x.2 ++ e ∷ t') + all_hits eq v x.1) = ap (all_hits eq v) x.3 ∙ all_hits_join eq v x.0 ((x.2 ++ e ∷ t') ∷ x.1) in
          let b : all_hits eq v ws' ≡ all_hits eq v x.0 + (hits eq v (x.2 ++ t) + all_hits eq v x.1) = ap (all_hits eq v) x.4 ∙ all_hits_join eq v x.0 ((x.2 ++ t) ∷ x.1) in
          let c : hits eq v (x.2 ++ e ∷ t') ≡ hits eq v x.2 + (cond (eq e.to v) 1 0 + hits eq v t') = hits_join eq v x.2 (e ∷ t') in
          let d : hits eq v (x.2 ++ t) ≡ hits eq v x.2 + hits eq v t = hits_join eq v x.2 t in
          omega arith

      hold_back : (ws : List (List (Edge T))) (t : List (Edge T)) (ws' : List (List (Edge T))) (t' : List (Edge T)) (p q : Side T) (i : ℕ) → p.is_far ≡ false → q.is_far ≡ true
          → TakesBack (record { from = q.node; index = i; to = p.node }) ws t ws' t' → Holds ws t q → Holds ws' t' p
      hold_back ws t ws' t' p q i f g back h = record {
        walks = walks back;
        rest = rest back;
        room = λ v may.
            let old : all_hits eq v ws + hits eq v t + cond q.is_far 0 (cond (eq q.node v) 1 0) ≤ 1 = h.room v may in
            let a = at_near p (cond (eq p.node v) 1 0) f in
            let b = moved (record { from = q.node; index = i; to = p.node }) ws t ws' t' back v in
            omega arith;
      }
        where
          walks : TakesBack (record { from = q.node; index = i; to = p.node }) ws t ws' t' → Each (Leads n root) ws'
          walks (inl pop) = subst (Each (Leads n root)) (sym pop.1) h.walks
          walks (inr x) =
              let e : Edge T = record { from = q.node; index = i; to = p.node } in
              let all : Each (Leads n root) (x.0 ++ (x.2 ++ e ∷ t') ∷ x.1) = subst (Each (Leads n root)) x.3 h.walks in
              let here : Each (Leads n root) ((x.2 ++ e ∷ t') ∷ x.1) = each_right (Leads n root) x.0 ((x.2 ++ e ∷ t') ∷ x.1) all in
              subst (Each (Leads n root)) (sym x.4)
              (each_join (Leads n root) x.0 ((x.2 ++ t) ∷ x.1) (each_left (Leads n root) x.0 ((x.2 ++ e ∷ t') ∷ x.1) all) (leads_instead x.2 root e t' t here.0 h.rest, here.1))

          rest : TakesBack (record { from = q.node; index = i; to = p.node }) ws t ws' t' → Leads n p.node t'
          rest (inl pop) = (subst (Leads n q.node) pop.0 h.rest).3
          rest (inr x) =
              let e : Edge T = record { from = q.node; index = i; to = p.node } in
              let all : Each (Leads n root) (x.0 ++ (x.2 ++ e ∷ t') ∷ x.1) = subst (Each (Leads n root)) x.3 h.walks in
              leads_after x.2 root e t' (each_right (Leads n root) x.0 ((x.2 ++ e ∷ t') ∷ x.1) all).0

      -- each other edge stays on the walks or in hand
      stays : (e : Edge T) (ws : List (List (Edge T))) (t : List (Edge T)) (ws' : List (List (Edge T))) (t' : List (Edge T)) → TakesBack e ws t ws' t' → (d : Edge T) → (e ≡ d → ⊥)
          → InFlow (t ∷ ws) d → InFlow (t' ∷ ws') d
      stays e ws t ws' t' (inl pop) d ne (inl h) =
          elim (subst (λ l. Has l d) pop.0 h) [ inl a ↦ absurd (ne a) | inr b ↦ inl b ]
      stays e ws t ws' t' (inl pop) d ne (inr h) = inr (subst (λ l. InFlow l d) (sym pop.1) h)
      stays e ws t ws' t' (inr x) d ne (inl h) = inr (subst (λ l. InFlow l d) (sym x.4) (in_flow_right x.0 ((x.2 ++ t) ∷ x.1) d (inl (has_right x.2 t d h))))
      stays e ws t ws' t' (inr x) d ne (inr h) =
          elim (in_flow_either x.0 ((x.2 ++ e ∷ t') ∷ x.1) d (subst (λ l. InFlow l d) x.3 h)) [
            | inl before ↦ inr (subst (λ l. InFlow l d) (sym x.4) (in_flow_left x.0 ((x.2 ++ t) ∷ x.1) d before))
            | inr there ↦ elim there [
              | inl on ↦ elim (has_either x.2 (e ∷ t') d on) [
                | inl front ↦ inr (subst (λ l. InFlow l d) (sym x.4) (in_flow_right x.0 ((x.2 ++ t) ∷ x.1) d (inl (has_left x.2 t d front))))
                | inr back ↦ elim back [ inl a ↦ absurd (ne a) | inr b ↦ inl b ]
              ]
              | inr after ↦ inr (subst (λ l. InFlow l d) (sym x.4) (in_flow_right x.0 ((x.2 ++ t) ∷ x.1) d (inr after)))
            ]
          ]

      -- what each earlier step needs to be undone: an edge that it went back over is still there, and a node that it crossed is free
      pub Allowed : List (List (Edge T)) → List (Edge T) → Side T → Step → Side T → Type 0
      Allowed ws t p (Back i) q = InFlow (t ∷ ws) (record { from = q.node; index = i; to = p.node })
      Allowed ws t p Cross q = n.may_cut q.node ≡ true → all_hits eq q.node ws + hits eq q.node t ≡ 0
      Allowed ws t p _ q = Unit {0}

      -- the steps of a way are undone from its end back to the side with the number
      pub record Unwinds (es : List (Taken T)) (at : ℕ) (ws : List (List (Edge T))) (t : List (Edge T)) : Type 0 where
        pub here : Side T
        pub place : At (sides es) at here
        pub holds : Holds ws t here
        pub allowed : (j : ℕ) (e : Taken T) (p : Side T) → At es j e → At (sides es) (j - 1) p → j ≤ at → 0 < j → Allowed ws t p e.step e.side

      allowed_first : (ws : List (List (Edge T))) (p : Side T) (step : Step) (q : Side T) → IsStep n (all_edges_to eq p.node ws) p step q → Allowed ws [] p step q
      unfolding Allowed
      allowed_first ws p (Read i) q h = tt
      allowed_first ws p Return q h = tt
      allowed_first ws p Cross q h =
          λ may. let is : q.node ≡ p.node = ap (λ s. s.node) h.1 in
          elim h.2 [
            | inl uncut ↦ absurd (true≢false (sym (subst (λ x. n.may_cut x ≡ true) is may) ∙ uncut))
            | inr none ↦ let a : all_hits eq q.node ws ≡ 0 = ap (λ x. all_hits eq x ws) is ∙ all_hits_count eq p.node ws ∙ ap length none in omega arith
          ]
      allowed_first ws p (Back i) q h =
          let edge : Edge T = h.1.0 in
          let on : InFlow ws edge × (edge.to ≡ p.node) = all_edges_to_has eq same p.node ws edge h.1.1 in
          let from : edge.from ≡ q.node = sym (ap (λ s. s.node) h.1.3) in
          let index : edge.index ≡ i = h.1.2 in
          let to : edge.to ≡ p.node = on.1 in
          inr (subst (InFlow ws) (λ j. record { from = from j; index = index j; to = to j }) on.0)

      pub unwinds_first : (ws : List (List (Edge T))) (es : List (Taken T)) → CanGrow n eq root ws es → Unwinds es (length es - 1) ws []
      unwinds_first ws es g = record {
        here = g.ends.0;
        place = g.ends.1;
        holds = record {
          walks = g.flow.walks;
          rest = g.ends.2.1;
          room = λ v may. let a = g.flow.room v may in let b = at_far g.ends.0 (cond (eq g.ends.0.node v) 1 0) g.ends.2.0 in omega arith;
        };
        allowed = λ j e p a b le pos.
            let came = g.way.came j e a pos in
            let is : came.0 ≡ p = at_same (sides es) (j - 1) came.0 p came.1 b in
            allowed_first ws p e.step e.side (subst (λ s. IsStep n (all_edges_to eq s.node ws) s e.step e.side) is came.2);
      }

      -- one step is undone, and an earlier one is still allowed
      module _ (into : T → List (Edge T)) (es : List (Taken T)) (way : IsWay n into root es) where
        far_once : (i j : ℕ) (p q : Side T) → At (sides es) i p → At (sides es) j q → p ≡ q → i ≡ j
        far_once i j p q a b e = at_once (sides es) i j q way.apart (subst (At (sides es) i) e a) b

        allowed_back : (at : ℕ) (e : Taken T) (p : Side T) (i : ℕ) (ws : List (List (Edge T))) (t : List (Edge T)) (ws' : List (List (Edge T))) (t' : List (Edge T))
            → At es at e → e.side.is_far ≡ true → TakesBack (record { from = e.side.node; index = i; to = p.node }) ws t ws' t'
            → (j : ℕ) (d : Taken T) (s : Side T) → At es j d → j < at → (step : Step) → IsStep n (into s.node) s step d.side → Allowed ws t s step d.side → Allowed ws' t' s step d.side
        unfolding Allowed
        allowed_back at e p i ws t ws' t' here f back j d s a lt (Read k) is old = tt
        allowed_back at e p i ws t ws' t' here f back j d s a lt Return is old = tt
        allowed_back at e p i ws t ws' t' here f back j d s a lt Cross is old =
            λ may. let o = old may in let m = moved (record { from = e.side.node; index = i; to = p.node }) ws t ws' t' back d.side.node in omega arith
        allowed_back at e p i ws t ws' t' here f back j d s a lt (Back k) is old =
            stays (record { from = e.side.node; index = i; to = p.node }) ws t ws' t' back (record { from = d.side.node; index = k; to = s.node })
            (λ same_edge.
            let node : e.side.node ≡ d.side.node = ap (λ x. x.from) same_edge in
            let is_far : d.side ≡ far d.side.node = far_is d.side (ap (λ x. x.is_far) is.1.3) in
            let same_side : e.side ≡ d.side = far_is e.side f ∙ ap far node ∙ sym is_far in
            let once : at ≡ j = far_once at j e.side d.side (at_side es at e here) (at_side es j d a) same_side in
            let none : ⊥ = omega arith in absurd none)
            old

        allowed_read : (at : ℕ) (e : Taken T) (p : Side T) (i : ℕ) (ws : List (List (Edge T))) (t : List (Edge T))
            → At es at e → e.side ≡ near e.side.node
            → (j : ℕ) (d : Taken T) (s : Side T) → At es j d → j < at → At (sides es) (j - 1) s → 0 < j
            → (step : Step) → IsStep n (into s.node) s step d.side → Allowed ws t s step d.side
            → Allowed ws (record { from = p.node; index = i; to = e.side.node } ∷ t) s step d.side
        unfolding Allowed
        allowed_read at e p i ws t here f j d s a lt b earlier (Read k) is old = tt
        allowed_read at e p i ws t here f j d s a lt b earlier Return is old = tt
        allowed_read at e p i ws t here f j d s a lt b earlier (Back k) is old = elim old [ inl x ↦ inl (inr x) | inr y ↦ inr y ]
        allowed_read at e p i ws t here f j d s a lt b earlier Cross is old = λ may. by (old may) (eq e.side.node d.side.node) refl
          where
            by : all_hits eq d.side.node ws + hits eq d.side.node t ≡ 0 → (c : Bool) → eq e.side.node d.side.node ≡ c
                → all_hits eq d.side.node ws + (cond (eq e.side.node d.side.node) 1 0 + hits eq d.side.node t) ≡ 0
            by o true c =
                let node : e.side.node ≡ d.side.node = same e.side.node d.side.node c in
                let parent : s ≡ near s.node = near_is s is.0 in
                let same_side : e.side ≡ s = f ∙ ap near (node ∙ ap (λ x. x.node) is.1) ∙ sym parent in
                let once : at ≡ j - 1 = far_once at (j - 1) e.side s (at_side es at e here) b same_side in
                let none : ⊥ = omega arith in absurd none
            by o false c = let z = zero_if (eq e.side.node d.side.node) c in omega arith

        -- one step undone, by its kind
        undone : (at : ℕ) (e : Taken T) (p : Side T) (ws : List (List (Edge T))) (t : List (Edge T)) (ws' : List (List (Edge T))) (t' : List (Edge T))
            → At es at e → (step : Step) → IsStep n (into p.node) p step e.side → Allowed ws t p step e.side → IsUndone p step e.side ws t ws' t' → Holds ws t e.side
            → Holds ws' t' p
            × ((j : ℕ) (d : Taken T) (s : Side T) → At es j d → j < at → At (sides es) (j - 1) s → 0 < j → (k : Step) → IsStep n (into s.node) s k d.side → Allowed ws t s k d.side → Allowed ws' t' s k d.side)
        unfolding Allowed
        undone at e p ws t ws' t' here (Read i) is may u h = (
          subst (λ l. Holds l t' p) (sym u.0) (subst (λ l. Holds ws l p) (sym u.1) (hold_read ws t p e.side i is.0 is.1.0 is.1.1 h)),
          (λ j d s a lt b earlier k st old. subst (λ l. Allowed l t' s k d.side) (sym u.0) (subst (λ l. Allowed ws l s k d.side) (sym u.1)
              (allowed_read at e p i ws t here (is.1.1 ∙ ap near (sym (ap (λ x. x.node) is.1.1))) j d s a lt b earlier k st old))),
        )
        undone at e p ws t ws' t' here Cross is may u h = (
          subst (λ l. Holds l t' p) (sym u.0) (subst (λ l. Holds ws l p) (sym u.1) (hold_cross ws t p e.side is.0 is.1 may h)),
          (λ j d s a lt b earlier k st old. subst (λ l. Allowed l t' s k d.side) (sym u.0) (subst (λ l. Allowed ws l s k d.side) (sym u.1) old)),
        )
        undone at e p ws t ws' t' here Return is may u h = (
          subst (λ l. Holds l t' p) (sym u.0) (subst (λ l. Holds ws l p) (sym u.1) (hold_return ws t p e.side is.0 is.1 h)),
          (λ j d s a lt b earlier k st old. subst (λ l. Allowed l t' s k d.side) (sym u.0) (subst (λ l. Allowed ws l s k d.side) (sym u.1) old)),
        )
        undone at e p ws t ws' t' here (Back i) is may u h =
            let f : e.side.is_far ≡ true = ap (λ x. x.is_far) is.1.3 in (
              hold_back ws t ws' t' p e.side i is.0 f u h,
              (λ j d s a lt b earlier k st old. allowed_back at e p i ws t ws' t' here f u j d s a lt k st old),
            )

        pub unwinds_on : (at : ℕ) (e : Taken T) (p : Side T) (ws : List (List (Edge T))) (t : List (Edge T)) (ws' : List (List (Edge T))) (t' : List (Edge T))
            → At es at e → At (sides es) (at - 1) p → 0 < at → IsUndone p e.step e.side ws t ws' t' → Unwinds es at ws t → Unwinds es (at - 1) ws' t'
        unwinds_on at e p ws t ws' t' here before pos u w =
            let came = way.came at e here pos in
            let is : came.0 ≡ p = at_same (sides es) (at - 1) came.0 p came.1 before in
            let step : IsStep n (into p.node) p e.step e.side = subst (λ s. IsStep n (into s.node) s e.step e.side) is came.2 in
            let this : w.here ≡ e.side = at_same (sides es) at w.here e.side w.place (at_side es at e here) in
            let le : at ≤ at = omega arith in
            let r = undone at e p ws t ws' t' here e.step step (w.allowed at e p here before le pos) u (subst (Holds ws t) this w.holds) in
            record {
              here = p;
              place = before;
              holds = r.0;
              allowed = λ j d s a b lej posj.
                  let cj = way.came j d a posj in
                  let isj : cj.0 ≡ s = at_same (sides es) (j - 1) cj.0 s cj.1 b in
                  r.1 j d s a (omega arith) b posj d.step (subst (λ x. IsStep n (into x.node) x d.step d.side) isj cj.2) (w.allowed j d s a b (omega arith) posj);
            }

        -- back at the root, the walk in hand is one more
        pub unwinds_last : (ws : List (List (Edge T))) (t : List (Edge T)) → Unwinds es 0 ws t → IsFlow n eq root (ws ++ t ∷ [])
        unwinds_last ws t w =
            let this : w.here ≡ far root = at_same (sides es) 0 w.here (far root) w.place way.first in
            record {
              walks = each_join (Leads n root) ws (t ∷ []) w.holds.walks (subst (λ s. Leads n s.node t) this w.holds.rest, tt);
              room = λ v may.
                  let a = w.holds.room v may in
                  let b = all_hits_join eq v ws (t ∷ []) in
                  omega arith;
            }

        -- the next step can be undone
        pub can_undo : ((x : T) (i : ℕ) → i < n.reads x → n.rank (n.read x i) < n.rank x) → (at : ℕ) (e : Taken T) (p : Side T) (ws : List (List (Edge T))) (t : List (Edge T))
            → At es at e → At (sides es) (at - 1) p → 0 < at → Unwinds es at ws t → CanUndo p e.step e.side ws t
        unfolding Allowed
        can_undo falls at e p ws t here before pos w =
            let this : w.here ≡ e.side = at_same (sides es) at w.here e.side w.place (at_side es at e here) in
            let le : at ≤ at = omega arith in
            on e.step (w.allowed at e p here before le pos) (subst (λ s. Leads n s.node t) this w.holds.rest)
          where
            begins : (u : List (Edge T)) (x : T) (d : Edge T) → Leads n x u → Has u d → d.from ≡ x → BeginsWith d u
            begins [] x d l h f = absurd h
            begins (c ∷ u) x d l (inl g) f = (u, ap (λ z. z ∷ u) g)
            begins (c ∷ u) x d l (inr g) f =
                let to : n.rank c.to ≡ n.rank (n.read x c.index) = ap n.rank l.2 in
                let less : n.rank (n.read x c.index) < n.rank x = falls x c.index l.1 in
                let low : n.rank d.from ≤ n.rank c.to = rank_below n falls u c.to d l.3 g in
                let from : n.rank d.from ≡ n.rank x = ap n.rank f in
                let none : ⊥ = omega arith in absurd none

            on : (step : Step) → Allowed ws t p step e.side → Leads n e.side.node t → CanUndo p step e.side ws t
            on (Read i) a l = tt
            on Cross a l = tt
            on Return a l = tt
            on (Back i) a l = elim a [ inl x ↦ inl (begins t e.side.node (record { from = e.side.node; index = i; to = p.node }) l x refl) | inr y ↦ inr y ]

        pub walks_lead : (at : ℕ) (ws : List (List (Edge T))) (t : List (Edge T)) → Unwinds es at ws t → Each (λ u. (x : T) × Leads n x u) ws
        walks_lead at ws t w = each_as (Leads n root) (λ u. (x : T) × Leads n x u) (λ u l. (root, l)) ws w.holds.walks

  -- undoing a step leaves as many walks
  pub undone_length : (p : Side T) (step : Step) (q : Side T) (ws : List (List (Edge T))) (t : List (Edge T)) (ws' : List (List (Edge T))) (t' : List (Edge T))
      → IsUndone p step q ws t ws' t' → length ws' ≡ length ws
  undone_length p (Read i) q ws t ws' t' u = ap length u.0
  undone_length p Cross q ws t ws' t' u = ap length u.0
  undone_length p Return q ws t ws' t' u = ap length u.0
  undone_length p (Back i) q ws t ws' t' (inl pop) = ap length pop.1
  undone_length p (Back i) q ws t ws' t' (inr x) =
      let e : Edge T = record { from = q.node; index = i; to = p.node } in
      ap length x.4 ∙ length-append x.0 ((x.2 ++ t) ∷ x.1) ∙ sym (ap length x.3 ∙ length-append x.0 ((x.2 ++ e ∷ t') ∷ x.1))

  -- what is on the walks or in hand after a step is undone was there before, or comes to the node of the step's side
  pub undone_edges : (p : Side T) (step : Step) (q : Side T) (ws : List (List (Edge T))) (t : List (Edge T)) (ws' : List (List (Edge T))) (t' : List (Edge T))
      → IsUndone p step q ws t ws' t' → (d : Edge T) → InFlow (t' ∷ ws') d → InFlow (t ∷ ws) d ⊎ (q.node ≡ d.to)
  undone_edges p (Read i) q ws t ws' t' u d (inl h) =
      elim (subst (λ l. Has l d) u.1 h) [ inl new ↦ inr (ap (λ x. x.to) new) | inr old ↦ inl (inl old) ]
  undone_edges p (Read i) q ws t ws' t' u d (inr h) = inl (inr (subst (λ l. InFlow l d) u.0 h))
  undone_edges p Cross q ws t ws' t' u d (inl h) = inl (inl (subst (λ l. Has l d) u.1 h))
  undone_edges p Cross q ws t ws' t' u d (inr h) = inl (inr (subst (λ l. InFlow l d) u.0 h))
  undone_edges p Return q ws t ws' t' u d (inl h) = inl (inl (subst (λ l. Has l d) u.1 h))
  undone_edges p Return q ws t ws' t' u d (inr h) = inl (inr (subst (λ l. InFlow l d) u.0 h))
  undone_edges p (Back i) q ws t ws' t' (inl pop) d (inl h) = inl (inl (subst (λ l. Has l d) (sym pop.0) (inr h)))
  undone_edges p (Back i) q ws t ws' t' (inl pop) d (inr h) = inl (inr (subst (λ l. InFlow l d) pop.1 h))
  undone_edges p (Back i) q ws t ws' t' (inr x) d (inl h) =
      let e : Edge T = record { from = q.node; index = i; to = p.node } in
      inl (inr (subst (λ l. InFlow l d) (sym x.3) (in_flow_right x.0 ((x.2 ++ e ∷ t') ∷ x.1) d (inl (has_right x.2 (e ∷ t') d (inr h))))))
  undone_edges p (Back i) q ws t ws' t' (inr x) d (inr h) =
      let e : Edge T = record { from = q.node; index = i; to = p.node } in
      elim (in_flow_either x.0 ((x.2 ++ t) ∷ x.1) d (subst (λ l. InFlow l d) x.4 h)) [
        | inl before ↦ inl (inr (subst (λ l. InFlow l d) (sym x.3) (in_flow_left x.0 ((x.2 ++ e ∷ t') ∷ x.1) d before)))
        | inr there ↦ elim there [
          | inl on ↦ elim (has_either x.2 t d on) [
            | inl front ↦ inl (inr (subst (λ l. InFlow l d) (sym x.3) (in_flow_right x.0 ((x.2 ++ e ∷ t') ∷ x.1) d (inl (has_left x.2 (e ∷ t') d front)))))
            | inr hand ↦ inl (inl hand)
          ]
          | inr after ↦ inl (inr (subst (λ l. InFlow l d) (sym x.3) (in_flow_right x.0 ((x.2 ++ e ∷ t') ∷ x.1) d (inr after))))
        ]
      ]

  -- the walks and the walk in hand as one list
  pub in_hand_too : (ws : List (List (Edge T))) (t : List (Edge T)) (d : Edge T) → InFlow (ws ++ t ∷ []) d → InFlow (t ∷ ws) d
  in_hand_too ws t d h = elim (in_flow_either ws (t ∷ []) d h) [ inl a ↦ inr a | inr b ↦ elim b [ inl on ↦ inl on | inr none ↦ absurd none ] ]
