-- The edges of walks that come to a node: at most one of each walk, found where the ranks above the node's end.
use Rattle.std.proofs.Common.{◌≡◌, ℕ, zero, suc, ◌+◌, ◌<◌, ◌≤◌, Bool, true, false, cond, inl, inr, List, [], ◌∷◌, ◌++◌, length, nat_lt, refl, sym, ap, subst, ◌∙◌, arith}
use Rattle.std.specs.List.Sorted.{IsPartitionPoint}
use Rattle.tm_flow.specs.Lists.{Has, At}
use Rattle.tm_flow.specs.Nets.{Shape}
use Rattle.tm_flow.specs.Flows.{Leads, hits, all_hits, edges_to, all_edges_to, IsFlow}
use Rattle.tm_flow.specs.declared.flow.Edge.{Edge}
use Rattle.tm_flow.proofs.ListLemmas.{each_join}
use Rattle.tm_flow.proofs.PlaceLemmas.{at_has}
use Rattle.tm_flow.proofs.FlowLemmas.{absent_to}
use Rattle.tm_flow.proofs.WalkLemmas.{hits_once}
use Rattle.tm_flow.proofs.Augment.{edges_to_has, hits_count, all_hits_count, all_hits_join}

module _ {T : Type 0} (n : Shape T) (eq : T → T → Bool) (same : (x y : T) → eq x y ≡ true → x ≡ y) (self : (x : T) → eq x x ≡ true)
    (falls : (x : T) (i : ℕ) → i < n.reads x → n.rank (n.read x i) < n.rank x) where
  -- an edge of a walk is among those to its node
  among : (w : List (Edge T)) (e : Edge T) → Has w e → Has (edges_to eq e.to w) e
  among [] e h = absurd h
  among (d ∷ w) e (inl g) = subst (λ b. Has (cond b (d ∷ edges_to eq e.to w) (edges_to eq e.to w)) e) (sym (ap (λ x. eq x.to e.to) g ∙ self e.to)) (inl g)
  among (d ∷ w) e (inr g) = by (eq d.to e.to) (among w e g)
    where
      by : (b : Bool) → Has (edges_to eq e.to w) e → Has (cond b (d ∷ edges_to eq e.to w) (edges_to eq e.to w)) e
      by true h = inr h
      by false h = h

  only_one : (es : List (Edge T)) (e : Edge T) → length es ≤ 1 → Has es e → es ≡ e ∷ []
  only_one [] e few h = absurd h
  only_one (d ∷ []) e few (inl g) = ap (λ x. x ∷ []) g
  only_one (d ∷ []) e few (inr h) = absurd h
  only_one (d ∷ c ∷ es) e few h = let none : ⊥ = omega arith in absurd none

  -- the edge of a walk that comes to v is the only one
  pub edge_found : (w : List (Edge T)) (x v : T) (place : ℕ) (e : Edge T) → Leads n x w → At w place e → e.to ≡ v → edges_to eq v w ≡ e ∷ []
  edge_found w x v place e l at to =
      only_one (edges_to eq v w) e (omega (arith, hits_once n eq same self falls x w v l, hits_count eq v w))
      (subst (λ y. Has (edges_to eq y w) e) to (among w e (at_has w place e at)))

  pub edge_absent : (w : List (Edge T)) (x v : T) (place : ℕ) → Leads n x w
      → IsPartitionPoint (λ f. nat_lt (n.rank v) (n.rank f.to) ≡ true) (λ f. nat_lt (n.rank v) (n.rank f.to) ≡ false) w place
      → ((e : Edge T) × At w place e × (e.to ≡ v) → ⊥) → edges_to eq v w ≡ []
  edge_absent w x v place l point not_here = by (edges_to eq v w) refl
    where
      by : (es : List (Edge T)) → edges_to eq v w ≡ es → edges_to eq v w ≡ []
      by [] e = e
      by (d ∷ es) e =
          let on : Has w d × (d.to ≡ v) = edges_to_has eq same v w d (subst (λ l. Has l d) (sym e) (inl refl)) in
          absurd (absent_to n falls w x d place l
          (subst (λ y. IsPartitionPoint (λ f. nat_lt (n.rank y) (n.rank f.to) ≡ true) (λ f. nat_lt (n.rank y) (n.rank f.to) ≡ false) w place) (sym on.1) point)
          (λ at. not_here (d, at, on.1)) on.0)

  -- a node that an edge comes to
  hit_edge : (w : List (Edge T)) (v : T) → 1 ≤ hits eq v w → (e : Edge T) × Has w e × (e.to ≡ v)
  hit_edge [] v h = let c : ⊥ = omega arith in absurd c
  hit_edge (d ∷ w) v h = by (eq d.to v) refl h (hit_edge w v)
    where
      by : (b : Bool) → eq d.to v ≡ b → 1 ≤ cond b 1 0 + hits eq v w → (1 ≤ hits eq v w → (e : Edge T) × Has w e × (e.to ≡ v)) → (e : Edge T) × Has (d ∷ w) e × (e.to ≡ v)
      by true e k rest = (d, inl refl, same d.to v e)
      by false e k rest = let r = rest (omega arith) in (r.0, inr r.1, r.2)

  -- one more walk, whose nodes that may be cut are on none of the walks
  pub flow_more : (root : T) (ws : List (List (Edge T))) (w : List (Edge T)) → IsFlow n eq root ws → Leads n root w
      → ((e : Edge T) → Has w e → n.may_cut e.to ≡ true → all_edges_to eq e.to ws ≡ []) → IsFlow n eq root (ws ++ w ∷ [])
  flow_more root ws w flow l apart = record {
    walks = each_join (Leads n root) ws (w ∷ []) flow.walks (l, tt);
    room = λ v may.
        let once : hits eq v w ≤ 1 = hits_once n eq same self falls root w v l in
        let old : all_hits eq v ws ≤ 1 = flow.room v may in
        let join : all_hits eq v (ws ++ w ∷ []) ≡ all_hits eq v ws + (hits eq v w + 0) = all_hits_join eq v ws (w ∷ []) in
        by v may (hits eq v w) refl once old join;
  }
    where
      by : (v : T) → n.may_cut v ≡ true → (k : ℕ) → hits eq v w ≡ k → hits eq v w ≤ 1 → all_hits eq v ws ≤ 1
          → all_hits eq v (ws ++ w ∷ []) ≡ all_hits eq v ws + (hits eq v w + 0) → all_hits eq v (ws ++ w ∷ []) ≤ 1
      by v may zero e once old join = omega arith
      by v may (suc k) e once old join =
          let edge = hit_edge w v (omega arith) in
          let none : all_edges_to eq v ws ≡ [] = subst (λ y. n.may_cut y ≡ true → all_edges_to eq y ws ≡ []) edge.2 (apart edge.0 edge.1) may in
          let zeroth : all_hits eq v ws ≡ 0 = all_hits_count eq v ws ∙ ap length none in
          omega arith
