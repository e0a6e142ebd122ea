-- The nodes that a search can meet are finite: a net reaches finitely many nodes, since ranks fall.
use Rattle.std.proofs.Common.{◌≡◌, ℕ, ◌*◌, ◌<◌, ◌≤◌, zero, suc, inl, inr, List, [], ◌∷◌, ◌++◌, length, refl, sym, ap, subst, arith}
use Rattle.std.proofs.lemmas.Bool.{cases_lt}
use Rattle.tm_flow.specs.Lists.{Has, Each}
use Rattle.tm_flow.specs.Nets.{Shape, IsPath, node_after, Reaches}
use Rattle.tm_flow.specs.Searches.{IsStep, IsNumbered, count_of}
use Rattle.tm_flow.specs.declared.flow.Edge.{Edge}
use Rattle.tm_flow.specs.declared.search.Marks.{Marks}
use Rattle.tm_flow.specs.declared.search.Side.{Side}
use Rattle.tm_flow.specs.declared.search.Step.{Step}
use Rattle.tm_flow.specs.declared.search.Step.TheVariants.{Read, Cross, Return, Back}
use Rattle.tm_flow.proofs.ListLemmas.{has_left, has_right, each_has, each_from, apart_within}
use Rattle.tm_flow.proofs.MarkLemmas.{count_few}

-- the lists of the first `count` indices, one after another
all_of : {T : Type 0} → ℕ → (ℕ → List T) → List T
all_of zero f = []
all_of (suc c) f = all_of c f ++ f c

has_all_of : {T : Type 0} (count : ℕ) (f : ℕ → List T) (i : ℕ) (x : T) → i < count → Has (f i) x → Has (all_of count f) x
unfolding all_of
has_all_of zero f i x lt h = let c : ⊥ = omega arith in absurd c
has_all_of (suc c) f i x lt h =
    elim (cases_lt i c) [
      | inl less ↦ has_left (all_of c f) (f c) x (has_all_of c f i x less h)
      | inr more ↦ let e : i ≡ c = omega arith in has_right (all_of c f) (f c) x (subst (λ j. Has (f j) x) e h)
    ]

module _ {T : Type 0} (n : Shape T) where
  -- the nodes within `depth` reads of x
  unfolded : ℕ → T → List T
  unfolded zero x = x ∷ []
  unfolded (suc depth) x = x ∷ all_of (n.reads x) (λ i. unfolded depth (n.read x i))

  -- how many marks the nodes that x reaches there may have
  pub most_marks : T → ℕ
  most_marks x = 2 * length (unfolded n.bound x)

  module _ (falls : (x : T) (i : ℕ) → i < n.reads x → n.rank (n.read x i) < n.rank x) (below : (x : T) → n.rank x < n.bound) where
    has_after : (depth : ℕ) (is : List ℕ) (x : T) → n.rank x ≤ depth → IsPath n x is → Has (unfolded depth x) (node_after n x is)
    unfolding unfolded
    has_after zero [] x r p = inl refl
    has_after (suc depth) [] x r p = inl refl
    has_after zero (i ∷ is) x r p = let f = falls x i p.0 in let c : ⊥ = omega arith in absurd c
    has_after (suc depth) (i ∷ is) x r p =
        let f : n.rank (n.read x i) < n.rank x = falls x i p.0 in
        let d : n.rank (n.read x i) ≤ depth = omega arith in
        inr (has_all_of (n.reads x) (λ j. unfolded depth (n.read x j)) i (node_after n (n.read x i) is) p.0 (has_after depth is (n.read x i) d p.1))

    -- the marks of different nodes that are reached are no more than those
    pub marks_within : (x : T) (nodes : List T) (marks : List Marks) → IsNumbered nodes marks → Each (Reaches n x) nodes → count_of marks ≤ most_marks x
    unfolding most_marks
    marks_within x nodes marks numbered reached =
        let few : length nodes ≤ length (unfolded n.bound x) =
        apart_within nodes (unfolded n.bound x) numbered.apart
        (each_from (Has (unfolded n.bound x)) nodes (λ v h.
        let r : Reaches n x v = each_has (Reaches n x) nodes reached v h in
        let low : n.rank x ≤ n.bound = omega (arith, below x) in
        subst (Has (unfolded n.bound x)) r.2 (has_after n.bound r.0 x low r.1))) in
        omega (arith, count_few marks, numbered.even)

  pub reaches_here : (x : T) → Reaches n x x
  reaches_here x = ([], tt, refl)

  pub reaches_read : (x v : T) (i : ℕ) → Reaches n x v → i < n.reads v → Reaches n x (n.read v i)
  reaches_read x v i r lt = on r.0 x v r.1 r.2 lt
    where
      on : (is : List ℕ) (y w : T) → IsPath n y is → node_after n y is ≡ w → i < n.reads w → Reaches n y (n.read w i)
      on [] y w p e l = (i ∷ [], (subst (λ z. i < n.reads z) (sym e) l, tt), ap (λ z. n.read z i) e)
      on (j ∷ js) y w p e l = let r = on js (n.read y j) w p.1 e l in (j ∷ r.0, (p.0, r.1), r.2)

  -- a step leads from a side of a node that is reached to one of a node that is reached
  pub reaches_step : (into : T → List (Edge T)) (root : T) → ((v : T) → Each (λ e. Reaches n root e.from) (into v)) → (p : Side T) (how : Step) (q : Side T)
      → Reaches n root p.node → IsStep n (into p.node) p how q → Reaches n root q.node
  reaches_step into root known p (Read i) q r h = subst (λ t. Reaches n root t.node) (sym h.1.1) (reaches_read root p.node i r h.1.0)
  reaches_step into root known p Cross q r h = subst (λ t. Reaches n root t.node) (sym h.1) r
  reaches_step into root known p Return q r h = subst (λ t. Reaches n root t.node) (sym h.1) r
  reaches_step into root known p (Back i) q r h = subst (λ t. Reaches n root t.node) (sym h.1.3) (each_has (λ e. Reaches n root e.from) (into p.node) (known p.node) h.1.0 h.1.1)
