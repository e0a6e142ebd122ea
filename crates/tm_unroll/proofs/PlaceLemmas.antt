-- Places of tables by their gates, and what is read at them.
use Rattle.std.proofs.Common.{◌≡◌, ◌≢◌, ℕ, zero, suc, ◌+◌, ◌<◌, max, inl, inr, List, [], ◌∷◌, ◌++◌, map, length, get_or, set, take, Some, None, Option, refl, sym, ◌∙◌, ap, subst, arith, length-set, get_or-set_same, get_or-set_other}
use Rattle.std.specs.Prelude.{Contains, AllPairs, slice_get, slice_index}
use Rattle.std.proofs.lemmas.Bool.{cases_lt, cases_eq}
use Rattle.std.proofs.lemmas.List.{take_more}
use Rattle.std.proofs.lemmas.List.Elements.{Contains-push_cases, Contains-append_left, Contains-append_right, Contains-get_or}
use Rattle.tm_circuit.specs.Plain.{Plain}
use Rattle.tm_circuit.proofs.ListLemmas.{contains-first, contains-cases, contains-none, contains-map}
use Rattle.tm_unroll.specs.declared.node.Node.{Node}
use Rattle.tm_unroll.specs.declared.node.Lut.{Lut}
use Rattle.tm_unroll.specs.Mappings.{Table, table_of, root}
use Rattle.tm_unroll.specs.Depths.{IsMapping, ArePlacesOf, HasNoRoot, depth_in, IsDeepest}
use Rattle.tm_unroll.proofs.ListLemmas.{pairs-at, one-at}
use Rattle.tm_unroll.proofs.JudgeLemmas.{gate_within}

-- What stands in a list stands mapped at the same place.
mapped-at : {X Y : Type 0} (f : X → Y) (xs : List X) (i : ℕ) (x : X) → i < length xs → x ≡ get_or xs i x → slice_get (map f xs) i ≡ Some (f x)
mapped-at f [] i x inside is = absurd (omega arith)
mapped-at f (y ∷ xs) zero x inside is = ap (λ z. Some (f z)) (sym is)
mapped-at f (y ∷ xs) (suc i) x inside is = mapped-at f xs i x (omega arith) is

-- One table more has its place.
place_more : (tables : List Table) (signals i : ℕ) (places : List (Option ℕ)) (t : Table) → AllPairs (λ (t : Table) (u : Table). t.gate < u.gate) tables
    → ArePlacesOf tables signals i places → slice_get tables i ≡ Some t → t.gate < signals → ArePlacesOf tables signals (suc i) (set places t.gate (Some i))
place_more tables signals i places t ascending are at low = record {
  sized = length-set places t.gate (Some i) ∙ are.sized;
  points = λ s place read. elim (cases_eq s t.gate) [
    | inl same ↦
        let here : Some i ≡ Some place = sym (own s same) ∙ read in
        let e : i ≡ place = cc in
        (t, subst (λ n. slice_get tables n ≡ Some t) e at, sym same)
    | inr other ↦ are.points s place (sym (get_or-set_other places t.gate s (Some i) None other) ∙ read)
  ];
  all = λ place u before stands. elim (cases_lt place i) [
    | inl earlier ↦
        let less = pairs-at (λ (v : Table) (w : Table). v.gate < w.gate) tables ascending place i u t earlier stands at in
        let other : u.gate ≢ t.gate = omega (arith, less) in
        get_or-set_other places t.gate u.gate (Some i) None other ∙ are.all place u earlier stands
    | inr late ↦
        let e : place ≡ i = omega (arith, before, late) in
        let same : u ≡ t = one-at tables i u t (subst (λ n. slice_get tables n ≡ Some u) e stands) at in
        own u.gate (ap (λ (w : Table). w.gate) same) ∙ ap Some (sym e)
  ];
}
  where
    own : (s : ℕ) → s ≡ t.gate → get_or (set places t.gate (Some i)) s None ≡ Some i
    own s same =
        ap (λ n. get_or (set places t.gate (Some i)) n None) same
        ∙ get_or-set_same places t.gate (Some i) None (let sized = are.sized in omega (arith, low, sized))

-- One table more of a list of tables in code has its place.
pub place_next : (luts : List Lut) (signals i : ℕ) (places : List (Option ℕ)) (lut : Lut) → AllPairs (λ (t : Table) (u : Table). t.gate < u.gate) (map table_of luts)
    → ArePlacesOf (map table_of luts) signals i places → i < length luts → lut ≡ get_or luts i lut → lut.gate < signals
    → ArePlacesOf (map table_of luts) signals (i + 1) (set places lut.gate (Some i))
place_next luts signals i places lut ascending are inside is low =
    let one : suc i ≡ i + 1 = omega arith in
    subst (λ n. ArePlacesOf (map table_of luts) signals n (set places lut.gate (Some i))) one
    (place_more (map table_of luts) signals i places (table_of lut) ascending are (mapped-at table_of luts i lut inside is) low)

-- ---- what a lawful mapping says of its numbers

-- Gates are signals.
pub gates_within : (c : Plain) (luts : List Lut) → IsMapping c (map table_of luts) → (i : ℕ) (e : Lut) → i < length luts → (get_or luts i e).gate < length c.drives
gates_within c luts mapping i e inside =
    gate_within c.drives (get_or luts i e).gate (mapping.lawful.each (table_of (get_or luts i e)) (contains-map table_of luts (get_or luts i e) (Contains-get_or luts i e inside))).gate

-- Leaves are signals.
pub leaves_within : (c : Plain) (tables : List Table) → IsMapping c tables → (n : ℕ) → n ≡ length c.drives
    → (t : Table) → Contains tables t → (i : ℕ) (e : Node) → i < length t.leaves → (get_or t.leaves i e).signal < n
leaves_within c tables mapping n is t stands i e inside =
    let low = ((mapping.lawful.each t stands).leaves.leaves (get_or t.leaves i e) (Contains-get_or t.leaves i e inside)).signal in
    omega (arith, low, is)

-- The depths of tables, read from the tables in code.
pub depths_read : (depths : List ℕ) (luts : List Lut) → map (depth_in depths) (map table_of luts) ≡ map (λ (lut : Lut). slice_index depths lut.gate) luts
depths_read depths [] = refl
depths_read depths (lut ∷ luts) = ap (λ (xs : List ℕ). slice_index depths lut.gate ∷ xs) (depths_read depths luts)

-- ---- the deepest of some leaves

-- Where no table has a node as its root, it is 0.
pub no_root_deepest : (tables : List Table) (depths : List ℕ) (x : Node) → HasNoRoot tables x → IsDeepest tables depths (x ∷ []) 0
no_root_deepest tables depths x none = record {
  above = λ t stands leaf. elim (contains-cases x [] (root t) leaf) [ inl e ↦ absurd (none t stands (sym e)) | inr later ↦ absurd (contains-none (root t) later) ];
  reached = inl refl;
}

deepest_push : (tables : List Table) (depths : List ℕ) (leaves : List Node) (x : Node) (most own : ℕ) → IsDeepest tables depths leaves most
    → IsDeepest tables depths (x ∷ []) own → IsDeepest tables depths (leaves ++ x ∷ []) (max most own)
deepest_push tables depths leaves x most own before last = record {
  above = λ t stands leaf. elim (Contains-push_cases leaves x (root t) leaf) [
    | inl earlier ↦ let low = before.above t stands earlier in omega (arith, low)
    | inr same ↦ let low = last.above t stands (subst (λ (n : Node). Contains (x ∷ []) n) same (contains-first x [])) in omega (arith, low)
  ];
  reached = elim (cases_lt most own) [
    | inl less ↦ let is : max most own ≡ own = omega (arith, less) in elim last.reached [
      | inl none ↦ inl (is ∙ none)
      | inr (t, stands, leaf, deep) ↦ inr (t, stands, Contains-append_right leaves (x ∷ []) (root t) leaf, deep ∙ sym is)
    ]
    | inr high ↦ let is : max most own ≡ most = omega (arith, high) in elim before.reached [
      | inl none ↦ inl (is ∙ none)
      | inr (t, stands, leaf, deep) ↦ inr (t, stands, Contains-append_left leaves (x ∷ []) (root t) leaf, deep ∙ sym is)
    ]
  ];
}

-- One leaf more.
pub deepest_more : (tables : List Table) (depths : List ℕ) (leaves : List Node) (i : ℕ) (x : Node) (most own all : ℕ) → i < length leaves → x ≡ get_or leaves i x
    → IsDeepest tables depths (take i leaves) most → IsDeepest tables depths (x ∷ []) own → all ≡ max most own → IsDeepest tables depths (take (i + 1) leaves) all
deepest_more tables depths leaves i x most own all inside is before last greater =
    let more : take (i + 1) leaves ≡ take i leaves ++ x ∷ [] = take_more leaves i x inside ∙ ap (λ (y : Node). take i leaves ++ y ∷ []) (sym is) in
    subst (λ n. IsDeepest tables depths (take (i + 1) leaves) n) (sym greater)
    (subst (λ (ys : List Node). IsDeepest tables depths ys (max most own)) (sym more) (deepest_push tables depths (take i leaves) x most own before last))
