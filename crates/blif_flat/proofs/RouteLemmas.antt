-- Circles of models by number, and models that place themselves by name.
use Rattle.std.proofs.Common.{◌⊎◌, ◌≡◌, ℕ, zero, suc, ◌+◌, ◌<◌, Bool, true, false, cond, not, ◌||◌, List, [], ◌∷◌, ◌++◌, Option, None, Some, map, flat_map, filter_map, length, refl, sym, ◌∙◌, ap, subst, arith, bytes_eq, inl, inr}
use Rattle.std.specs.Prelude.{slice_get, Contains, IsSomeAnd, option_map}
use Rattle.std.specs.List.{list_any, cons_option}
use Rattle.std.proofs.lemmas.Bool.{cases_lt}
use Rattle.std.proofs.lemmas.Option.{slice_get_past}
use Rattle.tm_circuit.proofs.ListLemmas.{contains-first, contains-rest, contains-cases, contains-none, contains-map, contains-unmap}
use Rattle.blif_unit.specs.Unit as unit
use Rattle.blif_unit.specs.Unit.{Told, Telling, Model, AreDistinct, over}
use Rattle.blif_flat.specs.Flat.{body_of}
use Rattle.blif_flat.specs.Graph.{placed_in, IsPlaced, IsChain, HasCircle, IsGraph}
use Rattle.blif_unit.specs.declared.fault.BlifKind.TheVariants.{NoModel}
use Rattle.blif_unit.specs.Fault.{Faulty}
use Rattle.blif_flat.specs.Places.{model_named, places_told, Places, IsRoute, HasRecursion, fault_in_binding, fault_in_told, fault_in_telling, faults_in_places}
use Rattle.blif_flat.specs.Sites.{sites_told, sites_in, index_of}
use Rattle.blif_flat.specs.Plan.{body_at}
use Rattle.blif_flat.proofs.NameLists.{same_bytes, bytes_self, bytes_flip}
use Rattle.blif_flat.proofs.SiteLemmas.{named_at, filter_map-concat}
use Rattle.blif_flat.proofs.TreeLemmas.{models_at}

-- the models at sites are those of the names that are placed
pub models_at_is : (models : List Model) (body : List Telling) → models_at models body ≡ map (index_of models) (over places_told body)
models_at_is models [] = refl
models_at_is models (t ∷ body) = by_kind t.what (models_at_is models body)
  where
    by_kind : (what : Told) → models_at models body ≡ map (index_of models) (over places_told body)
        → map (λ s. s.model) (sites_told models what ++ sites_in models body) ≡ map (index_of models) (places_told what ++ over places_told body)
    by_kind (unit.inputs names) e = e
    by_kind (unit.outputs names) e = e
    by_kind (unit.clock names) e = e
    by_kind (unit.gate pins name cover) e = e
    by_kind (unit.latch next name init control) e = e
    by_kind (unit.place name bindings) e = ap (λ ms. index_of models name ∷ ms) e

-- ---- names and numbers

name_in : Option Model → List ℕ
name_in None = []
name_in (Some m) = m.name

pub name_of : List Model → ℕ → List ℕ
name_of models i = name_in (slice_get models i)

index_here : (m : Model) (models : List Model) (n : List ℕ) → bytes_eq n m.name ≡ true → index_of (m ∷ models) n ≡ 0
index_here m models n is = ap (λ t. cond (not t) (1 + index_of models n) 0) is

index_later : (m : Model) (models : List Model) (n : List ℕ) → bytes_eq n m.name ≡ false → index_of (m ∷ models) n ≡ suc (index_of models n)
index_later m models n is = ap (λ t. cond (not t) (1 + index_of models n) 0) is ∙ omega arith

pub name_is : (models : List Model) (n : List ℕ) → index_of models n < length models → n ≡ name_of models (index_of models n)
unfolding name_of name_in
name_is [] n within = absurd (omega arith)
name_is (m ∷ models) n within = by_test (bytes_eq n m.name) refl (λ less. name_is models n less)
  where
    by_test : (t : Bool) → bytes_eq n m.name ≡ t → (index_of models n < length models → n ≡ name_in (slice_get models (index_of models n))) → n ≡ name_in (slice_get (m ∷ models) (index_of (m ∷ models) n))
    by_test true test ih = same_bytes n m.name test ∙ ap (λ k. name_in (slice_get (m ∷ models) k)) (sym (index_here m models n test))
    by_test false test ih =
        let later = index_later m models n test in
        ih (omega (arith, later, within)) ∙ ap (λ k. name_in (slice_get (m ∷ models) k)) (sym later)

-- a name that stands among others is equal to one of them
not_apart : (n : List ℕ) (models : List Model) (i : ℕ) (m : Model) → list_any (bytes_eq n) (map (λ x. x.name) models) ≡ false → slice_get models i ≡ Some m → bytes_eq m.name n ≡ false
not_apart n [] i m none at = cc
not_apart n (x ∷ models) zero m none at =
    let same : x ≡ m = cc in
    bytes_flip n m.name (subst (λ (y : Model). bytes_eq n y.name ≡ false) same (either (bytes_eq n x.name) (list_any (bytes_eq n) (map (λ y. y.name) models)) none).0)
  where
    either : (a b : Bool) → (a || b) ≡ false → (a ≡ false) × (b ≡ false)
    either true b h = cc
    either false b h = (refl, h)
not_apart n (x ∷ models) (suc i) m none at = not_apart n models i m (either (bytes_eq n x.name) (list_any (bytes_eq n) (map (λ y. y.name) models)) none) at
  where
    either : (a b : Bool) → (a || b) ≡ false → b ≡ false
    either true b h = cc
    either false b h = h

pub index_is : (models : List Model) (i : ℕ) (m : Model) → AreDistinct (map (λ x. x.name) models) → slice_get models i ≡ Some m → index_of models m.name ≡ i
index_is [] i m distinct at = cc
index_is (x ∷ models) zero m distinct at = let same : x ≡ m = cc in index_here x models m.name (subst (λ (y : Model). bytes_eq m.name y.name ≡ true) (sym same) (bytes_self m.name))
index_is (x ∷ models) (suc i) m distinct at =
    index_later x models m.name (not_apart x.name models i m distinct.0 at) ∙ ap (λ k. suc k) (index_is models i m distinct.1 at)

-- ---- without a fault at a site, sites lead to models

option_none : {X Y : Type 0} (f : X → Y) (o : Option X) → option_map f o ≡ None → o ≡ None
option_none f None h = refl
option_none f (Some x) h = cc

none_first : {Y : Type 0} (o : Option Y) (ys : List Y) → cons_option o ys ≡ [] → (o ≡ None) × (ys ≡ [])
none_first None ys h = (refl, h)
none_first (Some y) ys h = cc

named_within : (models : List Model) (name : List ℕ) → (model_named models name ≡ None → ⊥) → index_of models name < length models
named_within models name some =
    elim (cases_lt (index_of models name) (length models)) [
      | inl below ↦ below
      | inr past ↦ absurd (some (named_at models name ∙ slice_get_past models (index_of models name) past))
    ]

told_within : (models : List Model) (what : Told) → fault_in_told models what ≡ None → (name : List ℕ) → Contains (places_told what) name → index_of models name < length models
told_within models (unit.inputs names) h name c = absurd (contains-none name c)
told_within models (unit.outputs names) h name c = absurd (contains-none name c)
told_within models (unit.clock names) h name c = absurd (contains-none name c)
told_within models (unit.gate pins out cover) h name c = absurd (contains-none name c)
told_within models (unit.latch next out init control) h name c = absurd (contains-none name c)
told_within models (unit.place placed bindings) h name c =
    elim (contains-cases placed [] name c) [
      | inl same ↦ subst (λ n. index_of models n < length models) same (named_within models placed (λ none. missing none))
      | inr rest ↦ absurd (contains-none name rest)
    ]
  where
    missing : model_named models placed ≡ None → ⊥
    missing none = let e : Some NoModel ≡ None = subst (λ o. fault_in_binding o bindings ≡ None) none h in cc

append_cases : {X : Type 0} (xs ys : List X) (x : X) → Contains (xs ++ ys) x → Contains xs x ⊎ Contains ys x
append_cases [] ys x h = inr h
append_cases {X} (y ∷ xs) ys x h =
    elim (contains-cases y (xs ++ ys) x h) [
      | inl same ↦ inl (subst (λ (z : X). Contains (y ∷ xs) z) same (contains-first y xs))
      | inr rest ↦ elim (append_cases xs ys x rest) [ inl a ↦ inl (contains-rest y xs x a) | inr b ↦ inr b ]
    ]

pub body_within : (models : List Model) (body : List Telling) → filter_map (fault_in_telling models) body ≡ [] → (name : List ℕ) → Contains (over places_told body) name → index_of models name < length models
body_within models [] h name c = absurd (contains-none name c)
body_within models (t ∷ body) h name c =
    let parts = none_first (fault_in_telling models t) (filter_map (fault_in_telling models) body) h in
    elim (append_cases (places_told t.what) (over places_told body) name c) [
      | inl here ↦ told_within models t.what (option_none (λ kind. (t.line, kind)) (fault_in_told models t.what) parts.0) name here
      | inr rest ↦ body_within models body parts.1 name rest
    ]

no_parts : {Y : Type 0} (xs ys : List Y) → xs ++ ys ≡ [] → (xs ≡ []) × (ys ≡ [])
no_parts [] ys h = (refl, h)
no_parts (x ∷ xs) ys h = cc

-- no model has a fault at a site
each_faultless : (h : Telling → Option Faulty) (some : List Model) (i : ℕ) → flat_map (λ m. filter_map h m.body) some ≡ [] → filter_map h (body_at some i) ≡ []
each_faultless h [] zero none = refl
each_faultless h [] (suc i) none = refl
each_faultless h (m ∷ some) zero none = (no_parts (filter_map h m.body) (flat_map (λ x. filter_map h x.body) some) none).0
each_faultless h (m ∷ some) (suc i) none = each_faultless h some i (no_parts (filter_map h m.body) (flat_map (λ x. filter_map h x.body) some) none).1

module _ (models : List Model) (graph : List (List ℕ)) (are : (m : ℕ) → placed_in graph m ≡ models_at models (body_at models m)) (sized : length graph ≡ length models) where
  placed_names : (m : ℕ) → placed_in graph m ≡ map (index_of models) (over places_told (body_at models m))
  placed_names m = are m ∙ models_at_is models (body_at models m)

  pub is_graph : faults_in_places models ≡ [] → IsGraph graph
  is_graph none m p placed =
      let faultless = each_faultless (fault_in_telling models) models m (sym (filter_map-concat (fault_in_telling models) (λ (x : Model). x.body) models) ∙ none) in
      let named = contains-unmap (index_of models) (over places_told (body_at models m)) p (subst (λ ps. Contains ps p) (placed_names m) placed) in
      let within = body_within models (body_at models m) faultless named.0 named.1 in
      omega (arith, within, named.2, sized)

  -- ---- models that place themselves make a circle

  places_edge : (a b : List ℕ) → Places models b a → IsPlaced graph (index_of models a) (index_of models b)
  places_edge a b h = subst (λ ps. Contains ps (index_of models a)) (sym (placed_names (index_of models b))) (contains-map (index_of models) (over places_told (body_at models (index_of models b))) a (at (model_named models b) refl h))
    where
      at : (o : Option Model) → model_named models b ≡ o → IsSomeAnd o (λ m. Contains (over places_told m.body) a) → Contains (over places_told (body_at models (index_of models b))) a
      at None e c = absurd c
      at (Some m) e c = subst (λ o. Contains (over places_told (body_of o)) a) (sym e ∙ named_at models b) c

  route_chain : IsGraph graph → (a : List ℕ) (through : List (List ℕ)) (z : List ℕ) → IsRoute models a (through ++ z ∷ []) → index_of models z < length graph
      → IsChain graph (index_of models a ∷ (map (index_of models) through ++ index_of models z ∷ []))
  route_chain is a [] z route last = let edge = places_edge a z route.0 in (is (index_of models z) (index_of models a) edge, edge, (last, tt, tt))
  route_chain is a (b ∷ through) z route last =
      let edge = places_edge a b route.0 in (is (index_of models b) (index_of models a) edge, edge, route_chain is b through z route.1 last)

  first_within : IsGraph graph → (a : List ℕ) (through : List (List ℕ)) (z : List ℕ) → IsRoute models a (through ++ z ∷ []) → index_of models a < length graph
  first_within is a [] z route = is (index_of models z) (index_of models a) (places_edge a z route.0)
  first_within is a (b ∷ through) z route = is (index_of models b) (index_of models a) (places_edge a b route.0)

  pub circle_of : faults_in_places models ≡ [] → HasRecursion models → HasCircle graph
  circle_of none h =
      let is = is_graph none in
      let within = first_within is h.0 h.1.0 h.0 h.1.1 in
      (index_of models h.0, (map (index_of models) h.1.0, route_chain is h.0 h.1.0 h.0 h.1.1 within))

  -- ---- a circle is a model that places itself

  some_model : (xs : List Model) (k : ℕ) → k < length xs → (m : Model) × (slice_get xs k ≡ Some m)
  some_model [] k w = absurd (omega arith)
  some_model (x ∷ xs) zero w = (x, refl)
  some_model (x ∷ xs) (suc k) w = some_model xs k (omega arith)

  edge_places : AreDistinct (map (λ x. x.name) models) → (a b : ℕ) → a < length graph → b < length graph → IsPlaced graph a b → Places models (name_of models b) (name_of models a)
  unfolding name_of name_in
  edge_places distinct a b a_in b_in placed =
      let found = some_model models b (omega (arith, b_in, sized)) in
      let m : Model = found.0 in
      let named : name_of models b ≡ m.name = ap name_in found.1 in
      let index : index_of models (name_of models b) ≡ b = ap (index_of models) named ∙ index_is models b m distinct found.1 in
      let model : model_named models (name_of models b) ≡ Some m = named_at models (name_of models b) ∙ ap (slice_get models) index ∙ found.1 in
      let body : body_at models b ≡ m.body = ap body_of found.1 in
      let told = contains-unmap (index_of models) (over places_told (body_at models b)) a (subst (λ ps. Contains ps a) (placed_names b) placed) in
      let same : told.0 ≡ name_of models a = name_is models told.0 (omega (arith, told.2, a_in, sized)) ∙ ap (name_of models) told.2 in
      subst (λ o. IsSomeAnd o (λ x. Contains (over places_told x.body) (name_of models a))) (sym model)
      (subst (λ n. Contains (over places_told m.body) n) same (subst (λ ts. Contains (over places_told ts) told.0) body told.1))

  chain_route : AreDistinct (map (λ x. x.name) models) → (a : ℕ) (through : List ℕ) (z : ℕ) → IsChain graph (a ∷ (through ++ z ∷ []))
      → IsRoute models (name_of models a) (map (name_of models) through ++ name_of models z ∷ [])
  chain_route distinct a [] z chain = (edge_places distinct a z chain.0 chain.2.0 chain.1, tt)
  chain_route distinct a (b ∷ through) z chain =
      (edge_places distinct a b chain.0 chain.2.0 chain.1, chain_route distinct b through z chain.2)

  pub recursion_of : AreDistinct (map (λ x. x.name) models) → HasCircle graph → HasRecursion models
  recursion_of distinct h = (name_of models h.0, (map (name_of models) h.1.0, chain_route distinct h.0 h.1.0 h.0 h.1.1))
