-- Models place themselves or they do not: their numbers are signals, each model is a gate, and the models that it places are its pins.
use Rattle.std.proofs.Common.{◌≡◌, ◌⊎◌, inl, inr, ℕ, zero, suc, ◌+◌, Bool, true, false, not, cond, List, [], ◌∷◌, ◌++◌, Option, None, Some, map, option_map, slice_get, refl, sym, ◌∙◌, ap, subst, arith, bytes_eq}
use Rattle.std.specs.Prelude.{Contains, IsSomeAnd, slice_index_or}
use Rattle.std.specs.List.{position_or_len}
use Rattle.std.proofs.lemmas.Slice.Eq.{bytes_eq-Decides}
use Rattle.std.proofs.lemmas.Option.{slice_get-map}
use Rattle.tm_circuit.specs.Plain.{Drive, latch, gate, drive_in, is_gate, pins_of}
use Rattle.tm_circuit.specs.Chain.{IsGate, IsPin, IsChain, HasCircle}
use Rattle.tm_circuit.proofs.ListLemmas.{contains-map, contains-unmap}
use Rattle.blif_unit.specs.Unit.{Model, AreDistinct, over}
use Rattle.blif_circuit.proofs.CircleDecided.{circle_decided}
use Rattle.blif_read.proofs.OneCircuit.{place_once}
use Rattle.blif_flat.specs.Places.{model_named, places_told, Places, IsRoute, HasRecursion}

-- the number of the model with a name, or how many there are
abbrev number_in : List Model → List ℕ → ℕ
number_in models n = position_or_len (bytes_eq n) (map (λ (m : Model). m.name) models)

-- a model as a gate
abbrev node : List Model → Model → Drive
node models m = gate (map (number_in models) (over places_told m.body)) (record { on = true; rows = [] })

-- ---- a model and its gate

found_drive : (all models : List Model) (n : List ℕ) (m : Model) (d : Drive) → model_named models n ≡ Some m → slice_index_or (map (node all) models) (number_in models n) d ≡ node all m
found_drive all [] n m d found = let e : ◌≡◌ {A = Option Model} None (Some m) = found in cc
found_drive all (x ∷ models) n m d found = by_test (bytes_eq n x.name) refl found (found_drive all models n m d)
  where
    by_test : (t : Bool) → bytes_eq n x.name ≡ t → cond t (Some x) (model_named models n) ≡ Some m
        → (model_named models n ≡ Some m → slice_index_or (map (node all) models) (number_in models n) d ≡ node all m)
        → slice_index_or (map (node all) (x ∷ models)) (cond (not t) (1 + number_in models n) 0) d ≡ node all m
    by_test true is here later = let same : x ≡ m = cc in ap (node all) same
    by_test false is here later =
        let next : 1 + number_in models n ≡ suc (number_in models n) = omega arith in
        ap (λ (k : ℕ). slice_index_or (map (node all) (x ∷ models)) k d) next ∙ later here

gate_found : (all models : List Model) (k : ℕ) (d : Drive) → is_gate d ≡ false → is_gate (slice_index_or (map (node all) models) k d) ≡ true
    → (m : Model) × (slice_get models k ≡ Some m) × (slice_index_or (map (node all) models) k d ≡ node all m)
gate_found all [] k d none is = let e : true ≡ false = sym is ∙ none in cc
gate_found all (x ∷ models) zero d none is = (x, refl, refl)
gate_found all (x ∷ models) (suc k) d none is = gate_found all models k d none is

found_number : (models : List Model) (n : List ℕ) (k : ℕ) (m : Model) → number_in models n ≡ k → slice_get models k ≡ Some m → n ≡ m.name
found_number [] n k m is at = let e : ◌≡◌ {A = Option Model} None (Some m) = at in cc
found_number (x ∷ models) n k m is at = by_test (bytes_eq n x.name) refl is (λ j same there. found_number models n j m same there)
  where
    later : (j i : ℕ) → 1 + number_in models n ≡ j → j ≡ suc i → slice_get (x ∷ models) j ≡ Some m → slice_get models i ≡ Some m
    later j i same next there = ap (slice_get (x ∷ models)) (sym next) ∙ there

    by_test : (t : Bool) → bytes_eq n x.name ≡ t → cond (not t) (1 + number_in models n) 0 ≡ k
        → ((j : ℕ) → number_in models n ≡ j → slice_get models j ≡ Some m → n ≡ m.name) → n ≡ m.name
    by_test true test here ih =
        let first : Some x ≡ Some m = ap (slice_get (x ∷ models)) here ∙ at in
        let same : x ≡ m = cc in
        (bytes_eq-Decides n x.name).0 test ∙ ap (λ (y : Model). y.name) same
    by_test false test here ih = ih (number_in models n) refl (later k (number_in models n) here (omega (arith, here)) at)

named_back : (models : List Model) (k : ℕ) (m : Model) → AreDistinct (map (λ (x : Model). x.name) models) → slice_get models k ≡ Some m → model_named models m.name ≡ Some m
named_back [] k m distinct at = let e : ◌≡◌ {A = Option Model} None (Some m) = at in cc
named_back (x ∷ models) zero m distinct at =
    let same : x ≡ m = cc in
    ap (λ (t : Bool). cond t (Some x) (model_named models m.name)) ((bytes_eq-Decides m.name x.name).1 (ap (λ (y : Model). y.name) (sym same))) ∙ ap Some same
named_back (x ∷ models) (suc k) m distinct at = by_test (bytes_eq m.name x.name) refl (named_back models k m distinct.1 at)
  where
    by_test : (t : Bool) → bytes_eq m.name x.name ≡ t → model_named models m.name ≡ Some m → cond t (Some x) (model_named models m.name) ≡ Some m
    by_test true test rest =
        let same : m.name ≡ x.name = (bytes_eq-Decides m.name x.name).0 test in
        let there : slice_get (map (λ (y : Model). y.name) models) k ≡ Some m.name = slice_get-map (λ (y : Model). y.name) models k ∙ ap (option_map (λ (y : Model). y.name)) at in
        let bad : 0 ≡ suc k = place_once (map (λ (y : Model). y.name) (x ∷ models)) 0 (suc k) m.name distinct (ap Some (sym same)) there in
        absurd (omega (arith, bad))
    by_test false test rest = rest

-- ---- circles and recursion

module _ (models : List Model) where
  abbrev drives : List Drive
  drives = map (node models) models

  place_gate : (a b : List ℕ) → Places models b a → IsGate drives (number_in models b)
  place_gate a b places = by_found (model_named models b) refl places
    where
      by_found : (o : Option Model) → model_named models b ≡ o → IsSomeAnd o (λ m. Contains (over places_told m.body) a) → IsGate drives (number_in models b)
      by_found None is none = absurd none
      by_found (Some m) is there = ap is_gate (found_drive models models b m (latch (number_in models b) false) is)

  place_pin : (a b : List ℕ) → Places models b a → IsPin drives (number_in models a) (number_in models b)
  place_pin a b places = by_found (model_named models b) refl places
    where
      by_found : (o : Option Model) → model_named models b ≡ o → IsSomeAnd o (λ m. Contains (over places_told m.body) a) → IsPin drives (number_in models a) (number_in models b)
      by_found None is none = absurd none
      by_found (Some m) is there =
          subst (λ (d : Drive). Contains (pins_of d) (number_in models a)) (sym (found_drive models models b m (latch (number_in models b) false) is))
          (contains-map (number_in models) (over places_told m.body) a there)

  last_gate : (a : List ℕ) (through : List (List ℕ)) (z : List ℕ) → IsRoute models a (through ++ z ∷ []) → IsGate drives (number_in models z)
  last_gate a [] z route = place_gate a z route.0
  last_gate a (b ∷ through) z route = last_gate b through z route.1

  chain_of : (a : List ℕ) (through : List (List ℕ)) (z : List ℕ) → IsRoute models a (through ++ z ∷ []) → IsGate drives (number_in models a)
      → IsChain drives (number_in models a ∷ (map (number_in models) through ++ number_in models z ∷ []))
  chain_of a [] z route is = (is, place_pin a z route.0, (place_gate a z route.0, tt, tt))
  chain_of a (b ∷ through) z route is = (is, place_pin a b route.0, chain_of b through z route.1 (place_gate a b route.0))

  circle_of : HasRecursion models → HasCircle drives
  circle_of h = (number_in models h.0, (map (number_in models) h.1.0, chain_of h.0 h.1.0 h.0 h.1.1 (last_gate h.0 h.1.0 h.0 h.1.1)))

  module _ (distinct : AreDistinct (map (λ (m : Model). m.name) models)) where
    name_in : Option Model → List ℕ
    name_in None = []
    name_in (Some m) = m.name

    abbrev name_of : ℕ → List ℕ
    name_of k = name_in (slice_get models k)

    model_of_gate : (k : ℕ) → IsGate drives k → (m : Model) × (slice_get models k ≡ Some m) × (drive_in drives k ≡ node models m)
    model_of_gate k is = gate_found models models k (latch k false) refl is

    pin_places : (a b : ℕ) → IsGate drives a → IsGate drives b → IsPin drives a b → Places models (name_of b) (name_of a)
    unfolding name_in
    pin_places a b is_a is_b pin =
        let of_a = model_of_gate a is_a in
        let of_b = model_of_gate b is_b in
        let named_a : name_of a ≡ of_a.0.name = ap name_in of_a.1 in
        let named_b : name_of b ≡ of_b.0.name = ap name_in of_b.1 in
        let placed = contains-unmap (number_in models) (over places_told of_b.0.body) a (subst (λ (d : Drive). Contains (pins_of d) a) of_b.2 pin) in
        let same : placed.0 ≡ name_of a = found_number models placed.0 a of_a.0 placed.2 of_a.1 ∙ sym named_a in
        let model : model_named models (name_of b) ≡ Some of_b.0 = ap (model_named models) named_b ∙ named_back models b of_b.0 distinct of_b.1 in
        subst (λ o. IsSomeAnd o (λ m. Contains (over places_told m.body) (name_of a))) (sym model)
        (subst (λ n. Contains (over places_told of_b.0.body) n) same placed.1)

    first_gate : (z : ℕ) (rest : List ℕ) → IsChain drives (z ∷ rest) → IsGate drives z
    first_gate z rest chain = chain.0

    route_of : (a : ℕ) (through : List ℕ) (z : ℕ) → IsChain drives (a ∷ (through ++ z ∷ [])) → IsRoute models (name_of a) (map (λ k. name_of k) through ++ name_of z ∷ [])
    route_of a [] z chain = (pin_places a z chain.0 chain.2.0 chain.1, tt)
    route_of a (b ∷ through) z chain = (pin_places a b chain.0 chain.2.0 chain.1, route_of b through z chain.2)

    recursion_of : HasCircle drives → HasRecursion models
    recursion_of h = (name_of h.0, (map (λ k. name_of k) h.1.0, route_of h.0 h.1.0 h.0 h.1.1))

    -- A model places itself, or none does.
    pub recursion_decided : HasRecursion models ⊎ ¬ HasRecursion models
    recursion_decided = elim (circle_decided drives) [ inl circle ↦ inl (recursion_of circle) | inr none ↦ inr (λ h. none (circle_of h)) ]
