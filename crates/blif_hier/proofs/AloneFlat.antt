-- The flat unit of one model that places none is the model.
use Rattle.std.proofs.Common.{◌≡◌, ℕ, zero, suc, Bool, true, false, ◌&&◌, cond, List, [], ◌∷◌, ◌++◌, Option, None, Some, map, filter_map, bytes_eq, codes, refl, ◌∙◌, ap, subst}
use Rattle.std.specs.Prelude.{Contains, IsSomeAnd}
use Rattle.std.specs.List.{AllByRecursion, list_any}
use Rattle.std.proofs.lemmas.List.{append-nil}
use Rattle.tm_circuit.proofs.ListLemmas.{contains-none}
use Rattle.blif_unit.specs.declared.unit.Binding.{Binding}
use Rattle.blif_unit.specs.declared.unit.Control.{Control}
use Rattle.blif_unit.specs.Unit as unit
use Rattle.blif_unit.specs.Unit.{Told, Telling, Model, IsShaped, over}
use Rattle.blif_flat.specs.Limits.{most_levels}
use Rattle.blif_flat.specs.Places.{fault_in_told, fault_in_telling, places_told, Places, IsRoute, HasRecursion}
use Rattle.blif_flat.specs.Flat.{inside, is_place, is_deeper, joiner_of, suffix_of, name_within, bound_by, control_by, told_by, bindings_told, number_after, flat_parts, flat_from, flat_of}
use Rattle.blif_flat.specs.Hier.{IsFlatOf}

-- the statements have the shape that a text with one model leaves them, so none places a model
abbrev pub AreShaped : List Telling → Type 0
AreShaped body = AllByRecursion (λ (t : Telling). IsShaped t.what) body

-- ---- a statement

-- what a name of the top becomes
abbrev own : List ℕ → List ℕ
own n = name_within [] [] n

own_names : (ns : List (List ℕ)) → map own ns ≡ ns
own_names [] = refl
own_names (n ∷ ns) = ap (λ (m : List ℕ). m ∷ map own ns) (append-nil n) ∙ ap (λ (ms : List (List ℕ)). n ∷ ms) (own_names ns)

own_control : (next name : List ℕ) (init : Bool) (control : Option Control) → IsShaped (unit.latch next name init control) → control_by own control ≡ control
own_control next name init None shape = refl
own_control next name init (Some c) shape =
    let named : List ℕ → Option Control = λ n. cond (bytes_eq n (codes "NIL")) None (Some (record { name = n; edge = c.edge })) in
    ap named (append-nil c.name) ∙ ap (λ (t : Bool). cond t None (Some c)) shape

own_told : (told : Told) → IsShaped told → told_by true own told ≡ told ∷ []
own_told (unit.inputs names) shape = refl
own_told (unit.outputs names) shape = refl
own_told (unit.clock names) shape = ap (λ (ns : List (List ℕ)). unit.clock ns ∷ []) (own_names names)
own_told (unit.gate pins name cover) shape =
    ap (λ (ns : List (List ℕ)). unit.gate ns (name ++ []) cover ∷ []) (own_names pins)
    ∙ ap (λ (n : List ℕ). unit.gate pins n cover ∷ []) (append-nil name)
own_told (unit.latch next name init control) shape =
    ap (λ (n : List ℕ). unit.latch n (name ++ []) init (control_by own control) ∷ []) (append-nil next)
    ∙ ap (λ (n : List ℕ). unit.latch next n init (control_by own control) ∷ []) (append-nil name)
    ∙ ap (λ (c : Option Control). unit.latch next name init c ∷ []) (own_control next name init control shape)
own_told (unit.place model bindings) shape = absurd shape

none_inside : (models : List Model) (told : Told) → IsShaped told → inside models told ≡ []
none_inside models (unit.inputs names) shape = refl
none_inside models (unit.outputs names) shape = refl
none_inside models (unit.clock names) shape = refl
none_inside models (unit.gate pins name cover) shape = refl
none_inside models (unit.latch next name init control) shape = refl
none_inside models (unit.place model bindings) shape = absurd shape

places_none : (told : Told) → IsShaped told → is_place told ≡ false
places_none (unit.inputs names) shape = refl
places_none (unit.outputs names) shape = refl
places_none (unit.clock names) shape = refl
places_none (unit.gate pins name cover) shape = refl
places_none (unit.latch next name init control) shape = refl
places_none (unit.place model bindings) shape = absurd shape

no_place_told : (told : Told) → IsShaped told → places_told told ≡ []
no_place_told (unit.inputs names) shape = refl
no_place_told (unit.outputs names) shape = refl
no_place_told (unit.clock names) shape = refl
no_place_told (unit.gate pins name cover) shape = refl
no_place_told (unit.latch next name init control) shape = refl
no_place_told (unit.place model bindings) shape = absurd shape

no_fault_told : (models : List Model) (told : Told) → IsShaped told → fault_in_told models told ≡ None
no_fault_told models (unit.inputs names) shape = refl
no_fault_told models (unit.outputs names) shape = refl
no_fault_told models (unit.clock names) shape = refl
no_fault_told models (unit.gate pins name cover) shape = refl
no_fault_told models (unit.latch next name init control) shape = refl
no_fault_told models (unit.place model bindings) shape = absurd shape

-- ---- the flat unit

module _ (models : List Model) (joiner : List ℕ) where
  own_parts : (instance : List ℕ → List Binding → List Telling → List Telling) (k : ℕ) (body : List Telling)
      → ((suffix : List ℕ) (bound : List Binding) → instance suffix bound [] ≡ []) → AreShaped body
      → flat_parts instance models joiner true [] [] k body ≡ body
  own_parts instance k [] none shaped = refl
  own_parts instance k (t ∷ body) none shaped =
      let lined : Told → Telling = λ told. record { line = t.line; what = told } in
      let suffix : List ℕ = suffix_of joiner [] k in
      let bound : List Binding = bound_by own (bindings_told t.what) in
      let rest : List Telling = flat_parts instance models joiner true [] [] (number_after k t.what) body in
      let inner : instance suffix bound (inside models t.what) ≡ [] = ap (instance suffix bound) (none_inside models t.what shaped.0) ∙ none suffix bound in
      ap (λ (ts : List Told). map lined ts ++ instance suffix bound (inside models t.what) ++ rest) (own_told t.what shaped.0)
      ∙ ap (λ (ts : List Telling). (t ∷ []) ++ ts ++ rest) inner
      ∙ ap (λ (ts : List Telling). t ∷ ts) (own_parts instance (number_after k t.what) body none shaped.1)

  from_nothing : (levels : ℕ) (suffix : List ℕ) (bound : List Binding) → flat_from levels models joiner false suffix bound [] ≡ []
  from_nothing zero suffix bound = refl
  from_nothing (suc n) suffix bound = refl

  pub own_from : (levels : ℕ) (body : List Telling) → AreShaped body → flat_from levels models joiner true [] [] body ≡ body
  own_from zero body shaped = own_parts (λ s b ts. []) 1 body (λ s b. refl) shaped
  own_from (suc n) body shaped = own_parts (flat_from n models joiner false) 1 body (from_nothing n) shaped

-- The flat unit of the model is the model.
pub alone_flat : (m : Model) → AreShaped m.body → flat_of (m ∷ []) ≡ m
alone_flat m shaped =
    ap (λ (body : List Telling). record { name = m.name; line = m.line; body = body }) (own_from (m ∷ []) (joiner_of (m ∷ [])) most_levels m.body shaped)

-- ---- no fault where models are placed

none_faulty : (models : List Model) (body : List Telling) → AreShaped body → filter_map (fault_in_telling models) body ≡ []
none_faulty models [] shaped = refl
none_faulty models (t ∷ body) shaped = let none = no_fault_told models t.what shaped.0 in rw none (none_faulty models body shaped.1)

none_placed : (body : List Telling) → AreShaped body → over places_told body ≡ []
none_placed [] shaped = refl
none_placed (t ∷ body) shaped = ap (λ (ns : List (List ℕ)). ns ++ over places_told body) (no_place_told t.what shaped.0) ∙ none_placed body shaped.1

no_site : (body : List Telling) → AreShaped body → list_any (λ (t : Telling). is_place t.what) body ≡ false
no_site [] shaped = refl
no_site (t ∷ body) shaped = let none = places_none t.what shaped.0 in rw none (no_site body shaped.1)

nothing_deeper : (levels : ℕ) (models : List Model) → is_deeper levels models [] ≡ false
nothing_deeper zero models = refl
nothing_deeper (suc n) models = refl

none_deeper : (levels : ℕ) (models : List Model) (body : List Telling) → AreShaped body → is_deeper levels models body ≡ false
none_deeper zero models body shaped = no_site body shaped
none_deeper (suc n) models body shaped = each body shaped
  where
    each : (body : List Telling) → AreShaped body → list_any (λ (t : Telling). is_deeper n models (inside models t.what)) body ≡ false
    each [] shaped = refl
    each (t ∷ body) shaped =
        let here : is_deeper n models (inside models t.what) ≡ false = ap (is_deeper n models) (none_inside models t.what shaped.0) ∙ nothing_deeper n models in
        rw here (each body shaped.1)

none_places : (m : Model) (a b : List ℕ) → AreShaped m.body → Places (m ∷ []) a b → ⊥
none_places m a b shaped places = by_test (bytes_eq a m.name) places
  where
    by_test : (t : Bool) → IsSomeAnd (cond t (Some m) None) (λ (x : Model). Contains (over places_told x.body) b) → ⊥
    by_test true there = contains-none b (subst (λ (ns : List (List ℕ)). Contains ns b) (none_placed m.body shaped) there)
    by_test false there = there

none_recursive : (m : Model) → AreShaped m.body → HasRecursion (m ∷ []) → ⊥
none_recursive m shaped circle = by_route circle.1.0 circle.1.1
  where
    by_route : (through : List (List ℕ)) → IsRoute (m ∷ []) circle.0 (through ++ circle.0 ∷ []) → ⊥
    by_route [] route = none_places m circle.0 circle.0 shaped route.0
    by_route (n ∷ through) route = none_places m n circle.0 shaped route.0

not_both : (a b : Bool) → a ≡ false → (a && b) ≡ false
not_both true b h = cc
not_both false b h = refl

-- Nothing is at fault where models are placed.
pub alone_placed : (m : Model) → AreShaped m.body → IsFlatOf (m ∷ []) (flat_of (m ∷ []))
alone_placed m shaped =
    let site : list_any (λ (t : Telling). is_place t.what) m.body ≡ false = no_site m.body shaped in
    record {
      placed = ap (filter_map (fault_in_telling (m ∷ []))) (append-nil m.body) ∙ none_faulty (m ∷ []) m.body shaped;
      ends = none_recursive m shaped;
      shallow = none_deeper most_levels (m ∷ []) m.body shaped;
      small = not_both _ _ site;
      made = refl;
    }
