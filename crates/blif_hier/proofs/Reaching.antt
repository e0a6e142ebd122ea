-- Each instance that a path leads to stands in the flat unit with its statements, and its numbers are few.
use Rattle.std.proofs.Common.{◌≡◌, ℕ, zero, suc, ◌+◌, ◌^◌, ◌<◌, ◌≤◌, Bool, true, false, ◌&&◌, nat_lt, List, [], ◌∷◌, ◌++◌, Option, None, Some, map, sum, slice_get, refl, sym, ◌∙◌, ap, subst, arith}
use Rattle.std.specs.Prelude.{Contains, option_map, option_and_then, if◌then◌else◌}
use Rattle.std.specs.List.{list_any, AllByRecursion}
use Rattle.std.proofs.lemmas.Bool.{ltb-false}
use Rattle.std.proofs.lemmas.List.Sums.{sum-map, sum_by-cons}
use Rattle.blif_unit.specs.declared.unit.Binding.{Binding}
use Rattle.blif_unit.specs.Unit as unit
use Rattle.blif_unit.specs.Unit.{Told, Telling, Model}
use Rattle.blif_flat.specs.Limits.{most_levels, most_size}
use Rattle.blif_flat.specs.Places.{model_named}
use Rattle.blif_flat.specs.Flat.{body_of, inside, is_place, is_deeper, instances, told_by, flat_from, flat_of, bytes_in, places_in, size_of, is_too_deep, is_too_large}
use Rattle.blif_hier.specs.Nested.{Placing, placings_told, placings_of}
use Rattle.blif_hier.proofs.Instances.{Instance, named, instance_in, instance_at, leads, over_placings, placing_stands, parts_own, parts_placed}
use Rattle.blif_hier.proofs.Lists.{any_false_at}

-- ---- a `.subckt` and what is inside

abbrev inside_of : List Model → Placing → List Telling
inside_of models p = body_of (model_named models p.model)

-- Where no place is deep, none inside is.
deep_inside : (models : List Model) (n : ℕ) (body : List Telling) (idx : ℕ) (p : Placing) → slice_get (over_placings body) idx ≡ Some p
    → list_any (λ t. is_deeper n models (inside models t.what)) body ≡ false → is_deeper n models (inside_of models p) ≡ false
deep_inside models n body idx p at none =
    let found = placing_stands body idx p at in
    subst (λ (w : Told). is_deeper n models (inside models w) ≡ false) found.2 (any_false_at (λ (t : Telling). is_deeper n models (inside models t.what)) body found.0 none found.1)

-- Where there is no place, none is found.
no_place : (body : List Telling) (idx : ℕ) (p : Placing) → slice_get (over_placings body) idx ≡ Some p → list_any (λ t. is_place t.what) body ≡ false → ⊥
no_place body idx p at none =
    let found = placing_stands body idx p at in
    let e : true ≡ false = subst (λ (w : Told). is_place w ≡ false) found.2 (any_false_at (λ (t : Telling). is_place t.what) body found.0 none found.1) in cc

-- ---- how many instances there are

-- the instances that one statement brings
abbrev brought : ℕ → List Model → Told → ℕ
brought n models w = if is_place w then suc (instances n models (inside models w)) else 0

abbrev brought_all : ℕ → List Model → List Telling → ℕ
brought_all n models body = sum (map (λ t. brought n models t.what) body)

brought-cons : (n : ℕ) (models : List Model) (x : Telling) (body : List Telling) → brought_all n models (x ∷ body) ≡ brought n models x.what + brought_all n models body
brought-cons n models x body =
    sum-map (λ (t : Telling). brought n models t.what) (x ∷ body) ∙ sum_by-cons (λ (t : Telling). brought n models t.what) x body
    ∙ ap (λ (k : ℕ). brought n models x.what + k) (sym (sum-map (λ (t : Telling). brought n models t.what) body))

-- A place counts, with the places before it and the instances in it.
record IsCounted (n : ℕ) (models : List Model) (body : List Telling) (idx : ℕ) (p : Placing) : Type 0 where
  pub number : suc idx ≤ brought_all n models body
  pub inner : suc (instances n models (inside_of models p)) ≤ brought_all n models body

counted : (n : ℕ) (models : List Model) (body : List Telling) (idx : ℕ) (p : Placing) → slice_get (over_placings body) idx ≡ Some p → IsCounted n models body idx p
counted n models [] idx p at = let e : ◌≡◌ {A = Option Placing} None (Some p) = at in cc
counted n models (x ∷ body) idx p at = by_kind x.what refl idx at (λ i there. counted n models body i p there)
  where
    all : (w : Told) → x.what ≡ w → brought_all n models (x ∷ body) ≡ brought n models w + brought_all n models body
    all w is = brought-cons n models x body ∙ ap (λ (v : Told). brought n models v + brought_all n models body) is

    later : (w : Told) (i : ℕ) → x.what ≡ w → IsCounted n models body i p → IsCounted n models (x ∷ body) i p
    later w i is rest =
        let whole = all w is in
        let number = rest.number in
        let inner = rest.inner in
        record { number = omega arith; inner = omega arith }

    by_place : (name : List ℕ) (bindings : List Binding) (i : ℕ) → x.what ≡ unit.place name bindings
        → slice_get (record { model = name; bindings = bindings } ∷ over_placings body) i ≡ Some p
        → ((j : ℕ) → slice_get (over_placings body) j ≡ Some p → IsCounted n models body j p) → IsCounted n models (x ∷ body) i p
    by_place name bindings zero is there ih =
        let first : ◌≡◌ {A = Placing} (record { model = name; bindings = bindings }) p = cc in
        let whole : brought_all n models (x ∷ body) ≡ suc (instances n models (body_of (model_named models name))) + brought_all n models body = all (unit.place name bindings) is in
        let same : instances n models (body_of (model_named models name)) ≡ instances n models (inside_of models p) = ap (λ (q : Placing). instances n models (inside_of models q)) first in
        record { number = omega arith; inner = omega arith }
    by_place name bindings (suc i) is there ih =
        let rest = ih i there in
        let whole : brought_all n models (x ∷ body) ≡ suc (instances n models (body_of (model_named models name))) + brought_all n models body = all (unit.place name bindings) is in
        let number = rest.number in
        let inner = rest.inner in
        record { number = omega arith; inner = omega arith }

    by_kind : (w : Told) → x.what ≡ w → (i : ℕ) → slice_get (placings_told w ++ over_placings body) i ≡ Some p
        → ((j : ℕ) → slice_get (over_placings body) j ≡ Some p → IsCounted n models body j p) → IsCounted n models (x ∷ body) i p
    by_kind (unit.inputs names) is i there ih = later (unit.inputs names) i is (ih i there)
    by_kind (unit.outputs names) is i there ih = later (unit.outputs names) i is (ih i there)
    by_kind (unit.clock names) is i there ih = later (unit.clock names) i is (ih i there)
    by_kind (unit.gate pins name cover) is i there ih = later (unit.gate pins name cover) i is (ih i there)
    by_kind (unit.latch next name init control) is i there ih = later (unit.latch next name init control) i is (ih i there)
    by_kind (unit.place name bindings) is i there ih = by_place name bindings i is there ih

-- ---- one step into an instance

module _ (models : List Model) (joiner : List ℕ) where
  -- What leads to an instance in another: the `.subckt` of the number, and its model.
  pub record IsStep (i : Instance) (k : ℕ) (j : Instance) : Type 0 where
    pub before : ℕ
    pub number : k ≡ suc before
    pub placing : Placing
    pub at : slice_get (placings_of i.model) before ≡ Some placing
    pub model : Model
    pub found : model_named models placing.model ≡ Some model
    pub is : j ≡ instance_in models joiner i k placing.bindings model

  pub step_of : (i : Instance) (k : ℕ) (j : Instance) → instance_at models joiner i k ≡ Some j → IsStep i k j
  step_of i zero j h = let e : ◌≡◌ {A = Option Instance} None (Some j) = h in cc
  step_of i (suc before) j h = by_placing (slice_get (placings_of i.model) before) refl h
    where
      by_model : (p : Placing) (o : Option Model) → slice_get (placings_of i.model) before ≡ Some p → model_named models p.model ≡ o
          → option_map (instance_in models joiner i (suc before) p.bindings) o ≡ Some j → IsStep i (suc before) j
      by_model p None at found e = let no : ◌≡◌ {A = Option Instance} None (Some j) = e in cc
      by_model p (Some m) at found e =
          let same : instance_in models joiner i (suc before) p.bindings m ≡ j = cc in
          record { before = before; number = refl; placing = p; at = at; model = m; found = found; is = sym same }

      by_placing : (o : Option Placing) → slice_get (placings_of i.model) before ≡ o
          → option_and_then (λ p. option_map (instance_in models joiner i (suc before) p.bindings) (model_named models p.model)) o ≡ Some j → IsStep i (suc before) j
      by_placing None at e = let no : ◌≡◌ {A = Option Instance} None (Some j) = e in cc
      by_placing (Some p) at e = by_model p (model_named models p.model) at refl e

  -- a path that leads on begins with a step
  pub first_step : (i : Instance) (k : ℕ) (path : List ℕ) (j : Instance) → leads models joiner i (k ∷ path) ≡ Some j
      → (next : Instance) × (instance_at models joiner i k ≡ Some next) × (leads models joiner next path ≡ Some j)
  first_step i k path j h = by_next (instance_at models joiner i k) refl h
    where
      by_next : (o : Option Instance) → instance_at models joiner i k ≡ o → option_and_then (λ next. leads models joiner next path) o ≡ Some j
          → (next : Instance) × (instance_at models joiner i k ≡ Some next) × (leads models joiner next path ≡ Some j)
      by_next None at e = let no : ◌≡◌ {A = Option Instance} None (Some j) = e in cc
      by_next (Some next) at e = (next, at, e)

  -- ---- along a path

  -- the model's statements inside
  body_inside : (i j : Instance) (k : ℕ) (step : IsStep i k j) → inside_of models step.placing ≡ j.model.body
  body_inside i j k step = ap body_of step.found ∙ ap (λ (x : Instance). x.model.body) (sym step.is)

  -- Each statement of an instance stands in the flat unit, as it becomes by the instance's names.
  pub stands_in_flat : (n : ℕ) (top : Bool) (i : Instance) (path : List ℕ) (j : Instance) (t : Telling) (told : Told) → is_deeper n models i.model.body ≡ false
      → leads models joiner i path ≡ Some j → Contains j.model.body t → ((b : Bool) → Contains (told_by b (named j) t.what) told)
      → Contains {X = Telling} (flat_from n models joiner top i.suffix i.bound i.model.body) (record { line = t.line; what = told })
  stands_in_flat zero top i [] j t told shallow reached stands becomes =
      let same : i ≡ j = cc in
      subst (λ (x : Instance). Contains {X = Telling} (flat_from zero models joiner top x.suffix x.bound x.model.body) (record { line = t.line; what = told })) (sym same)
      (parts_own models joiner (λ s b ts. []) top j.suffix j.bound j.model.body 1 t told stands (becomes top))
  stands_in_flat (suc n) top i [] j t told shallow reached stands becomes =
      let same : i ≡ j = cc in
      subst (λ (x : Instance). Contains {X = Telling} (flat_from (suc n) models joiner top x.suffix x.bound x.model.body) (record { line = t.line; what = told })) (sym same)
      (parts_own models joiner (flat_from n models joiner false) top j.suffix j.bound j.model.body 1 t told stands (becomes top))
  stands_in_flat zero top i (k ∷ path) j t told shallow reached stands becomes =
      let first = first_step i k path j reached in
      let step = step_of i k first.0 first.1 in
      absurd (no_place i.model.body step.before step.placing step.at shallow)
  stands_in_flat (suc n) top i (k ∷ path) j t told shallow reached stands becomes =
      let first = first_step i k path j reached in
      let next : Instance = first.0 in
      let step = step_of i k first.0 first.1 in
      let body = body_inside i first.0 k step in
      let shallow_inside : is_deeper n models first.0.model.body ≡ false =
      subst (λ ts. is_deeper n models ts ≡ false) body (deep_inside models n i.model.body step.before step.placing step.at shallow) in
      let there = stands_in_flat n false first.0 path j t told shallow_inside first.2 stands becomes in
      let number : k ≡ 1 + step.before = let e = step.number in omega arith in
      let as_placed : Contains {X = Telling} (flat_from n models joiner false (instance_in models joiner i (1 + step.before) step.placing.bindings step.model).suffix
      (instance_in models joiner i (1 + step.before) step.placing.bindings step.model).bound (inside_of models step.placing)) (record { line = t.line; what = told }) =
      subst (λ ts. Contains {X = Telling} (flat_from n models joiner false (instance_in models joiner i (1 + step.before) step.placing.bindings step.model).suffix
      (instance_in models joiner i (1 + step.before) step.placing.bindings step.model).bound ts) (record { line = t.line; what = told })) (sym body)
      (subst (λ (m : ℕ). Contains {X = Telling} (flat_from n models joiner false (instance_in models joiner i m step.placing.bindings step.model).suffix
      (instance_in models joiner i m step.placing.bindings step.model).bound first.0.model.body) (record { line = t.line; what = told })) number
      (subst (λ (x : Instance). Contains {X = Telling} (flat_from n models joiner false x.suffix x.bound first.0.model.body) (record { line = t.line; what = told })) step.is there)) in
      parts_placed models joiner (flat_from n models joiner false) top i.suffix i.bound i.model.body 1 step.before step.placing (record { line = t.line; what = told }) step.at as_placed

  -- The numbers of a path are few where there are few instances.
  few_numbers : (n most : ℕ) (i : Instance) (path : List ℕ) (j : Instance) → is_deeper n models i.model.body ≡ false → instances n models i.model.body ≤ most
      → leads models joiner i path ≡ Some j → AllByRecursion (λ k. k ≤ most) path
  few_numbers n most i [] j shallow few reached = tt
  few_numbers zero most i (k ∷ path) j shallow few reached =
      let first = first_step i k path j reached in
      let step = step_of i k first.0 first.1 in
      absurd (no_place i.model.body step.before step.placing step.at shallow)
  few_numbers (suc n) most i (k ∷ path) j shallow few reached =
      let first = first_step i k path j reached in
      let step = step_of i k first.0 first.1 in
      let body = body_inside i first.0 k step in
      let shallow_inside : is_deeper n models first.0.model.body ≡ false =
      subst (λ ts. is_deeper n models ts ≡ false) body (deep_inside models n i.model.body step.before step.placing step.at shallow) in
      let count = counted n models i.model.body step.before step.placing step.at in
      let number : suc step.before ≤ instances (suc n) models i.model.body = count.number in
      let inner : suc (instances n models (inside_of models step.placing)) ≤ instances (suc n) models i.model.body = count.inner in
      let same : instances n models (inside_of models step.placing) ≡ instances n models first.0.model.body = ap (instances n models) body in
      let is = step.number in
      (omega (arith, is, number, few), few_numbers n most first.0 path j shallow_inside (omega (arith, inner, same, few)) first.2)

-- ---- the top

-- the top as an instance
abbrev pub as_top : Model → Instance
as_top top = record { model = top; suffix = []; bound = [] }

first_few : (a b c most : ℕ) → nat_lt most (a + b + c) ≡ false → a ≤ most
first_few a b c most h = let less = ltb-false most (a + b + c) h in omega (arith, less)

second_false : (a b : Bool) → (a && b) ≡ false → a ≡ true → b ≡ false
second_false true b h is = h
second_false false b h is = cc

-- The numbers in the path of an instance are small.
pub small_path : (top : Model) (others : List Model) (joiner : List ℕ) (path : List ℕ) (j : Instance) → is_too_deep (top ∷ others) ≡ false → is_too_large (top ∷ others) ≡ false
    → leads (top ∷ others) joiner (as_top top) path ≡ Some j → AllByRecursion (λ k. k < 2 ^ 64) path
small_path top others joiner [] j shallow small reached = tt
small_path top others joiner (k ∷ path) j shallow small reached =
    by_places (list_any (λ t. is_place t.what) top.body) refl
  where
    weaker : (ks : List ℕ) → AllByRecursion (λ n. n ≤ most_size) ks → AllByRecursion (λ n. n < 2 ^ 64) ks
    weaker [] all = tt
    weaker (n ∷ ks) all = (let less = all.0 in omega (arith, less), weaker ks all.1)

    by_places : (b : Bool) → list_any (λ t. is_place t.what) top.body ≡ b → AllByRecursion (λ n. n < 2 ^ 64) (k ∷ path)
    by_places false none =
        let first = first_step (top ∷ others) joiner (as_top top) k path j reached in
        let step = step_of (top ∷ others) joiner (as_top top) k first.0 first.1 in
        absurd (no_place top.body step.before step.placing step.at none)
    by_places true some =
        let few : instances most_levels (top ∷ others) top.body ≤ most_size =
        first_few (instances most_levels (top ∷ others) top.body) (bytes_in (flat_of (top ∷ others))) (sum (map (λ t. places_in t.what) (flat_of (top ∷ others)).body)) most_size
        (second_false (list_any (λ t. is_place t.what) top.body) (nat_lt most_size (size_of (top ∷ others) top.body)) small some) in
        weaker (k ∷ path) (few_numbers (top ∷ others) joiner most_levels most_size (as_top top) (k ∷ path) j shallow few reached)
