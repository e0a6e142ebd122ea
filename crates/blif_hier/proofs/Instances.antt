-- Instances: what the names of each become, which statements it puts into the flat unit, and from which instance each statement came.
use Rattle.std.proofs.Common.{◌≡◌, inl, inr, ℕ, zero, suc, ◌+◌, Bool, true, false, List, [], ◌∷◌, ◌++◌, Option, None, Some, length, map, flat_map, slice_get, refl, sym, ◌∙◌, ap, subst, arith, append_assoc, length-append}
use Rattle.std.specs.Prelude.{Contains, option_map, option_and_then}
use Rattle.std.proofs.lemmas.List.{append-nil}
use Rattle.std.proofs.lemmas.List.Concat.{flat_map-append}
use Rattle.std.proofs.lemmas.List.Elements.{Contains-append_left, Contains-append_right, Contains-append_cases}
use Rattle.tm_circuit.proofs.ListLemmas.{contains-first, contains-rest, contains-cases, contains-none, contains-map, contains-unmap}
use Rattle.blif_unit.specs.declared.unit.Binding.{Binding}
use Rattle.blif_unit.specs.Unit as unit
use Rattle.blif_unit.specs.Unit.{Told, Telling, Model}
use Rattle.blif_flat.specs.Places.{model_named}
use Rattle.blif_flat.specs.Flat.{body_of, inside, suffix_of, name_within, bound_by, told_by, bindings_told, number_after, flat_parts, flat_from}
use Rattle.blif_hier.proofs.Lists.{slice_get-append}
use Rattle.blif_hier.specs.Nested.{Placing, placings_told, placings_of, placing_at, placed_at, model_under}

-- An instance: its model, what its names end in, and what its formals become.
pub record Instance : Type 0 where
  pub model : Model
  pub suffix : List ℕ
  pub bound : List Binding

-- what a name of an instance becomes
abbrev pub named : Instance → List ℕ → List ℕ
named i n = name_within i.suffix i.bound n

-- ---- the `.subckt`s among statements

abbrev pub over_placings : List Telling → List Placing
over_placings body = flat_map (λ t. placings_told t.what) body

-- the statement of a `.subckt`
pub placing_stands : (body : List Telling) (idx : ℕ) (p : Placing) → slice_get (over_placings body) idx ≡ Some p
    → (t : Telling) × Contains body t × (t.what ≡ unit.place p.model p.bindings)
placing_stands [] idx p at = let e : ◌≡◌ {A = Option Placing} None (Some p) = at in cc
placing_stands (x ∷ body) idx p at = by_kind x.what refl idx at (λ i there. later (placing_stands body i p there))
  where
    later : (t : Telling) × Contains body t × (t.what ≡ unit.place p.model p.bindings) → (t : Telling) × Contains (x ∷ body) t × (t.what ≡ unit.place p.model p.bindings)
    later found = (found.0, contains-rest x body found.0 found.1, found.2)

    by_place : (name : List ℕ) (bindings : List Binding) (i : ℕ) → x.what ≡ unit.place name bindings
        → slice_get (record { model = name; bindings = bindings } ∷ over_placings body) i ≡ Some p
        → ((j : ℕ) → slice_get (over_placings body) j ≡ Some p → (t : Telling) × Contains (x ∷ body) t × (t.what ≡ unit.place p.model p.bindings))
        → (t : Telling) × Contains (x ∷ body) t × (t.what ≡ unit.place p.model p.bindings)
    by_place name bindings zero is there ih =
        let first : ◌≡◌ {A = Placing} (record { model = name; bindings = bindings }) p = cc in
        (x, contains-first x body, is ∙ ap (λ (q : Placing). unit.place q.model q.bindings) first)
    by_place name bindings (suc i) is there ih = ih i there

    by_kind : (w : Told) → x.what ≡ w → (i : ℕ) → slice_get (placings_told w ++ over_placings body) i ≡ Some p
        → ((j : ℕ) → slice_get (over_placings body) j ≡ Some p → (t : Telling) × Contains (x ∷ body) t × (t.what ≡ unit.place p.model p.bindings))
        → (t : Telling) × Contains (x ∷ body) t × (t.what ≡ unit.place p.model p.bindings)
    by_kind (unit.inputs names) is i there ih = ih i there
    by_kind (unit.outputs names) is i there ih = ih i there
    by_kind (unit.clock names) is i there ih = ih i there
    by_kind (unit.gate pins name cover) is i there ih = ih i there
    by_kind (unit.latch next name init control) is i there ih = ih i there
    by_kind (unit.place name bindings) is i there ih = by_place name bindings i is there ih

-- ---- instances in others

module _ (models : List Model) (joiner : List ℕ) where
  -- an instance of a model in another instance
  abbrev pub instance_in : Instance → ℕ → List Binding → Model → Instance
  instance_in i k bindings m = record { model = m; suffix = suffix_of joiner i.suffix k; bound = bound_by (named i) bindings }

  -- the instance at the `.subckt` of a number in another
  abbrev pub instance_at : Instance → ℕ → Option Instance
  instance_at i k = option_and_then (λ p. option_map (instance_in i k p.bindings) (model_named models p.model)) (placing_at i.model k)

  -- the instance to which a path leads from another
  abbrev pub leads : Instance → List ℕ → Option Instance
  leads i [] = Some i
  leads i (k ∷ path) = option_and_then (λ next. leads next path) (instance_at i k)

  -- ---- paths

  and_then-comp : {A B C : Type 0} (f : A → Option B) (g : B → Option C) (o : Option A)
      → option_and_then g (option_and_then f o) ≡ option_and_then (λ x. option_and_then g (f x)) o
  and_then-comp f g None = refl
  and_then-comp f g (Some x) = refl

  pub leads-append : (i : Instance) (path more : List ℕ) → leads i (path ++ more) ≡ option_and_then (λ j. leads j more) (leads i path)
  leads-append i [] more = refl
  leads-append i (k ∷ path) more = by_next (instance_at i k) (λ next. leads-append next path more)
    where
      by_next : (o : Option Instance) → ((next : Instance) → leads next (path ++ more) ≡ option_and_then (λ j. leads j more) (leads next path))
          → option_and_then (λ next. leads next (path ++ more)) o ≡ option_and_then (λ j. leads j more) (option_and_then (λ next. leads next path) o)
      by_next None ih = refl
      by_next (Some next) ih = ih next

  pub under-append : (m : Model) (path more : List ℕ) → model_under models m (path ++ more) ≡ option_and_then (λ n. model_under models n more) (model_under models m path)
  under-append m [] more = refl
  under-append m (k ∷ path) more = by_next (placed_at models m k) (λ next. under-append next path more)
    where
      by_next : (o : Option Model)
          → ((next : Model) → model_under models next (path ++ more) ≡ option_and_then (λ n. model_under models n more) (model_under models next path))
          → option_and_then (λ next. model_under models next (path ++ more)) o
          ≡ option_and_then (λ n. model_under models n more) (option_and_then (λ next. model_under models next path) o)
      by_next None ih = refl
      by_next (Some next) ih = ih next

  -- the model of an instance
  pub model_of_step : (i : Instance) (k : ℕ) → option_map (λ j. j.model) (instance_at i k) ≡ placed_at models i.model k
  model_of_step i k = by_placing (placing_at i.model k)
    where
      by_found : (p : Placing) (o : Option Model) → option_map (λ j. j.model) (option_map (instance_in i k p.bindings) o) ≡ o
      by_found p None = refl
      by_found p (Some m) = refl

      by_placing : (o : Option Placing) → option_map (λ j. j.model) (option_and_then (λ p. option_map (instance_in i k p.bindings) (model_named models p.model)) o)
          ≡ option_and_then (λ p. model_named models p.model) o
      by_placing None = refl
      by_placing (Some p) = by_found p (model_named models p.model)

  pub model_of_path : (i : Instance) (path : List ℕ) → option_map (λ j. j.model) (leads i path) ≡ model_under models i.model path
  model_of_path i [] = refl
  model_of_path i (k ∷ path) = by_next (instance_at i k) (λ next. model_of_path next path) ∙ ap (λ o. option_and_then (λ m. model_under models m path) o) (model_of_step i k)
    where
      by_next : (o : Option Instance) → ((next : Instance) → option_map (λ j. j.model) (leads next path) ≡ model_under models next.model path)
          → option_map (λ j. j.model) (option_and_then (λ next. leads next path) o) ≡ option_and_then (λ m. model_under models m path) (option_map (λ j. j.model) o)
      by_next None ih = refl
      by_next (Some next) ih = ih next

  -- The instance of a model that a path leads to.
  pub instance_of : (i : Instance) (path : List ℕ) (m : Model) → model_under models i.model path ≡ Some m → (j : Instance) × (leads i path ≡ Some j) × (j.model ≡ m)
  instance_of i path m is = by_found (leads i path) refl
    where
      by_found : (o : Option Instance) → leads i path ≡ o → (j : Instance) × (leads i path ≡ Some j) × (j.model ≡ m)
      by_found None none =
          let e : ◌≡◌ {A = Option Model} None (Some m) = ap (option_map (λ (j : Instance). j.model)) (sym none) ∙ model_of_path i path ∙ is in cc
      by_found (Some j) at =
          let e : Some j.model ≡ Some m = ap (option_map (λ (x : Instance). x.model)) (sym at) ∙ model_of_path i path ∙ is in
          (j, at, cc)

  -- ---- one `.subckt` among others

  placing_here : (m : Model) (done rest : List Telling) (line : ℕ) (name : List ℕ) (bindings : List Binding)
      → m.body ≡ done ++ record { line = line; what = unit.place name bindings } ∷ rest
      → placing_at m (suc (length (over_placings done))) ≡ Some (record { model = name; bindings = bindings })
  placing_here m done rest line name bindings split =
      let later : List Telling = record { line = line; what = unit.place name bindings } ∷ rest in
      let parts : placings_of m ≡ over_placings done ++ over_placings (record { line = line; what = unit.place name bindings } ∷ rest) =
      ap over_placings split ∙ flat_map-append (λ (t : Telling). placings_told t.what) done (record { line = line; what = unit.place name bindings } ∷ rest) in
      let place : length (over_placings done) ≡ length (over_placings done) + 0 = omega arith in
      ap (λ ps. slice_get ps (length (over_placings done))) parts
      ∙ ap (slice_get (over_placings done ++ over_placings (record { line = line; what = unit.place name bindings } ∷ rest))) place
      ∙ slice_get-append (over_placings done) (over_placings (record { line = line; what = unit.place name bindings } ∷ rest)) 0

  number_next : (done : List Telling) (t : Telling) → number_after (suc (length (over_placings done))) t.what ≡ suc (length (over_placings (done ++ t ∷ [])))
  number_next done t =
      by_kind t.what
      ∙ ap suc (sym (ap length (flat_map-append (λ (s : Telling). placings_told s.what) done (t ∷ []) ∙ ap (λ ps. over_placings done ++ ps) (append-nil (placings_told t.what)))
      ∙ length-append (over_placings done) (placings_told t.what)))
    where
      by_kind : (w : Told) → number_after (suc (length (over_placings done))) w ≡ suc (length (over_placings done) + length (placings_told w))
      by_kind (unit.inputs names) = omega arith
      by_kind (unit.outputs names) = omega arith
      by_kind (unit.clock names) = omega arith
      by_kind (unit.gate pins name cover) = omega arith
      by_kind (unit.latch next name init control) = omega arith
      by_kind (unit.place name bindings) = omega arith

  -- ---- from which instance a statement of the flat unit came

  -- The statement comes from one of an instance to which a path leads.
  pub record IsFrom (i : Instance) (s : Telling) : Type 0 where
    pub path : List ℕ
    pub at : Instance
    pub reached : leads i path ≡ Some at
    pub told : Telling
    pub stands : Contains at.model.body told
    pub becomes : Contains (told_by true (named at) told.what) s.what

  as_top : (top : Bool) (rename : List ℕ → List ℕ) (w told : Told) → Contains (told_by top rename w) told → Contains (told_by true rename w) told
  as_top true rename w told h = h
  as_top false rename (unit.inputs names) told h = absurd (contains-none told h)
  as_top false rename (unit.outputs names) told h = absurd (contains-none told h)
  as_top false rename (unit.clock names) told h = h
  as_top false rename (unit.gate pins name cover) told h = h
  as_top false rename (unit.latch next name init control) told h = h
  as_top false rename (unit.place name bindings) told h = h

  own_from : (i : Instance) (top : Bool) (t s : Telling) → Contains i.model.body t
      → Contains (map (λ told. record { line = t.line; what = told }) (told_by top (named i) t.what)) s → IsFrom i s
  own_from i top t s stands h =
      let back = contains-unmap (λ (told : Told). record { line = t.line; what = told }) (told_by top (named i) t.what) s h in
      let what : back.0 ≡ s.what = ap (λ (x : Telling). x.what) back.2 in
      record {
        path = [];
        at = i;
        reached = refl;
        told = t;
        stands = stands;
        becomes = subst (λ (w : Told). Contains (told_by true (named i) t.what) w) what (as_top top (named i) t.what back.0 back.1);
      }

  inner_from : (i next : Instance) (k : ℕ) (s : Telling) → instance_at i k ≡ Some next → IsFrom next s → IsFrom i s
  inner_from i next k s at from = record {
    path = k ∷ from.path;
    at = from.at;
    reached = ap (λ o. option_and_then (λ (j : Instance). leads j from.path) o) at ∙ from.reached;
    told = from.told;
    stands = from.stands;
    becomes = from.becomes;
  }

  module _ (instance : List ℕ → List Binding → List Telling → List Telling)
      (empty : (suffix : List ℕ) (bound : List Binding) → instance suffix bound [] ≡ [])
      (each : (j : Instance) (s : Telling) → Contains (instance j.suffix j.bound j.model.body) s → IsFrom j s) where
    none_inside : (suffix : List ℕ) (bound : List Binding) (s : Telling) → Contains (instance suffix bound []) s → ⊥
    none_inside suffix bound s h = contains-none s (subst (λ ss. Contains ss s) (empty suffix bound) h)

    placed_from : (i : Instance) (done rest : List Telling) (t : Telling) (s : Telling) → i.model.body ≡ done ++ t ∷ rest
        → Contains (instance (suffix_of joiner i.suffix (suc (length (over_placings done)))) (bound_by (named i) (bindings_told t.what)) (inside models t.what)) s → IsFrom i s
    placed_from i done rest t s split h = by_kind t.what refl h
      where
        by_model : (name : List ℕ) (bindings : List Binding) (o : Option Model) → t.what ≡ unit.place name bindings → model_named models name ≡ o
            → Contains (instance (suffix_of joiner i.suffix (suc (length (over_placings done)))) (bound_by (named i) bindings) (body_of o)) s → IsFrom i s
        by_model name bindings None is found there = absurd (none_inside _ _ s there)
        by_model name bindings (Some m) is found there =
            let next : Instance = instance_in i (suc (length (over_placings done))) bindings m in
            let same : t ≡ record { line = t.line; what = unit.place name bindings } = ap (λ (w : Told). record { line = t.line; what = w }) is in
            let placing = placing_here i.model done rest t.line name bindings (split ∙ ap (λ (x : Telling). done ++ x ∷ rest) same) in
            let at : instance_at i (suc (length (over_placings done))) ≡ Some (instance_in i (suc (length (over_placings done))) bindings m) =
            ap (λ o. option_and_then (λ (p : Placing). option_map (instance_in i (suc (length (over_placings done))) p.bindings) (model_named models p.model)) o) placing
            ∙ ap (option_map (instance_in i (suc (length (over_placings done))) bindings)) found in
            inner_from i next (suc (length (over_placings done))) s at (each next s there)

        by_kind : (w : Told) → t.what ≡ w
            → Contains (instance (suffix_of joiner i.suffix (suc (length (over_placings done)))) (bound_by (named i) (bindings_told w)) (inside models w)) s → IsFrom i s
        by_kind (unit.inputs names) is there = absurd (none_inside _ _ s there)
        by_kind (unit.outputs names) is there = absurd (none_inside _ _ s there)
        by_kind (unit.clock names) is there = absurd (none_inside _ _ s there)
        by_kind (unit.gate pins name cover) is there = absurd (none_inside _ _ s there)
        by_kind (unit.latch next name init control) is there = absurd (none_inside _ _ s there)
        by_kind (unit.place name bindings) is there = by_model name bindings (model_named models name) is refl there

    parts_from : (i : Instance) (top : Bool) (done rest : List Telling) (k : ℕ) (s : Telling) → i.model.body ≡ done ++ rest → k ≡ suc (length (over_placings done))
        → Contains (flat_parts instance models joiner top i.suffix i.bound k rest) s → IsFrom i s
    parts_from i top done [] k s split number h = absurd (contains-none s h)
    parts_from i top done (t ∷ rest) k s split number h =
        let own : List Telling = map (λ told. record { line = t.line; what = told }) (told_by top (named i) t.what) in
        let placed : List Telling = instance (suffix_of joiner i.suffix k) (bound_by (named i) (bindings_told t.what)) (inside models t.what) in
        let more : List Telling = flat_parts instance models joiner top i.suffix i.bound (number_after k t.what) rest in
        elim (Contains-append_cases (own ++ placed) more s h) [
          | inl here ↦ elim (Contains-append_cases own placed s here) [
            | inl first ↦ own_from i top t s (subst (λ ts. Contains ts t) (sym split) (Contains-append_right done (t ∷ rest) t (contains-first t rest))) first
            | inr inner ↦ placed_from i done rest t s split
                (subst (λ (n : ℕ). Contains (instance (suffix_of joiner i.suffix n) (bound_by (named i) (bindings_told t.what)) (inside models t.what)) s) number inner)
          ]
          | inr later ↦ parts_from i top (done ++ t ∷ []) rest (number_after k t.what) s (split ∙ sym (append_assoc done (t ∷ []) rest))
              (ap (λ n. number_after n t.what) number ∙ number_next done t) later
        ]

  empty_flat : (n : ℕ) (suffix : List ℕ) (bound : List Binding) → flat_from n models joiner false suffix bound [] ≡ []
  empty_flat zero suffix bound = refl
  empty_flat (suc n) suffix bound = refl

  -- Each statement of the flat unit comes from one of an instance.
  pub flat_is_from : (n : ℕ) (top : Bool) (i : Instance) (s : Telling) → Contains (flat_from n models joiner top i.suffix i.bound i.model.body) s → IsFrom i s
  flat_is_from zero top i s h = parts_from (λ s b ts. []) (λ s b. refl) (λ j x there. absurd (contains-none x there)) i top [] i.model.body 1 s refl refl h
  flat_is_from (suc n) top i s h = parts_from (flat_from n models joiner false) (empty_flat n) (flat_is_from n false) i top [] i.model.body 1 s refl refl h

  -- ---- the statements of each instance stand in the flat unit

  module _ (instance : List ℕ → List Binding → List Telling → List Telling) (top : Bool) (suffix : List ℕ) (bound : List Binding) where
    pub parts_own : (body : List Telling) (k : ℕ) (t : Telling) (told : Told) → Contains body t → Contains (told_by top (name_within suffix bound) t.what) told
        → Contains {X = Telling} (flat_parts instance models joiner top suffix bound k body) (record { line = t.line; what = told })
    parts_own [] k t told there becomes = absurd (contains-none t there)
    parts_own (x ∷ body) k t told there becomes =
        let own : List Telling = map (λ w. record { line = x.line; what = w }) (told_by top (name_within suffix bound) x.what) in
        let placed : List Telling = instance (suffix_of joiner suffix k) (bound_by (name_within suffix bound) (bindings_told x.what)) (inside models x.what) in
        let more : List Telling = flat_parts instance models joiner top suffix bound (number_after k x.what) body in
        elim (contains-cases x body t there) [
          | inl same ↦
              Contains-append_left (own ++ placed) more (record { line = t.line; what = told })
              (Contains-append_left own placed (record { line = t.line; what = told })
              (subst (λ (y : Telling). Contains {X = Telling} (map (λ (w : Told). record { line = y.line; what = w }) (told_by top (name_within suffix bound) y.what)) (record { line = t.line; what = told })) (sym same)
              (contains-map (λ (w : Told). record { line = t.line; what = w }) (told_by top (name_within suffix bound) t.what) told becomes)))
          | inr rest ↦ Contains-append_right (own ++ placed) more (record { line = t.line; what = told }) (parts_own body (number_after k x.what) t told rest becomes)
        ]

    -- the statements that one statement becomes, and those inside
    abbrev here_of : Telling → ℕ → List Telling
    here_of x k =
        map (λ w. record { line = x.line; what = w }) (told_by top (name_within suffix bound) x.what)
        ++ instance (suffix_of joiner suffix k) (bound_by (name_within suffix bound) (bindings_told x.what)) (inside models x.what)

    abbrev rest_of : ℕ → Told → List Telling → List Telling
    rest_of k w body = flat_parts instance models joiner top suffix bound (number_after k w) body

    -- what is inside at a place
    abbrev There : ℕ → Placing → Telling → Type 0
    There k p s = Contains (instance (suffix_of joiner suffix k) (bound_by (name_within suffix bound) p.bindings) (body_of (model_named models p.model))) s

    there_is : (x : Telling) (body : List Telling) (k : ℕ) (name : List ℕ) (bindings : List Binding) (s : Telling) → x.what ≡ unit.place name bindings
        → There k (record { model = name; bindings = bindings }) s → Contains (flat_parts instance models joiner top suffix bound k (x ∷ body)) s
    there_is x body k name bindings s is here =
        Contains-append_left (here_of x k) (rest_of k x.what body) s
        (Contains-append_right (map (λ w. record { line = x.line; what = w }) (told_by top (name_within suffix bound) x.what))
        (instance (suffix_of joiner suffix k) (bound_by (name_within suffix bound) (bindings_told x.what)) (inside models x.what)) s
        (subst (λ (v : Told). Contains (instance (suffix_of joiner suffix k) (bound_by (name_within suffix bound) (bindings_told v)) (inside models v)) s) (sym is) here))

    passed : (x : Telling) (body : List Telling) (k : ℕ) (w : Told) (s : Telling) → x.what ≡ w → Contains (rest_of k w body) s
        → Contains (flat_parts instance models joiner top suffix bound k (x ∷ body)) s
    passed x body k w s is rest =
        Contains-append_right (here_of x k) (rest_of k x.what body) s (subst (λ (v : Told). Contains (rest_of k v body) s) (sym is) rest)

    pub parts_placed : (body : List Telling) (k idx : ℕ) (p : Placing) (s : Telling) → slice_get (over_placings body) idx ≡ Some p → There (k + idx) p s
        → Contains (flat_parts instance models joiner top suffix bound k body) s
    parts_placed [] k idx p s at there = let e : ◌≡◌ {A = Option Placing} None (Some p) = at in cc
    parts_placed (x ∷ body) k idx p s at there = by_kind x.what refl idx at there (λ j i found here. parts_placed body j i p s found here)
      where
        by_place : (name : List ℕ) (bindings : List Binding) (i : ℕ) → x.what ≡ unit.place name bindings
            → slice_get (record { model = name; bindings = bindings } ∷ over_placings body) i ≡ Some p → There (k + i) p s
            → ((n j : ℕ) → slice_get (over_placings body) j ≡ Some p → There (n + j) p s → Contains (flat_parts instance models joiner top suffix bound n body) s)
            → Contains (flat_parts instance models joiner top suffix bound k (x ∷ body)) s
        by_place name bindings zero is found here ih =
            let first : ◌≡◌ {A = Placing} (record { model = name; bindings = bindings }) p = cc in
            let number : k + 0 ≡ k = omega arith in
            there_is x body k name bindings s is (subst (λ (q : Placing). There k q s) (sym first) (subst (λ (n : ℕ). There n p s) number here))
        by_place name bindings (suc i) is found here ih =
            let number : k + suc i ≡ suc k + i = omega arith in
            passed x body k (unit.place name bindings) s is (ih (suc k) i found (subst (λ (n : ℕ). There n p s) number here))

        by_kind : (w : Told) → x.what ≡ w → (i : ℕ) → slice_get (placings_told w ++ over_placings body) i ≡ Some p → There (k + i) p s
            → ((n j : ℕ) → slice_get (over_placings body) j ≡ Some p → There (n + j) p s → Contains (flat_parts instance models joiner top suffix bound n body) s)
            → Contains (flat_parts instance models joiner top suffix bound k (x ∷ body)) s
        by_kind (unit.inputs names) is i found here ih = passed x body k (unit.inputs names) s is (ih k i found here)
        by_kind (unit.outputs names) is i found here ih = passed x body k (unit.outputs names) s is (ih k i found here)
        by_kind (unit.clock names) is i found here ih = passed x body k (unit.clock names) s is (ih k i found here)
        by_kind (unit.gate pins name cover) is i found here ih = passed x body k (unit.gate pins name cover) s is (ih k i found here)
        by_kind (unit.latch next name init control) is i found here ih = passed x body k (unit.latch next name init control) s is (ih k i found here)
        by_kind (unit.place name bindings) is i found here ih = by_place name bindings i is found here ih
