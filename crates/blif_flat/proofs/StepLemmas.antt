-- One step on the way through the statements of a model, by what the code has read of them, and what it costs.
use Rattle.std.proofs.Common.{◌≡◌, ℕ, zero, suc, ◌+◌, ◌-◌, ◌<◌, ◌≤◌, Bool, false, List, ◌++◌, Some, map, length, get_or, refl, sym, ◌∙◌, ap, subst, arith, Vec, Global, append_assoc}
use Rattle.std.specs.Prelude.{slice_get, option_map, Contains}
use Rattle.std.proofs.lemmas.List.{length-map, append-nil}
use Rattle.std.proofs.lemmas.Option.{slice_get-map, slice_get_within, get_or_from_slice_get}
use Rattle.blif_unit.specs.declared.unit.Unit.{Unit as ModelUnit}
use Rattle.blif_unit.specs.declared.unit.Stated.{Stated}
use Rattle.blif_unit.specs.declared.unit.Binding.{Binding}
use Rattle.blif_unit.specs.declared.unit.Statement.{Statement}
use Rattle.blif_unit.specs.declared.unit.Statement.TheVariants.{Inputs, Outputs, Clock, Gate, Latch, Place}
use Rattle.blif_unit.specs.Unit as unit
use Rattle.blif_unit.specs.Unit.{Told, Telling, Model, told_of, telling_of, model_of}
use Rattle.blif_flat.specs.Flat.{is_place, is_deeper, told_by}
use Rattle.blif_flat.specs.Sites.{Sited, sites_in, index_of}
use Rattle.blif_flat.specs.Graph.{IsPlaced}
use Rattle.blif_flat.specs.Around.{Context, renamed, context_inside}
use Rattle.blif_flat.specs.Size.{weight_of, weight_told}
use Rattle.blif_flat.specs.Plan.{body_at, graph_of, AreSitesOf, IsShallow, flat_at}
use Rattle.blif_flat.proofs.Parts.{rest_at, IsAtSite, IsPaid, IsMade}
use Rattle.blif_flat.proofs.PartLemmas.{flat_begins, rest_ends, rest_plain, rest_placed, site_plain, site_placed, level_left}
use Rattle.blif_flat.proofs.PlanLemmas.{body_is, seen_at, sites_are, site_is}
use Rattle.blif_flat.proofs.SizeLemmas.{weight-append, weight_lined, part_paid, part_unpaid}
use Rattle.blif_flat.proofs.TreeLemmas.{models_at}
use Rattle.blif_flat.proofs.FlatLemmas.{sites_graph, sites_sized}

-- ---- what was read

-- the statement at a place of a model
pub record IsToldAt (models : List Model) (m i : ℕ) (t : Telling) : Type 0 where
  pub within : i < length (body_at models m)
  pub is : t ≡ get_or (body_at models m) i t

body_read : (units : List ModelUnit) (m : ℕ) (u : ModelUnit) (read : List Stated) → m < length (map model_of units) → u ≡ get_or units m u → read ≡ (get_or units m u).body.items
    → body_at (map model_of units) m ≡ map telling_of read
body_read units m u read m_in u_is read_is =
    body_is units m u (omega (arith, length-map units model_of, m_in)) u_is
    ∙ ap (map telling_of) (ap (λ (x : ModelUnit). x.body.items) u_is ∙ sym read_is)

pub told_at : (units : List ModelUnit) (m i : ℕ) (u : ModelUnit) (read : List Stated) (s : Stated) → m < length (map model_of units) → u ≡ get_or units m u → read ≡ (get_or units m u).body.items
    → i < length read → s ≡ get_or read i s → IsToldAt (map model_of units) m i (telling_of s)
told_at units m i u read s m_in u_is read_is i_in s_is =
    let seen = seen_at telling_of read i s i_in s_is in
    let body = body_read units m u read m_in u_is read_is in
    record {
      within = subst (λ b. i < length b) (sym body) seen.0;
      is = subst (λ b. telling_of s ≡ get_or b i (telling_of s)) (sym body) seen.1;
    }

pub told_all : (units : List ModelUnit) (m i : ℕ) (u : ModelUnit) (read : List Stated) → m < length (map model_of units) → u ≡ get_or units m u → read ≡ (get_or units m u).body.items
    → length read ≤ i → length (body_at (map model_of units) m) ≤ i
told_all units m i u read m_in u_is read_is past =
    subst (λ b. length b ≤ i) (sym (body_read units m u read m_in u_is read_is)) (omega (arith, length-map read telling_of, past))

pub not_placed : (what : Statement) → ((name : List ℕ) (bindings : Vec Binding Global) → what ≡ Place name bindings → ⊥) → is_place (told_of what) ≡ false
not_placed (Inputs names) h = refl
not_placed (Outputs names) h = refl
not_placed (Clock names) h = refl
not_placed (Gate pins name cover) h = refl
not_placed (Latch next name init control) h = refl
not_placed (Place name bindings) h = absurd (h name bindings refl)

-- the sites that were read are those of the model
pub items_are : (models : List Model) (sites : List (Vec Sited Global)) (m : ℕ) (v : Vec Sited Global) → AreSitesOf models (map (λ (x : Vec Sited Global). x.items) sites) → m < length models → v ≡ get_or sites m v
    → v.items ≡ sites_in models (body_at models m)
items_are models sites m v plan within is =
    let sized = ap (λ (xs : List (List Sited)). length xs) plan.are in
    sites_are (λ (x : Vec Sited Global). x.items) sites models m v plan.are
    (omega (arith, length-map sites (λ (x : Vec Sited Global). x.items), sized, length-map models (λ (x : Model). sites_in models x.body), within)) is

-- a site leads to a model
site_inside : (models : List Model) (sites : List (List Sited)) → AreSitesOf models sites → (m number : ℕ) (s : Sited) → slice_get (sites_in models (body_at models m)) number ≡ Some s → s.model < length models
site_inside models sites plan m number s at =
    let here : slice_get (models_at models (body_at models m)) number ≡ Some s.model =
    slice_get-map (λ (x : Sited). x.model) (sites_in models (body_at models m)) number ∙ ap (λ o. option_map (λ (x : Sited). x.model) o) at in
    let placed : IsPlaced (graph_of sites) s.model m = subst (λ ps. Contains ps s.model) (sym (sites_graph models sites plan.are m))
    (number, slice_get_within (models_at models (body_at models m)) number s.model here, get_or_from_slice_get (models_at models (body_at models m)) number s.model s.model here) in
    let below = plan.inside m s.model placed in
    omega (arith, below, sites_sized models sites plan.are)

-- the statement that was read, as one that places
placed_told : (models : List Model) (m i : ℕ) (t : Telling) (name : List ℕ) (bindings : List Binding) → IsToldAt models m i t → t.what ≡ unit.place name bindings
    → record { line = t.line; what = unit.place name bindings } ≡ get_or (body_at models m) i (record { line = t.line; what = unit.place name bindings })
placed_told models m i t name bindings at what =
    subst (λ w. record { line = t.line; what = w } ≡ get_or (body_at models m) i (record { line = t.line; what = w })) what at.is

-- the next site was read within those of the model
pub site_within : (models : List Model) (m number i : ℕ) (t : Telling) (name : List ℕ) (bindings : List Binding) (items : List Sited) → IsToldAt models m i t → t.what ≡ unit.place name bindings
    → IsAtSite models m number i → items ≡ sites_in models (body_at models m) → number < length items
site_within models m number i t name bindings items at what at_site same =
    subst (λ ss. number < length ss) (sym same) (site_placed models m number i t.line name bindings at.within (placed_told models m i t name bindings at what) at_site).0

-- ---- steps

-- What a statement that places a model asks for, becomes and leaves, by the context inside and the number of the model.
pub record IsStepIn (levels : ℕ) (models : List Model) (joiner : List ℕ) (top : Bool) (c : Context) (m number i : ℕ) (inner : Context) (p : ℕ) : Type 0 where
  pub left : 0 < levels
  pub shallow : IsShallow models (levels - 1) p
  pub next : IsAtSite models m (number + 1) (i + 1)
  pub splits : rest_at levels models joiner top c m (number + 1) i
      ≡ flat_at (levels - 1) models joiner false inner p ++ rest_at levels models joiner top c m (number + 1 + 1) (i + 1)

-- What a statement that places nothing becomes and leaves.
pub record IsStepOver (levels : ℕ) (models : List Model) (joiner : List ℕ) (top : Bool) (c : Context) (m number i : ℕ) (t : Telling) : Type 0 where
  pub next : IsAtSite models m number (i + 1)
  pub splits : rest_at levels models joiner top c m (number + 1) i
      ≡ map (λ told. record { line = t.line; what = told }) (told_by top (renamed c) t.what) ++ rest_at levels models joiner top c m (number + 1) (i + 1)

pub step_over : (levels : ℕ) (models : List Model) (joiner : List ℕ) (top : Bool) (c : Context) (m number i : ℕ) (t : Telling) → IsToldAt models m i t → is_place t.what ≡ false → IsAtSite models m number i
    → IsStepOver levels models joiner top c m number i t
step_over levels models joiner top c m number i t at plain at_site = record {
  next = site_plain models m number i t at.within at.is plain at_site;
  splits = rest_plain levels models joiner top c m (number + 1) i t at.within at.is plain;
}

step_in : (levels : ℕ) (models : List Model) (sites : List (List Sited)) (joiner : List ℕ) (top : Bool) (c : Context) (m number i : ℕ) (t : Telling) (name : List ℕ) (bindings : List Binding)
    → AreSitesOf models sites → IsToldAt models m i t → t.what ≡ unit.place name bindings → IsAtSite models m number i
    → is_deeper levels models (body_at models m) ≡ false → IsStepIn levels models joiner top c m number i (context_inside joiner c bindings (number + 1)) (index_of models name)
step_in zero models sites joiner top c m number i t name bindings plan at what at_site shallow =
    let level = level_left zero models m i t.line name bindings at.within (placed_told models m i t name bindings at what) shallow in
    absurd (omega (arith, level.0))
step_in (suc n) models sites joiner top c m number i t name bindings plan at what at_site shallow =
    let is = placed_told models m i t name bindings at what in
    let placed = site_placed models m number i t.line name bindings at.within is at_site in
    let level = level_left (suc n) models m i t.line name bindings at.within is shallow in
    let later : suc (number + 1) ≡ number + 1 + 1 = omega arith in
    let less : n ≡ suc n - 1 = omega arith in
    record {
      left = level.0;
      shallow = record { is_model = site_inside models sites plan m number (record { model = index_of models name; bindings = bindings }) placed.1; shallow = level.1 };
      next = placed.2;
      splits = rest_placed n models joiner top c m (number + 1) i t.line name bindings at.within is
          ∙ ap (λ k. flat_at n models joiner false (context_inside joiner c bindings (number + 1)) (index_of models name) ++ rest_at (suc n) models joiner top c m k (i + 1)) later
          ∙ ap (λ k. flat_at k models joiner false (context_inside joiner c bindings (number + 1)) (index_of models name) ++ rest_at (suc n) models joiner top c m (number + 1 + 1) (i + 1)) less;
    }

-- the site that was read is that of the statement
site_told : (models : List Model) (m number i : ℕ) (t : Telling) (name : List ℕ) (bindings : List Binding) (items : List Sited) (s : Sited) → IsToldAt models m i t → t.what ≡ unit.place name bindings
    → IsAtSite models m number i → items ≡ sites_in models (body_at models m) → s ≡ get_or items number s → s ≡ record { model = index_of models name; bindings = bindings }
site_told models m number i t name bindings items s at what at_site same read =
    site_is items (sites_in models (body_at models m)) number s (record { model = index_of models name; bindings = bindings }) same
    (site_placed models m number i t.line name bindings at.within (placed_told models m i t name bindings at what) at_site).1 read

-- ---- steps as the code takes them

pub read_within : (units : List ModelUnit) (sites : List (Vec Sited Global)) (m number i : ℕ) (u : ModelUnit) (read : List Stated) (s : Stated) (name : List ℕ) (bindings : Vec Binding Global)
    (v : Vec Sited Global) → AreSitesOf (map model_of units) (map (λ (x : Vec Sited Global). x.items) sites) → m < length (map model_of units) → IsAtSite (map model_of units) m number i
    → u ≡ get_or units m u → read ≡ (get_or units m u).body.items → i < length read → s ≡ get_or read i s → s.what ≡ Place name bindings → v ≡ get_or sites m v → number < length v.items
read_within units sites m number i u read s name bindings v plan m_in at_site u_is read_is i_in s_is what v_is =
    site_within (map model_of units) m number i (telling_of s) name bindings.items v.items (told_at units m i u read s m_in u_is read_is i_in s_is) (ap told_of what) at_site
    (items_are (map model_of units) sites m v plan m_in v_is)

pub read_in : (units : List ModelUnit) (sites : List (Vec Sited Global)) (levels : ℕ) (joiner : List ℕ) (top : Bool) (c : Context) (m number i : ℕ) (u : ModelUnit) (read : List Stated) (s : Stated)
    (name : List ℕ) (bindings : Vec Binding Global) (v : Vec Sited Global) (site : Sited) (inner : Context) (p : ℕ)
    → AreSitesOf (map model_of units) (map (λ (x : Vec Sited Global). x.items) sites) → IsShallow (map model_of units) levels m → IsAtSite (map model_of units) m number i
    → u ≡ get_or units m u → read ≡ (get_or units m u).body.items → i < length read → s ≡ get_or read i s → s.what ≡ Place name bindings → v ≡ get_or sites m v → site ≡ get_or v.items number site
    → inner ≡ context_inside joiner c site.bindings (number + 1) → p ≡ site.model → IsStepIn levels (map model_of units) joiner top c m number i inner p
read_in units sites levels joiner top c m number i u read s name bindings v site inner p plan shallow at_site u_is read_is i_in s_is what v_is site_is_read inner_is p_is =
    let at = told_at units m i u read s shallow.is_model u_is read_is i_in s_is in
    let step = step_in levels (map model_of units) (map (λ (x : Vec Sited Global). x.items) sites) joiner top c m number i (telling_of s) name bindings.items plan at (ap told_of what) at_site shallow.shallow in
    let told = site_told (map model_of units) m number i (telling_of s) name bindings.items v.items site at (ap told_of what) at_site
    (items_are (map model_of units) sites m v plan shallow.is_model v_is) site_is_read in
    let model : p ≡ index_of (map model_of units) name = p_is ∙ ap (λ (x : Sited). x.model) told in
    let inside : inner ≡ context_inside joiner c bindings.items (number + 1) = inner_is ∙ ap (λ (x : Sited). context_inside joiner c x.bindings (number + 1)) told in
    subst (λ (x : Context). IsStepIn levels (map model_of units) joiner top c m number i x p) (sym inside)
    (subst (λ k. IsStepIn levels (map model_of units) joiner top c m number i (context_inside joiner c bindings.items (number + 1)) k) (sym model) step)

pub read_over : (units : List ModelUnit) (levels : ℕ) (joiner : List ℕ) (top : Bool) (c : Context) (m number i : ℕ) (u : ModelUnit) (read : List Stated) (s : Stated) → m < length (map model_of units)
    → IsAtSite (map model_of units) m number i → u ≡ get_or units m u → read ≡ (get_or units m u).body.items → i < length read → s ≡ get_or read i s
    → ((name : List ℕ) (bindings : Vec Binding Global) → s.what ≡ Place name bindings → ⊥) → IsStepOver levels (map model_of units) joiner top c m number i (telling_of s)
read_over units levels joiner top c m number i u read s m_in at_site u_is read_is i_in s_is what =
    step_over levels (map model_of units) joiner top c m number i (telling_of s) (told_at units m i u read s m_in u_is read_is i_in s_is) (not_placed s.what what) at_site

-- ---- room

in_costs : (levels : ℕ) (models : List Model) (joiner : List ℕ) (top : Bool) (c : Context) (m number i : ℕ) (inner : Context) (p : ℕ) → IsStepIn levels models joiner top c m number i inner p
    → weight_of (rest_at levels models joiner top c m (number + 1) i)
    ≡ weight_of (flat_at (levels - 1) models joiner false inner p) + weight_of (rest_at levels models joiner top c m (number + 1 + 1) (i + 1))
in_costs levels models joiner top c m number i inner p step =
    ap weight_of step.splits ∙ weight-append (flat_at (levels - 1) models joiner false inner p) (rest_at levels models joiner top c m (number + 1 + 1) (i + 1))

pub paid_in : (levels : ℕ) (models : List Model) (joiner : List ℕ) (top : Bool) (c : Context) (m number i room left left' : ℕ) (inner : Context) (p : ℕ) → IsStepIn levels models joiner top c m number i inner p
    → IsPaid levels models joiner top c m number i room left
    → left' + weight_of (flat_at (levels - 1) models joiner false inner p) ≡ left → IsPaid levels models joiner top c m (number + 1) (i + 1) room left'
paid_in levels models joiner top c m number i room left left' inner p step so_far paid =
    part_paid left left' (weight_of (rest_at levels models joiner top c m 1 0)) room (weight_of (rest_at levels models joiner top c m (number + 1) i))
    (weight_of (rest_at levels models joiner top c m (number + 1 + 1) (i + 1))) (weight_of (flat_at (levels - 1) models joiner false inner p))
    (in_costs levels models joiner top c m number i inner p step) so_far paid

pub unpaid_in : (levels : ℕ) (models : List Model) (joiner : List ℕ) (top : Bool) (c : Context) (m number i room left : ℕ) (inner : Context) (p : ℕ) → IsStepIn levels models joiner top c m number i inner p
    → IsPaid levels models joiner top c m number i room left
    → left < weight_of (flat_at (levels - 1) models joiner false inner p) → room < weight_of (flat_at levels models joiner top c m)
unpaid_in levels models joiner top c m number i room left inner p step so_far less =
    subst (λ ts. room < weight_of ts) (sym (flat_begins levels models joiner top c m))
    (part_unpaid left (weight_of (rest_at levels models joiner top c m 1 0)) room (weight_of (rest_at levels models joiner top c m (number + 1) i))
    (weight_of (rest_at levels models joiner top c m (number + 1 + 1) (i + 1))) (weight_of (flat_at (levels - 1) models joiner false inner p))
    (in_costs levels models joiner top c m number i inner p step) so_far less)

over_costs : (levels : ℕ) (models : List Model) (joiner : List ℕ) (top : Bool) (c : Context) (m number i : ℕ) (t : Telling) → IsStepOver levels models joiner top c m number i t
    → weight_of (rest_at levels models joiner top c m (number + 1) i) ≡ weight_told (told_by top (renamed c) t.what) + weight_of (rest_at levels models joiner top c m (number + 1) (i + 1))
over_costs levels models joiner top c m number i t step =
    ap weight_of step.splits
    ∙ weight-append (map (λ told. record { line = t.line; what = told }) (told_by top (renamed c) t.what)) (rest_at levels models joiner top c m (number + 1) (i + 1))
    ∙ ap (λ n. n + weight_of (rest_at levels models joiner top c m (number + 1) (i + 1))) (weight_lined t.line (told_by top (renamed c) t.what))

pub paid_over : (levels : ℕ) (models : List Model) (joiner : List ℕ) (top : Bool) (c : Context) (m number i room left left' : ℕ) (t : Telling) → IsStepOver levels models joiner top c m number i t
    → IsPaid levels models joiner top c m number i room left → left' + weight_told (told_by top (renamed c) t.what) ≡ left → IsPaid levels models joiner top c m number (i + 1) room left'
paid_over levels models joiner top c m number i room left left' t step so_far paid =
    part_paid left left' (weight_of (rest_at levels models joiner top c m 1 0)) room (weight_of (rest_at levels models joiner top c m (number + 1) i))
    (weight_of (rest_at levels models joiner top c m (number + 1) (i + 1))) (weight_told (told_by top (renamed c) t.what)) (over_costs levels models joiner top c m number i t step) so_far paid

pub unpaid_over : (levels : ℕ) (models : List Model) (joiner : List ℕ) (top : Bool) (c : Context) (m number i room left : ℕ) (t : Telling) → IsStepOver levels models joiner top c m number i t
    → IsPaid levels models joiner top c m number i room left → left < weight_told (told_by top (renamed c) t.what) → room < weight_of (flat_at levels models joiner top c m)
unpaid_over levels models joiner top c m number i room left t step so_far less =
    subst (λ ts. room < weight_of ts) (sym (flat_begins levels models joiner top c m))
    (part_unpaid left (weight_of (rest_at levels models joiner top c m 1 0)) room (weight_of (rest_at levels models joiner top c m (number + 1) i))
    (weight_of (rest_at levels models joiner top c m (number + 1) (i + 1))) (weight_told (told_by top (renamed c) t.what)) (over_costs levels models joiner top c m number i t step) so_far less)

-- all is paid at the end
pub paid_all : (levels : ℕ) (models : List Model) (joiner : List ℕ) (top : Bool) (c : Context) (m number i room left : ℕ) → length (body_at models m) ≤ i
    → IsPaid levels models joiner top c m number i room left → left + weight_of (flat_at levels models joiner top c m) ≡ room
paid_all levels models joiner top c m number i room left past so_far =
    ap (λ ts. left + weight_of ts) (flat_begins levels models joiner top c m) ∙ so_far ∙ ap (λ ts. room + weight_of ts) (rest_ends levels models joiner top c m (number + 1) i past) ∙ omega arith

-- ---- statements

pub made_in : (levels : ℕ) (models : List Model) (joiner : List ℕ) (top : Bool) (c : Context) (m number i : ℕ) (old new new' : List Telling) (inner : Context) (p : ℕ)
    → IsStepIn levels models joiner top c m number i inner p → IsMade levels models joiner top c m number i old new
    → new' ≡ new ++ flat_at (levels - 1) models joiner false inner p → IsMade levels models joiner top c m (number + 1) (i + 1) old new'
made_in levels models joiner top c m number i old new new' inner p step so_far more =
    ap (λ ts. ts ++ rest_at levels models joiner top c m (number + 1 + 1) (i + 1)) more
    ∙ append_assoc new (flat_at (levels - 1) models joiner false inner p) (rest_at levels models joiner top c m (number + 1 + 1) (i + 1))
    ∙ ap (λ ts. new ++ ts) (sym step.splits) ∙ so_far

pub made_over : (levels : ℕ) (models : List Model) (joiner : List ℕ) (top : Bool) (c : Context) (m number i : ℕ) (old new new' : List Telling) (t : Telling) → IsStepOver levels models joiner top c m number i t
    → IsMade levels models joiner top c m number i old new → new' ≡ new ++ map (λ told. record { line = t.line; what = told }) (told_by top (renamed c) t.what)
    → IsMade levels models joiner top c m number (i + 1) old new'
made_over levels models joiner top c m number i old new new' t step so_far more =
    ap (λ ts. ts ++ rest_at levels models joiner top c m (number + 1) (i + 1)) more
    ∙ append_assoc new (map (λ told. record { line = t.line; what = told }) (told_by top (renamed c) t.what)) (rest_at levels models joiner top c m (number + 1) (i + 1))
    ∙ ap (λ ts. new ++ ts) (sym step.splits) ∙ so_far

-- all are made at the end
pub made_all : (levels : ℕ) (models : List Model) (joiner : List ℕ) (top : Bool) (c : Context) (m number i : ℕ) (old new : List Telling) → length (body_at models m) ≤ i
    → IsMade levels models joiner top c m number i old new → new ≡ old ++ flat_at levels models joiner top c m
made_all levels models joiner top c m number i old new past so_far =
    sym (ap (λ ts. new ++ ts) (rest_ends levels models joiner top c m (number + 1) i past) ∙ append-nil new)
    ∙ so_far ∙ ap (λ ts. old ++ ts) (sym (flat_begins levels models joiner top c m))
