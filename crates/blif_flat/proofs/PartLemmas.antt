-- Flat parts on the way through the statements of a model.
use Rattle.std.proofs.Common.{◌≡◌, ℕ, zero, suc, ◌+◌, ◌-◌, ◌<◌, ◌≤◌, Bool, true, false, List, [], ◌∷◌, ◌++◌, Some, map, length, drop, get_or, refl, sym, ◌∙◌, ap, subst, arith}
use Rattle.std.specs.Prelude.{slice_get}
use Rattle.std.proofs.lemmas.List.{drop_more, drop_all, append-nil}
use Rattle.std.proofs.lemmas.List.Folds.{list_any_at}
use Rattle.blif_unit.specs.declared.unit.Binding.{Binding}
use Rattle.blif_unit.specs.Unit as unit
use Rattle.blif_unit.specs.Unit.{Told, Telling, Model}
use Rattle.blif_flat.specs.Flat.{inside, is_place, is_deeper, told_by, suffix_of, bound_by, flat_parts, flat_from}
use Rattle.blif_flat.specs.Sites.{sites_told, sites_in, index_of}
use Rattle.blif_flat.specs.Around.{Context, renamed, context_inside}
use Rattle.blif_flat.specs.Plan.{body_at, flat_at}
use Rattle.blif_flat.proofs.Parts.{inner_of, rest_at, IsAtSite}
use Rattle.blif_flat.proofs.SiteLemmas.{inside_at}

-- an instance is its flat parts
pub flat_begins : (levels : ℕ) (models : List Model) (joiner : List ℕ) (top : Bool) (c : Context) (m : ℕ) → flat_at levels models joiner top c m ≡ rest_at levels models joiner top c m 1 0
flat_begins zero models joiner top c m = refl
flat_begins (suc n) models joiner top c m = refl

-- nothing is left past the end
pub rest_ends : (levels : ℕ) (models : List Model) (joiner : List ℕ) (top : Bool) (c : Context) (m number i : ℕ) → length (body_at models m) ≤ i → rest_at levels models joiner top c m number i ≡ []
rest_ends levels models joiner top c m number i past = ap (λ ts. flat_parts (inner_of levels models joiner) models joiner top c.suffix c.bound number ts) (drop_all i (body_at models m) past)

-- an instance of nothing becomes nothing
inner_none : (levels : ℕ) (models : List Model) (joiner suffix : List ℕ) (bound : List Binding) → inner_of levels models joiner suffix bound [] ≡ []
inner_none zero models joiner suffix bound = refl
inner_none (suc zero) models joiner suffix bound = refl
inner_none (suc (suc n)) models joiner suffix bound = refl

-- what a statement that places nothing becomes, and what is left after it
pub rest_plain : (levels : ℕ) (models : List Model) (joiner : List ℕ) (top : Bool) (c : Context) (m number i : ℕ) (t : Telling) → i < length (body_at models m) → t ≡ get_or (body_at models m) i t
    → is_place t.what ≡ false
    → rest_at levels models joiner top c m number i ≡ map (λ told. record { line = t.line; what = told }) (told_by top (renamed c) t.what) ++ rest_at levels models joiner top c m number (i + 1)
rest_plain levels models joiner top c m number i t within is plain =
    let split : drop i (body_at models m) ≡ t ∷ drop (i + 1) (body_at models m) = drop_more (body_at models m) i t within ∙ ap (λ x. x ∷ drop (i + 1) (body_at models m)) (sym is) in
    ap (λ ts. flat_parts (inner_of levels models joiner) models joiner top c.suffix c.bound number ts) split ∙ by_kind t.what plain
  where
    joined : (made : List Told) (none : List Telling) → none ≡ []
        → (map (λ told. record { line = t.line; what = told }) made ++ none) ++ rest_at levels models joiner top c m number (i + 1)
        ≡ map (λ told. record { line = t.line; what = told }) made ++ rest_at levels models joiner top c m number (i + 1)
    joined made none e = ap (λ ts. (map (λ told. record { line = t.line; what = told }) made ++ ts) ++ rest_at levels models joiner top c m number (i + 1)) e
        ∙ ap (λ ts. ts ++ rest_at levels models joiner top c m number (i + 1)) (append-nil (map (λ told. record { line = t.line; what = told }) made))

    by_kind : (what : Told) → is_place what ≡ false
        → flat_parts (inner_of levels models joiner) models joiner top c.suffix c.bound number (record { line = t.line; what = what } ∷ drop (i + 1) (body_at models m))
        ≡ map (λ told. record { line = t.line; what = told }) (told_by top (renamed c) what) ++ rest_at levels models joiner top c m number (i + 1)
    by_kind (unit.inputs names) p = joined (told_by top (renamed c) (unit.inputs names)) _ (inner_none levels models joiner (suffix_of joiner c.suffix number) [])
    by_kind (unit.outputs names) p = joined (told_by top (renamed c) (unit.outputs names)) _ (inner_none levels models joiner (suffix_of joiner c.suffix number) [])
    by_kind (unit.clock names) p = joined (told_by top (renamed c) (unit.clock names)) _ (inner_none levels models joiner (suffix_of joiner c.suffix number) [])
    by_kind (unit.gate pins name cover) p = joined (told_by top (renamed c) (unit.gate pins name cover)) _ (inner_none levels models joiner (suffix_of joiner c.suffix number) [])
    by_kind (unit.latch next name init control) p = joined (told_by top (renamed c) (unit.latch next name init control)) _ (inner_none levels models joiner (suffix_of joiner c.suffix number) [])
    by_kind (unit.place name bindings) p = absurd (cc)

-- what a statement that places a model becomes, and what is left after it
pub rest_placed : (levels : ℕ) (models : List Model) (joiner : List ℕ) (top : Bool) (c : Context) (m number i line : ℕ) (name : List ℕ) (bindings : List Binding) → i < length (body_at models m)
    → record { line = line; what = unit.place name bindings } ≡ get_or (body_at models m) i (record { line = line; what = unit.place name bindings })
    → rest_at (suc levels) models joiner top c m number i
    ≡ flat_at levels models joiner false (context_inside joiner c bindings number) (index_of models name) ++ rest_at (suc levels) models joiner top c m (suc number) (i + 1)
rest_placed levels models joiner top c m number i line name bindings within is =
    let t : Telling = record { line = line; what = unit.place name bindings } in
    let split : drop i (body_at models m) ≡ t ∷ drop (i + 1) (body_at models m) = drop_more (body_at models m) i t within ∙ ap (λ x. x ∷ drop (i + 1) (body_at models m)) (sym is) in
    ap (λ ts. flat_parts (flat_from levels models joiner false) models joiner top c.suffix c.bound number ts) split
    ∙ ap (λ ts. flat_from levels models joiner false (suffix_of joiner c.suffix number) (bound_by (renamed c) bindings) ts ++ rest_at (suc levels) models joiner top c m (suc number) (i + 1)) (inside_at models name bindings)

-- ---- sites on the way

pub site_begins : (models : List Model) (m : ℕ) → IsAtSite models m 0 0
site_begins models m = refl

pub site_plain : (models : List Model) (m number i : ℕ) (t : Telling) → i < length (body_at models m) → t ≡ get_or (body_at models m) i t → is_place t.what ≡ false → IsAtSite models m number i
    → IsAtSite models m number (i + 1)
site_plain models m number i t within is plain at =
    let split : drop i (body_at models m) ≡ t ∷ drop (i + 1) (body_at models m) = drop_more (body_at models m) i t within ∙ ap (λ x. x ∷ drop (i + 1) (body_at models m)) (sym is) in
    sym (ap (sites_in models) split ∙ by_kind t.what plain) ∙ at
  where
    by_kind : (what : Told) → is_place what ≡ false → sites_told models what ++ sites_in models (drop (i + 1) (body_at models m)) ≡ sites_in models (drop (i + 1) (body_at models m))
    by_kind (unit.inputs names) p = refl
    by_kind (unit.outputs names) p = refl
    by_kind (unit.clock names) p = refl
    by_kind (unit.gate pins name cover) p = refl
    by_kind (unit.latch next name init control) p = refl
    by_kind (unit.place name bindings) p = absurd (cc)

-- a list from a place on begins with the element there
drop_begins : {X : Type 0} (xs rest : List X) (k : ℕ) (x : X) → drop k xs ≡ x ∷ rest → (k < length xs) × (slice_get xs k ≡ Some x) × (rest ≡ drop (k + 1) xs)
drop_begins [] rest zero x h = cc
drop_begins [] rest (suc k) x h = cc
drop_begins (y ∷ xs) rest zero x h = (omega arith, cc, cc)
drop_begins (y ∷ xs) rest (suc k) x h = let r = drop_begins xs rest k x h in
    let later : suc (k + 1) ≡ suc k + 1 = omega arith in
    (omega (arith, r.0), r.1, r.2 ∙ ap (λ n. drop n (y ∷ xs)) later)

-- The next site is that of the statement, and those after it are the sites after.
pub site_placed : (models : List Model) (m number i line : ℕ) (name : List ℕ) (bindings : List Binding) → i < length (body_at models m)
    → record { line = line; what = unit.place name bindings } ≡ get_or (body_at models m) i (record { line = line; what = unit.place name bindings })
    → IsAtSite models m number i
    → (number < length (sites_in models (body_at models m))) × (slice_get (sites_in models (body_at models m)) number ≡ Some (record { model = index_of models name; bindings = bindings }))
    × IsAtSite models m (number + 1) (i + 1)
site_placed models m number i line name bindings within is at =
    let t : Telling = record { line = line; what = unit.place name bindings } in
    let split : drop i (body_at models m) ≡ t ∷ drop (i + 1) (body_at models m) = drop_more (body_at models m) i t within ∙ ap (λ x. x ∷ drop (i + 1) (body_at models m)) (sym is) in
    drop_begins (sites_in models (body_at models m)) (sites_in models (drop (i + 1) (body_at models m))) number (record { model = index_of models name; bindings = bindings })
    (sym at ∙ ap (sites_in models) split)

-- ---- levels

-- where a statement places a model, there is a level left, and under that model one less
pub level_left : (levels : ℕ) (models : List Model) (m i line : ℕ) (name : List ℕ) (bindings : List Binding) → i < length (body_at models m)
    → record { line = line; what = unit.place name bindings } ≡ get_or (body_at models m) i (record { line = line; what = unit.place name bindings })
    → is_deeper levels models (body_at models m) ≡ false
    → (0 < levels) × (is_deeper (levels - 1) models (body_at models (index_of models name)) ≡ false)
level_left zero models m i line name bindings within is shallow =
    absurd (let some = list_any_at (λ (t : Telling). is_place t.what) (body_at models m) i (record { line = line; what = unit.place name bindings }) within (ap (λ (t : Telling). is_place t.what) (sym is)) in cc)
level_left (suc n) models m i line name bindings within is shallow =
    let same : suc n - 1 ≡ n = omega arith in
    (omega arith, subst (λ k. is_deeper k models (body_at models (index_of models name)) ≡ false) (sym same) (by_test (is_deeper n models (body_at models (index_of models name))) refl))
  where
    by_test : (b : Bool) → is_deeper n models (body_at models (index_of models name)) ≡ b → is_deeper n models (body_at models (index_of models name)) ≡ false
    by_test true deep =
        absurd (let some = list_any_at (λ (t : Telling). is_deeper n models (inside models t.what)) (body_at models m) i (record { line = line; what = unit.place name bindings }) within
        (ap (λ (t : Telling). is_deeper n models (inside models t.what)) (sym is) ∙ ap (is_deeper n models) (inside_at models name bindings) ∙ deep) in cc)
    by_test false deep = deep
