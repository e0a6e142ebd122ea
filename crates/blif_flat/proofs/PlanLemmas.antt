-- Statements and sites as the code reads them.
use Rattle.std.proofs.Common.{◌≡◌, ℕ, ◌+◌, ◌<◌, List, [], ◌∷◌, Option, None, Some, map, length, get_or, refl, sym, ◌∙◌, ap, arith, take, ◌++◌}
use Rattle.std.specs.Prelude.{slice_get, option_map}
use Rattle.std.proofs.lemmas.List.{length-map, map_more, map-append}
use Rattle.std.proofs.lemmas.Option.{slice_get-map, slice_get_read, get_or_from_slice_get}
use Rattle.blif_unit.specs.declared.unit.Unit.{Unit as ModelUnit}
use Rattle.blif_unit.specs.Unit.{Model, telling_of, model_of}
use Rattle.blif_flat.specs.Flat.{body_of}
use Rattle.blif_flat.specs.Sites.{Sited, sites_in}
use Rattle.blif_flat.specs.Plan.{body_at}

-- the statements of the unit that was read are those of the model
pub body_is : (units : List ModelUnit) (m : ℕ) (u : ModelUnit) → m < length units → u ≡ get_or units m u → body_at (map model_of units) m ≡ map telling_of u.body.items
body_is units m u within is =
    ap body_of (slice_get-map model_of units m ∙ ap (λ o. option_map model_of o) (slice_get_read units (length units) m u refl within is))

-- an element that was read, seen by a function
pub seen_at : {X Y : Type 0} (f : X → Y) (xs : List X) (i : ℕ) (x : X) → i < length xs → x ≡ get_or xs i x → (i < length (map f xs)) × (f x ≡ get_or (map f xs) i (f x))
seen_at f xs i x within is =
    let some = slice_get-map f xs i ∙ ap (λ o. option_map f o) (slice_get_read xs (length xs) i x refl within is) in
    (omega (arith, length-map xs f, within), sym (get_or_from_slice_get (map f xs) i (f x) (f x) some))

-- the sites that were read are those of the model
pub sites_are : {V : Type 0} (f : V → List Sited) (read : List V) (models : List Model) (m : ℕ) (v : V) → map f read ≡ map (λ x. sites_in models x.body) models → m < length read → v ≡ get_or read m v
    → f v ≡ sites_in models (body_at models m)
sites_are f read models m v same within is = at models (sym (ap (λ xs. slice_get xs m) same ∙ slice_get-map (λ (x : Model). sites_in models x.body) models m)
    ∙ (slice_get-map f read m ∙ ap (λ o. option_map f o) (slice_get_read read (length read) m v refl within is)))
  where
    by_model : (o : Option Model) → option_map (λ (x : Model). sites_in models x.body) o ≡ Some (f v) → f v ≡ sites_in models (body_of o)
    by_model None e = cc
    by_model (Some x) e = cc

    at : (some : List Model) → option_map (λ (x : Model). sites_in models x.body) (slice_get models m) ≡ Some (f v) → f v ≡ sites_in models (body_at models m)
    at some e = by_model (slice_get models m) e

-- the site that was read
pub site_is : (items sites : List Sited) (k : ℕ) (s t : Sited) → items ≡ sites → slice_get sites k ≡ Some t → s ≡ get_or items k s → s ≡ t
site_is items sites k s t same some is = is ∙ ap (λ xs. get_or xs k s) same ∙ get_or_from_slice_get sites k t s some

-- one element more is collected
pub collected : {X Y : Type 0} (f : X → Y) (xs : List X) (i : ℕ) (x : X) (ys new : List Y) (y : Y) → i < length xs → x ≡ get_or xs i x → y ≡ f x → ys ≡ map f (take i xs) → new ≡ ys ++ y ∷ []
    → new ≡ map f (take (i + 1) xs)
collected f xs i x ys new y within is seen so_far step =
    step ∙ ap (λ zs. zs ++ y ∷ []) so_far ∙ ap (λ z. map f (take i xs) ++ z ∷ []) (seen ∙ ap f is) ∙ sym (map_more f xs i x within)

-- the same where what is collected is seen by a function
pub collected_by : {X Y Z : Type 0} (f : X → Y) (g : Z → Y) (xs : List X) (i : ℕ) (x : X) (zs new : List Z) (z : Z) → i < length xs → x ≡ get_or xs i x → g z ≡ f x → map g zs ≡ map f (take i xs)
    → new ≡ zs ++ z ∷ [] → map g new ≡ map f (take (i + 1) xs)
collected_by f g xs i x zs new z within is seen so_far step =
    ap (map g) step ∙ map-append g zs (z ∷ []) ∙ ap (λ ys. ys ++ g z ∷ []) so_far ∙ ap (λ y. map f (take i xs) ++ y ∷ []) (seen ∙ ap f is) ∙ sym (map_more f xs i x within)
