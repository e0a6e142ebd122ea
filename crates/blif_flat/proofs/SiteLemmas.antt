-- Sites: the name that a formal is bound to, models by name and by number, and the first fault of `.subckt` lines.
use Rattle.std.proofs.Common.{◌≡◌, ℕ, zero, suc, ◌+◌, ◌<◌, ◌≤◌, Bool, true, false, cond, not, nat_lt, ◌&&◌, List, [], ◌∷◌, ◌++◌, Option, None, Some, map, flat_map, filter_map, length, take, get_or, refl, sym, ◌∙◌, ap, subst, arith, bytes_eq, position, if◌then◌else◌}
use Rattle.std.specs.Prelude.{slice_get}
use Rattle.std.specs.List.{list_all, position_or_len, cons_option}
use Rattle.std.proofs.lemmas.Bool.Decides.{nat_tests}
use Rattle.std.proofs.lemmas.List.{append-nil, map_more, length-map, get_or_default}
use Rattle.std.proofs.lemmas.List.Concat.{flat_map-append}
use Rattle.std.proofs.lemmas.List.Folds.{find_at}
use Rattle.std.proofs.lemmas.List.Elements.{filter_map-append}
use Rattle.std.proofs.lemmas.Option.{cond_some}
use Rattle.blif_unit.specs.declared.fault.BlifKind.TheVariants.{UnknownFormal, RepeatedFormal, Unbound}
use Rattle.blif_unit.specs.declared.unit.Binding.{Binding}
use Rattle.blif_unit.specs.Unit.{Model, place, repeats}
use Rattle.blif_unit.proofs.NameLemmas.{prefix_len-map}
use Rattle.blif_flat.specs.Flat.{body_of, inside}
use Rattle.blif_flat.specs.Places.{model_named, is_among, fault_in_formals}
use Rattle.blif_flat.specs.Sites.{actual_of, formals_bound, index_of}
use Rattle.blif_flat.specs.Plan.{body_at}

-- ---- what a formal is bound to

pub place_of : List Binding → List ℕ → ℕ
place_of bs n = position_or_len (bytes_eq n) (formals_bound bs)

place_here : (b : Binding) (bs : List Binding) (n : List ℕ) → bytes_eq n b.formal ≡ true → place_of (b ∷ bs) n ≡ 0
unfolding place_of
place_here b bs n is = ap (λ t. cond (not t) (1 + position_or_len (bytes_eq n) (formals_bound bs)) 0) is

place_later : (b : Binding) (bs : List Binding) (n : List ℕ) → bytes_eq n b.formal ≡ false → place_of (b ∷ bs) n ≡ suc (place_of bs n)
unfolding place_of
place_later b bs n is = ap (λ t. cond (not t) (1 + position_or_len (bytes_eq n) (formals_bound bs)) 0) is ∙ omega arith

pub actual_at : (bs : List Binding) (n : List ℕ) (b : Binding) → place_of bs n < length bs → b ≡ get_or bs (place_of bs n) b → actual_of bs n ≡ Some b.actual
actual_at [] n b within is = absurd (omega arith)
actual_at (x ∷ bs) n b within is = by_test (bytes_eq n x.formal) refl (λ less e. actual_at bs n b less e)
  where
    by_test : (t : Bool) → bytes_eq n x.formal ≡ t → (place_of bs n < length bs → b ≡ get_or bs (place_of bs n) b → actual_of bs n ≡ Some b.actual) → actual_of (x ∷ bs) n ≡ Some b.actual
    by_test true test ih =
        let here = place_here x bs n test in
        let same : b ≡ x = subst (λ k. b ≡ get_or (x ∷ bs) k b) here is in
        ap (λ t. if t then Some x.actual else actual_of bs n) test ∙ ap (λ (y : Binding). Some y.actual) (sym same)
    by_test false test ih =
        let later = place_later x bs n test in
        let is' : b ≡ get_or bs (place_of bs n) b = subst (λ k. b ≡ get_or (x ∷ bs) k b) later is in
        ap (λ t. if t then Some x.actual else actual_of bs n) test ∙ ih (omega (arith, later, within)) is'

pub actual_none : (bs : List Binding) (n : List ℕ) → length bs ≤ place_of bs n → actual_of bs n ≡ None
actual_none [] n past = refl
actual_none (x ∷ bs) n past = by_test (bytes_eq n x.formal) refl (λ less. actual_none bs n less)
  where
    by_test : (t : Bool) → bytes_eq n x.formal ≡ t → (length bs ≤ place_of bs n → actual_of bs n ≡ None) → actual_of (x ∷ bs) n ≡ None
    by_test true test ih = let here = place_here x bs n test in absurd (omega (arith, here, past))
    by_test false test ih =
        let later = place_later x bs n test in
        ap (λ t. if t then Some x.actual else actual_of bs n) test ∙ ih (omega (arith, later, past))

-- what a position says
pub position_some : {A : Type 0} (p : A → Bool) (xs : List A) (k : ℕ) → position p xs ≡ Some k → (k < length xs) × (k ≡ position_or_len p xs)
position_some p xs k h =
    let parts = cond_some (nat_lt (position_or_len p xs) (length xs)) (position_or_len p xs) k h in
    let test = parts.0 in
    let less : position_or_len p xs < length xs = grind (arith, nat_tests) in
    (subst (λ n. n < length xs) parts.1 less, sym parts.1)

pub position_none : {A : Type 0} (p : A → Bool) (xs : List A) → position p xs ≡ None → length xs ≤ position_or_len p xs
position_none p xs h = by_test (nat_lt (position_or_len p xs) (length xs)) refl
  where
    by_test : (t : Bool) → nat_lt (position_or_len p xs) (length xs) ≡ t → length xs ≤ position_or_len p xs
    by_test true is = absurd (let some : Some (position_or_len p xs) ≡ None = subst (λ t. cond t (Some (position_or_len p xs)) None ≡ None) is h in cc)
    by_test false is = grind (arith, nat_tests)

pub actual_some : (bs : List Binding) (n : List ℕ) (k : ℕ) (b : Binding) → position (bytes_eq n) (formals_bound bs) ≡ Some k → b ≡ get_or bs k b → actual_of bs n ≡ Some b.actual
unfolding place_of
actual_some bs n k b h is =
    let found = position_some (bytes_eq n) (formals_bound bs) k h in
    let sized = length-map bs (λ (x : Binding). x.formal) in
    actual_at bs n b (omega (arith, sized, found.0, found.1)) (subst (λ j. b ≡ get_or bs j b) found.1 is)

pub actual_missing : (bs : List Binding) (n : List ℕ) → position (bytes_eq n) (formals_bound bs) ≡ None → actual_of bs n ≡ None
unfolding place_of
actual_missing bs n h =
    let past = position_none (bytes_eq n) (formals_bound bs) h in
    let sized = length-map bs (λ (x : Binding). x.formal) in
    actual_none bs n (omega (arith, sized, past))

-- the name at the place that was found
pub actual_read : (bs : List Binding) (formals : List (List ℕ)) (n : List ℕ) (k : ℕ) (d : Binding) → formals ≡ formals_bound bs → Some k ≡ position (bytes_eq n) formals
    → Some (get_or bs k d).actual ≡ actual_of bs n
actual_read bs formals n k d same found =
    let at : position (bytes_eq n) (formals_bound bs) ≡ Some k = ap (position (bytes_eq n)) (sym same) ∙ sym found in
    let within = position_some (bytes_eq n) (formals_bound bs) k at in
    let below : k < length bs = omega (arith, length-map bs (λ (x : Binding). x.formal), within.0) in
    sym (actual_some bs n k (get_or bs k d) at (get_or_default bs k d (get_or bs k d) below))

pub actual_unread : (bs : List Binding) (formals : List (List ℕ)) (n : List ℕ) → formals ≡ formals_bound bs → None ≡ position (bytes_eq n) formals → None ≡ actual_of bs n
actual_unread bs formals n same found = sym (actual_missing bs n (ap (position (bytes_eq n)) (sym same) ∙ sym found))

-- ---- models by name

pub named_at : (models : List Model) (name : List ℕ) → model_named models name ≡ slice_get models (index_of models name)
named_at models name =
    find_at (λ (m : Model). bytes_eq name m.name) models
    ∙ ap (slice_get models) (sym (prefix_len-map (λ (m : Model). m.name) (λ n. not (bytes_eq name n)) models))

pub inside_at : (models : List Model) (name : List ℕ) (bindings : List Binding) → inside models (place name bindings) ≡ body_at models (index_of models name)
inside_at models name bindings = ap body_of (named_at models name)

-- ---- rules on formals

all_agree : (p q : List ℕ → Bool) (ns : List (List ℕ)) → ((n : List ℕ) → p n ≡ q n) → list_all p ns ≡ list_all q ns
all_agree p q [] h = refl
all_agree p q (n ∷ ns) h = ap (λ b. b && list_all p ns) (h n) ∙ ap (λ b. q n && b) (all_agree p q ns h)

pub formals_agree : (may may' must must' formals : List (List ℕ)) → ((n : List ℕ) → is_among may n ≡ is_among may' n) → must ≡ must'
    → fault_in_formals may must formals ≡ fault_in_formals may' must' formals
formals_agree may may' must must' formals h e =
    ap (λ b. if not b then Some UnknownFormal else if repeats [] formals then Some RepeatedFormal else if not (list_all (is_among formals) must) then Some Unbound else None)
    (all_agree (is_among may) (is_among may') formals h)
    ∙ ap (λ ns. fault_in_formals may' ns formals) e

-- ---- first faults

none_or : {Y : Type 0} (o : Option Y) (ys : List Y) → cons_option o ys ≡ [] → (o ≡ None) × (ys ≡ [])
none_or None ys h = (refl, h)
none_or (Some y) ys h = cc

pub first_fault : {X Y : Type 0} (h : X → Option Y) (xs : List X) (i : ℕ) (x : X) (y : Y) → i < length xs → x ≡ get_or xs i x → filter_map h (take i xs) ≡ [] → h x ≡ Some y
    → slice_get (filter_map h xs) 0 ≡ Some y
first_fault h [] i x y within is none some = absurd (omega arith)
first_fault h (z ∷ xs) zero x y within is none some = let same : h z ≡ Some y = ap h (sym is) ∙ some in ap (λ o. slice_get (cons_option o (filter_map h xs)) 0) same
first_fault h (z ∷ xs) (suc i) x y within is none some =
    let parts = none_or (h z) (filter_map h (take i xs)) none in
    ap (λ o. slice_get (cons_option o (filter_map h xs)) 0) parts.0 ∙ first_fault h xs i x y (omega arith) is parts.1 some

pub faultless_more : {X Y Z : Type 0} (g : X → Z) (h : Z → Option Y) (xs : List X) (i : ℕ) (x : X) → i < length xs → x ≡ get_or xs i x → filter_map h (map g (take i xs)) ≡ [] → h (g x) ≡ None
    → filter_map h (map g (take (i + 1) xs)) ≡ []
faultless_more {X} {Y} {Z} g h xs i x within is none here =
    let whole = map_more g xs i x within ∙ ap (λ y. map g (take i xs) ++ g y ∷ []) (sym is) in
    ap (filter_map h) whole ∙ pushed (map g (take i xs)) none
  where
    pushed : (zs : List Z) → filter_map h zs ≡ [] → filter_map h (zs ++ g x ∷ []) ≡ []
    pushed [] e = ap (λ o. cons_option o []) here
    pushed (z ∷ zs) e = let parts = none_or (h z) (filter_map h zs) e in ap (λ o. cons_option o (filter_map h (zs ++ g x ∷ []))) parts.0 ∙ pushed zs parts.1

pub filter_map-concat : {X Y Z : Type 0} (h : Z → Option Y) (f : X → List Z) (xs : List X) → filter_map h (flat_map f xs) ≡ flat_map (λ x. filter_map h (f x)) xs
filter_map-concat h f [] = refl
filter_map-concat {X} {Y} {Z} h f (x ∷ xs) = appended (f x) ∙ ap (λ ys. filter_map h (f x) ++ ys) (filter_map-concat h f xs)
  where
    appended : (zs : List Z) → filter_map h (zs ++ flat_map f xs) ≡ filter_map h zs ++ filter_map h (flat_map f xs)
    appended zs = filter_map-append h zs (flat_map f xs)

no_parts : {Y : Type 0} (xs ys : List Y) → xs ++ ys ≡ [] → (xs ≡ []) × (ys ≡ [])
no_parts [] ys h = (refl, h)
no_parts (x ∷ xs) ys h = cc

pub first_part : {X Y : Type 0} (f : X → List Y) (xs : List X) (i : ℕ) (x : X) (y : Y) → i < length xs → x ≡ get_or xs i x → flat_map f (take i xs) ≡ [] → slice_get (f x) 0 ≡ Some y
    → slice_get (flat_map f xs) 0 ≡ Some y
first_part f [] i x y within is none some = absurd (omega arith)
first_part {X} {Y} f (z ∷ xs) zero x y within is none some = by_list (f z) (ap (λ v. slice_get (f v) 0) (sym is) ∙ some)
  where
    by_list : (zs : List Y) → slice_get zs 0 ≡ Some y → slice_get (zs ++ flat_map f xs) 0 ≡ Some y
    by_list [] e = cc
    by_list (v ∷ zs) e = e
first_part f (z ∷ xs) (suc i) x y within is none some =
    let parts = no_parts (f z) (flat_map f (take i xs)) none in
    ap (λ zs. slice_get (zs ++ flat_map f xs) 0) parts.0 ∙ first_part f xs i x y (omega arith) is parts.1 some

-- what a function gives for one element more
pub flat_more : {X Y A : Type 0} (g : X → Y) (f : Y → List A) (xs : List X) (i : ℕ) (x : X) → i < length xs → x ≡ get_or xs i x
    → flat_map f (map g (take (i + 1) xs)) ≡ flat_map f (map g (take i xs)) ++ f (g x)
flat_more g f xs i x within is =
    ap (flat_map f) (map_more g xs i x within ∙ ap (λ y. map g (take i xs) ++ g y ∷ []) (sym is))
    ∙ flat_map-append f (map g (take i xs)) (g x ∷ [])
    ∙ ap (λ ys. flat_map f (map g (take i xs)) ++ ys) (append-nil (f (g x)))
