-- Steps of the loops over the statements of a model.
use Rattle.std.proofs.Common.{◌≡◌, ℕ, zero, suc, ◌+◌, ◌<◌, ◌≤◌, Bool, true, false, not, cond, nat_lt, ◌&&◌, ◌||◌, List, [], ◌∷◌, ◌++◌, Option, None, Some, is_some, length, map, take, drop, get_or, position, option_map, slice_get, bytes_eq, inl, inr, refl, sym, ◌∙◌, ap, subst, append-nil, lt-ltb, le-ltb, arith}
use Rattle.std.specs.List.{list_any, list_all, flat_map, position_or_len}
use Rattle.std.specs.Option.{option_or}
use Rattle.std.proofs.lemmas.Bool.{cases_lt, cond-true, cond-false, and_parts}
use Rattle.std.proofs.lemmas.List.{map_more, take_more, at_drop_more, drop_all}
use Rattle.std.proofs.lemmas.List.Concat.{flat_map-append}
use Rattle.std.proofs.lemmas.List.Elements.{filter-append}
use Rattle.std.proofs.lemmas.List.Quantifiers.{position-Some}
use Rattle.std.proofs.lemmas.List.Recursion.{and_at}
use Rattle.std.proofs.lemmas.Option.{slice_get-get_or}
use Rattle.std.proofs.lemmas.Slice.Eq.{bytes_eq-Decides}
use Rattle.blif_unit.specs.declared.unit.Stated.{Stated}
use Rattle.blif_unit.specs.Unit.{Told, Telling, told_of, telling_of}
use Rattle.blif_circuit.specs.Circuit.{is_named}
use Rattle.blif_circuit.specs.Signals.{put, put_all, unclocked, AreKnown}

-- what a function of a statement gives, over all statements
abbrev pub spread : {A : Type 0} → (Told → List A) → List Telling → List A
spread f body = flat_map (λ t. f t.what) body

-- one statement more
pub spread-take : {A : Type 0} (f : Told → List A) (body : List Stated) (i : ℕ) (x : Stated) → i < length body → x ≡ get_or body i x
    → spread f (map telling_of (take (i + 1) body)) ≡ spread f (map telling_of (take i body)) ++ f (told_of x.what)
spread-take f body i x within is =
    ap (spread f) (map_more telling_of body i x within)
    ∙ flat_map-append (λ t. f t.what) (map telling_of (take i body)) (telling_of (get_or body i x) ∷ [])
    ∙ ap (λ y. spread f (map telling_of (take i body)) ++ y) (append-nil (f (told_of (get_or body i x).what)))
    ∙ ap (λ (y : Stated). spread f (map telling_of (take i body)) ++ f (told_of y.what)) (sym is)

-- the statement here, and those after it
pub spread-drop : {A : Type 0} (f : Told → List A) (body : List Stated) (i : ℕ) (x : Stated) → i < length body → x ≡ get_or body i x
    → spread f (map telling_of (drop i body)) ≡ f (told_of x.what) ++ spread f (map telling_of (drop (i + 1) body))
spread-drop f body i x within is =
    at_drop_more (λ (xs : List Stated). spread f (map telling_of xs)) body i x within
    ∙ ap (λ (y : Stated). f (told_of y.what) ++ spread f (map telling_of (drop (i + 1) body))) (sym is)

pub put_all-append : (seen a b : List (List ℕ)) → put_all seen (a ++ b) ≡ put_all (put_all seen a) b
put_all-append seen [] b = refl
put_all-append seen (n ∷ a) b = put_all-append (put seen n) a b

pub put_step : (old now new a b c : List (List ℕ)) → now ≡ put_all old a → new ≡ put_all now b → c ≡ a ++ b → new ≡ put_all old c
put_step old now new a b c h e s = e ∙ ap (λ x. put_all x b) h ∙ sym (put_all-append old a b) ∙ ap (put_all old) (sym s)

-- the names of one statement more
pub put_told : (f : Told → List (List ℕ)) (body : List Stated) (i : ℕ) (x : Stated) (old now new : List (List ℕ)) → i < length body → x ≡ get_or body i x
    → now ≡ put_all old (spread f (map telling_of (take i body))) → new ≡ put_all now (f (told_of x.what)) → new ≡ put_all old (spread f (map telling_of (take (i + 1) body)))
put_told f body i x old now new within is h e =
    put_step old now new (spread f (map telling_of (take i body))) (f (told_of x.what)) (spread f (map telling_of (take (i + 1) body))) h e (spread-take f body i x within is)

pub take-step : {A : Type 0} (xs : List A) (i : ℕ) (x : A) → i < length xs → x ≡ get_or xs i x → take (i + 1) xs ≡ take i xs ++ x ∷ []
take-step xs i x within is = take_more xs i x within ∙ ap (λ y. take i xs ++ y ∷ []) (sym is)

pub unclocked-take : (clock : Option (List ℕ)) (xs : List (List ℕ)) (i : ℕ) (x : List ℕ) → i < length xs → x ≡ get_or xs i x
    → unclocked clock (take (i + 1) xs) ≡ unclocked clock (take i xs) ++ unclocked clock (x ∷ [])
unclocked-take clock xs i x within is = ap (unclocked clock) (take-step xs i x within is) ∙ filter-append (λ n. not (is_named clock n)) (take i xs) (x ∷ [])

pub put_unclocked : (clock : Option (List ℕ)) (xs : List (List ℕ)) (i : ℕ) (x : List ℕ) (old now new : List (List ℕ)) → i < length xs → x ≡ get_or xs i x
    → now ≡ put_all old (unclocked clock (take i xs)) → new ≡ put_all now (unclocked clock (x ∷ [])) → new ≡ put_all old (unclocked clock (take (i + 1) xs))
put_unclocked clock xs i x old now new within is h e =
    put_step old now new (unclocked clock (take i xs)) (unclocked clock (x ∷ [])) (unclocked clock (take (i + 1) xs)) h e (unclocked-take clock xs i x within is)

-- ---- names that are known

pub all-append : {A : Type 0} (p : A → Bool) (a b : List A) → list_all p (a ++ b) ≡ (list_all p a && list_all p b)
all-append p [] b = refl
all-append p (x ∷ a) b = and_more (p x) _ _ _ (all-append p a b)
  where
    and_more : (t u v w : Bool) → u ≡ (v && w) → (t && u) ≡ ((t && v) && w)
    and_more true u v w e = e
    and_more false u v w e = refl

pub all_flat : {A B : Type 0} (p : B → Bool) (f : A → List B) (xs : List A) (i : ℕ) (d : A) → i < length xs → list_all p (flat_map f xs) ≡ true → list_all p (f (get_or xs i d)) ≡ true
all_flat p f [] i d within h = absurd (omega arith)
all_flat p f (x ∷ xs) zero d within h = (and_parts (list_all p (f x)) (list_all p (flat_map f xs)) (sym (all-append p (f x) (flat_map f xs)) ∙ h)).0
all_flat p f (x ∷ xs) (suc i) d within h = all_flat p f xs i d (omega arith) (and_parts (list_all p (f x)) (list_all p (flat_map f xs)) (sym (all-append p (f x) (flat_map f xs)) ∙ h)).1

pub flat_map-map : {A B C : Type 0} (f : B → List C) (g : A → B) (xs : List A) → flat_map f (map g xs) ≡ flat_map (λ x. f (g x)) xs
flat_map-map f g [] = refl
flat_map-map f g (x ∷ xs) = ap (λ y. f (g x) ++ y) (flat_map-map f g xs)

pub known_at : (signals names : List (List ℕ)) (i : ℕ) (x : List ℕ) → AreKnown signals names → i < length names → x ≡ get_or names i x → list_any (bytes_eq x) signals ≡ true
known_at signals names i x h within is =
    subst (λ y. list_any (bytes_eq y) signals ≡ true) (sym is)
    (and_at (list_all (λ n. list_any (bytes_eq n) signals)) (λ n. list_any (bytes_eq n) signals) refl (λ _ _. refl) names i x within h.each)

pub known_told : (signals : List (List ℕ)) (f : Told → List (List ℕ)) (body : List Stated) (i : ℕ) (x : Stated) → AreKnown signals (spread f (map telling_of body)) → i < length body → x ≡ get_or body i x
    → AreKnown signals (f (told_of x.what))
known_told signals f body i x h within is =
    let known : List ℕ → Bool = λ n. list_any (bytes_eq n) signals in
    let flat = flat_map-map (λ (t : Telling). f t.what) telling_of body in
    record {
      each = subst (λ (y : Stated). list_all known (f (told_of y.what)) ≡ true) (sym is)
          (all_flat known (λ (y : Stated). f (told_of y.what)) body i x within (ap (list_all known) (sym flat) ∙ h.each));
    }

pub known_first : (signals : List (List ℕ)) (n : List ℕ) (ns : List (List ℕ)) → AreKnown signals (n ∷ ns) → list_any (bytes_eq n) signals ≡ true
known_first signals n ns h = (and_parts (list_any (bytes_eq n) signals) (list_all (λ m. list_any (bytes_eq m) signals) ns) h.each).0

-- ---- the first of a list

pub first-append : {A : Type 0} (a b : List A) → slice_get (a ++ b) 0 ≡ option_or (slice_get a 0) (slice_get b 0)
first-append [] b = refl
first-append (x ∷ a) b = refl

pub first_here : {A : Type 0} (f : Told → List A) (body : List Stated) (i : ℕ) (x : Stated) (n : A) (whole : Option A) → i < length body → x ≡ get_or body i x
    → Some n ≡ slice_get (f (told_of x.what)) 0 → slice_get (spread f (map telling_of (drop i body))) 0 ≡ whole → Some n ≡ whole
first_here f body i x n whole within is here h =
    let rest = spread f (map telling_of (drop (i + 1) body)) in
    ap (λ o. option_or o (slice_get rest 0)) here ∙ sym (first-append (f (told_of x.what)) rest)
    ∙ ap (λ y. slice_get y 0) (sym (spread-drop f body i x within is)) ∙ h

pub first_later : {A : Type 0} (f : Told → List A) (body : List Stated) (i : ℕ) (x : Stated) (whole : Option A) → i < length body → x ≡ get_or body i x
    → None ≡ slice_get (f (told_of x.what)) 0 → slice_get (spread f (map telling_of (drop i body))) 0 ≡ whole → slice_get (spread f (map telling_of (drop (i + 1) body))) 0 ≡ whole
first_later f body i x whole within is here h =
    let rest = spread f (map telling_of (drop (i + 1) body)) in
    ap (λ o. option_or o (slice_get rest 0)) here ∙ sym (first-append (f (told_of x.what)) rest)
    ∙ ap (λ y. slice_get y 0) (sym (spread-drop f body i x within is)) ∙ h

pub first_none : {A : Type 0} (f : Told → List A) (body : List Stated) (i : ℕ) (whole : Option A) → length body ≤ i
    → slice_get (spread f (map telling_of (drop i body))) 0 ≡ whole → None ≡ whole
first_none f body i whole past h = ap (λ (xs : List Stated). slice_get (spread f (map telling_of xs)) 0) (sym (drop_all i body past)) ∙ h

-- ---- positions

pub position-cons : {A : Type 0} (p : A → Bool) (x : A) (xs : List A) → position p (x ∷ xs) ≡ cond (p x) (Some 0) (option_map (λ n. 1 + n) (position p xs))
position-cons p x xs = at (p x) (position_or_len p xs) (length xs)
  where
    at : (b : Bool) (k n : ℕ) → cond (nat_lt (cond (not b) (1 + k) 0) (suc n)) (Some (cond (not b) (1 + k) 0)) None ≡ cond b (Some 0) (option_map (λ m. 1 + m) (cond (nat_lt k n) (Some k) None))
    at true k n = cond-true (nat_lt 0 (suc n)) (Some 0) None (lt-ltb 0 (suc n) (omega arith))
    at false k n =
        elim (cases_lt k n) [
          | inl h ↦ cond-true (nat_lt (1 + k) (suc n)) (Some (1 + k)) None (lt-ltb (1 + k) (suc n) (omega arith)) ∙ sym (ap (option_map (λ m. 1 + m)) (cond-true (nat_lt k n) (Some k) None (lt-ltb k n h)))
          | inr h ↦ cond-false (nat_lt (1 + k) (suc n)) (Some (1 + k)) None (le-ltb (1 + k) (suc n) (omega arith)) ∙ sym (ap (option_map (λ m. 1 + m)) (cond-false (nat_lt k n) (Some k) None (le-ltb k n h)))
        ]

pub position-append : {A : Type 0} (p : A → Bool) (a b : List A) → position p (a ++ b) ≡ option_or (position p a) (option_map (λ n. length a + n) (position p b))
position-append p [] b = none (position p b)
  where
    none : (q : Option ℕ) → q ≡ option_map (λ n. 0 + n) q
    none None = refl
    none (Some n) = ap Some (omega arith)
position-append p (x ∷ a) b =
    position-cons p x (a ++ b) ∙ step (p x) (position p a) (position p b) (position p (a ++ b)) (length a) (position-append p a b)
    ∙ ap (λ o. option_or o (option_map (λ n. suc (length a) + n) (position p b))) (sym (position-cons p x a))
  where
    step : (t : Bool) (q r s : Option ℕ) (l : ℕ) → s ≡ option_or q (option_map (λ n. l + n) r)
        → cond t (Some 0) (option_map (λ n. 1 + n) s) ≡ option_or (cond t (Some 0) (option_map (λ n. 1 + n) q)) (option_map (λ n. suc l + n) r)
    step true q r s l e = refl
    step false (Some k) r s l e = ap (option_map (λ n. 1 + n)) e
    step false None None s l e = ap (option_map (λ n. 1 + n)) e
    step false None (Some m) s l e = ap (option_map (λ n. 1 + n)) e ∙ ap Some (omega arith)

-- the place of a name among the inputs of the statement here
pub place_here : (p : List ℕ → Bool) (a rest : List (List ℕ)) (whole : Option ℕ) (before place : ℕ) → Some place ≡ position p a
    → option_map (λ n. before + n) (position p (a ++ rest)) ≡ whole → Some (before + place) ≡ whole
place_here p a rest whole before place here h =
    ap (λ o. option_map (λ n. before + n) (option_or o (option_map (λ n. length a + n) (position p rest)))) here ∙ ap (option_map (λ n. before + n)) (sym (position-append p a rest)) ∙ h

pub place_later : (p : List ℕ → Bool) (a rest : List (List ℕ)) (whole : Option ℕ) (before : ℕ) → None ≡ position p a
    → option_map (λ n. before + n) (position p (a ++ rest)) ≡ whole → option_map (λ n. (before + length a) + n) (position p rest) ≡ whole
place_later p a rest whole before here h =
    more (position p rest)
    ∙ ap (λ o. option_map (λ n. before + n) (option_or o (option_map (λ n. length a + n) (position p rest)))) here ∙ ap (option_map (λ n. before + n)) (sym (position-append p a rest)) ∙ h
  where
    more : (q : Option ℕ) → option_map (λ n. (before + length a) + n) q ≡ option_map (λ n. before + n) (option_map (λ n. length a + n) q)
    more None = refl
    more (Some n) = ap Some (omega arith)

-- a name that is there has a position
pub has_position : {A : Type 0} (p : A → Bool) (xs : List A) → list_any p xs ≡ true → is_some (position p xs) ≡ true
has_position p [] h = cc
has_position p (x ∷ xs) h = ap is_some (position-cons p x xs) ∙ at (p x) (list_any p xs) (position p xs) h (has_position p xs)
  where
    at : (b c : Bool) (o : Option ℕ) → (b || c) ≡ true → (c ≡ true → is_some o ≡ true) → is_some (cond b (Some 0) (option_map (λ n. 1 + n) o)) ≡ true
    at true c o k ih = refl
    at false c (Some n) k ih = refl
    at false c None k ih = ih k

-- and stands there
pub at_position : (name : List ℕ) (names : List (List ℕ)) (k : ℕ) → position (bytes_eq name) names ≡ Some k → slice_get names k ≡ Some name
at_position name names k h =
    let found = position-Some (bytes_eq name) names k name h in
    slice_get-get_or names k name found.0 ∙ ap Some (sym ((bytes_eq-Decides name (get_or names k name)).0 found.1))

pub position_within : {A : Type 0} (p : A → Bool) (xs : List A) (k : ℕ) → Some k ≡ position p xs → k < length xs
position_within {A} p xs k h = at xs h
  where
    at : (ys : List A) → Some k ≡ position p ys → k < length ys
    at [] e = cc
    at (y ∷ ys) e = (position-Some p (y ∷ ys) k y (sym e)).0
