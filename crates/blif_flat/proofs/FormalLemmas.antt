-- The formals of models, as they are gathered statement by statement.
use Rattle.std.proofs.Common.{◌≡◌, ℕ, zero, suc, ◌+◌, ◌<◌, ◌||◌, List, [], ◌∷◌, ◌++◌, map, length, take, get_or, Some, refl, sym, ◌∙◌, ap, subst, bytes_eq, append_assoc}
use Rattle.std.specs.Prelude.{slice_get, Result, Ok, Err, OnOk}
use Rattle.std.proofs.lemmas.List.{append-nil, map_more, map-append, take_more}
use Rattle.std.proofs.lemmas.List.Concat.{flat_map-append}
use Rattle.std.proofs.lemmas.List.Folds.{list_any-append}
use Rattle.blif_unit.specs.declared.unit.Stated.{Stated}
use Rattle.blif_unit.specs.declared.unit.Unit.{Unit as ModelUnit}
use Rattle.blif_unit.specs.Unit.{Told, Telling, Model, telling_of, model_of, over, inputs_told}
use Rattle.blif_flat.specs.declared.formals.Formals.{Formals}
use Rattle.blif_flat.specs.Places.{is_among, formals_told}
use Rattle.blif_flat.specs.Sites.{GainsFormals, AreFormalsOf, AreAllFormals}

-- what a function of statements gives for one statement more
pub over_more : (f : Told → List (List ℕ)) (xs : List Stated) (i : ℕ) (x : Stated) → i < length xs → x ≡ get_or xs i x
    → over f (map telling_of (take (i + 1) xs)) ≡ over f (map telling_of (take i xs)) ++ f (telling_of x).what
over_more f xs i x within is =
    ap (over f) (map_more telling_of xs i x within ∙ ap (λ y. map telling_of (take i xs) ++ telling_of y ∷ []) (sym is))
    ∙ flat_map-append (λ (t : Telling). f t.what) (map telling_of (take i xs)) (telling_of x ∷ [])
    ∙ ap (λ ys. over f (map telling_of (take i xs)) ++ ys) (append-nil (f (telling_of x).what))

-- the formals of one statement more
pub gained : (xs : List Stated) (i : ℕ) (x : Stated) (old new : Formals) → i < length xs → x ≡ get_or xs i x → AreFormalsOf (map telling_of (take i xs)) old
    → GainsFormals old (telling_of x).what new → AreFormalsOf (map telling_of (take (i + 1) xs)) new
gained xs i x old new within is so_far step = record {
  names = λ n.
      let before = so_far.names n in
      let whole = over_more formals_told xs i x within is in
      step.names n ∙ list_any-append (bytes_eq n) old.names (formals_told (telling_of x).what)
      ∙ ap (λ b. b || is_among (formals_told (telling_of x).what) n) before
      ∙ sym (list_any-append (bytes_eq n) (over formals_told (map telling_of (take i xs))) (formals_told (telling_of x).what))
      ∙ ap (λ ys. is_among ys n) (sym whole);
  inputs = step.inputs ∙ ap (λ ys. ys ++ inputs_told (telling_of x).what) so_far.inputs ∙ sym (over_more inputs_told xs i x within is);
}

-- the formals of one model more
all_push : (ms : List Model) (fs : List Formals) (m : Model) (f : Formals) → AreAllFormals ms fs → AreFormalsOf m.body f → AreAllFormals (ms ++ m ∷ []) (fs ++ f ∷ [])
all_push [] [] m f h own = (own, tt)
all_push [] (g ∷ fs) m f h own = absurd h
all_push (k ∷ ms) [] m f h own = absurd h
all_push (k ∷ ms) (g ∷ fs) m f h own = (h.0, all_push ms fs m f h.1 own)

pub all_more : (us : List ModelUnit) (i : ℕ) (u : ModelUnit) (fs new : List Formals) (f : Formals) → i < length us → u ≡ get_or us i u → AreAllFormals (map model_of (take i us)) fs
    → AreFormalsOf (model_of u).body f → new ≡ fs ++ f ∷ [] → AreAllFormals (map model_of (take (i + 1) us)) new
all_more us i u fs new f within is so_far own step =
    let whole : map model_of (take i us) ++ model_of u ∷ [] ≡ map model_of (take (i + 1) us) =
    ap (λ y. map model_of (take i us) ++ model_of y ∷ []) is ∙ sym (map_more model_of us i u within) in
    subst (λ xs. AreAllFormals (map model_of (take (i + 1) us)) xs) (sym step)
    (subst (λ ms. AreAllFormals ms (fs ++ f ∷ [])) whole (all_push (map model_of (take i us)) fs (model_of u) f so_far own))

pub all_length : (ms : List Model) (fs : List Formals) → AreAllFormals ms fs → length ms ≡ length fs
all_length [] [] h = refl
all_length [] (f ∷ fs) h = absurd h
all_length (m ∷ ms) [] h = absurd h
all_length (m ∷ ms) (f ∷ fs) h = ap (λ n. suc n) (all_length ms fs h.1)

pub all_at : (ms : List Model) (fs : List Formals) (k : ℕ) (m : Model) (f : Formals) → AreAllFormals ms fs → slice_get ms k ≡ Some m → slice_get fs k ≡ Some f → AreFormalsOf m.body f
all_at [] fs k m f h a b = cc
all_at (n ∷ ms) [] k m f h a b = absurd h
all_at (n ∷ ms) (g ∷ fs) zero m f h a b =
    let same : n ≡ m = cc in let same' : g ≡ f = cc in
    subst (λ x. AreFormalsOf x.body f) same (subst (λ x. AreFormalsOf n.body x) same' h.0)
all_at (n ∷ ms) (g ∷ fs) (suc k) m f h a b = all_at ms fs k m f h.1 a b

-- one thing more that is seen as a name
pub pushed_more : {R X : Type 0} (now : R → X) (first items new : List R) (x : R) (more : List X) (i : ℕ) (n : X) → i < length more → n ≡ get_or more i n → now x ≡ n
    → map now items ≡ map now first ++ take i more → new ≡ items ++ x ∷ [] → map now new ≡ map now first ++ take (i + 1) more
pushed_more now first items new x more i n within is seen so_far step =
    ap (map now) step ∙ map-append now items (x ∷ []) ∙ ap (λ ys. ys ++ now x ∷ []) so_far ∙ ap (λ y. (map now first ++ take i more) ++ y ∷ []) (seen ∙ is)
    ∙ append_assoc (map now first) (take i more) (get_or more i n ∷ []) ∙ ap (λ ys. map now first ++ ys) (sym (take_more more i n within))

-- what an answer without a fault says, further on
pub on_ok : {E : Type 0} (r : Result (Unit {0}) E) (P Q : Type 0) → (P → Q) → OnOk r P → OnOk r Q
on_ok (Ok x) P Q f h = f h
on_ok (Err e) P Q f h = tt
