-- Formals that are bound, one after another: apart so far, or one that repeats.
use Rattle.std.proofs.Common.{◌≡◌, ℕ, ◌+◌, ◌<◌, ◌≤◌, Bool, true, false, not, List, [], ◌∷◌, ◌++◌, length, take, drop, get_or, refl, sym, ◌∙◌, ap, subst, bytes_eq, if◌then◌else◌}
use Rattle.std.specs.List.{list_any}
use Rattle.std.proofs.lemmas.List.{map_more, drop_more, take_all, drop_all}
use Rattle.blif_unit.specs.declared.unit.Binding.{Binding}
use Rattle.blif_unit.specs.Unit.{repeats}
use Rattle.blif_flat.specs.Sites.{formals_bound}
use Rattle.blif_flat.proofs.NameLists.{repeats_here, repeats_later}

pub seen_before : (added : Bool) (b : Bool) → added ≡ true → added ≡ not b → b ≡ false
seen_before added true was_new is = cc
seen_before added false was_new is = refl

pub seen_already : (added : Bool) (b : Bool) → added ≡ false → added ≡ not b → b ≡ true
seen_already added true was_old is = refl
seen_already added false was_old is = cc

rest_splits : (bs : List Binding) (i : ℕ) (b : Binding) → i < length bs → b ≡ get_or bs i b → formals_bound (drop i bs) ≡ b.formal ∷ formals_bound (drop (i + 1) bs)
rest_splits bs i b within is = ap formals_bound (drop_more bs i b within ∙ ap (λ (x : Binding). x ∷ drop (i + 1) bs) (sym is))

among : (bs : List Binding) (i : ℕ) (b : Binding) (names : List (List ℕ)) (n : List ℕ) (t : Bool) → n ≡ b.formal → names ≡ formals_bound (take i bs) → list_any (bytes_eq n) names ≡ t
    → list_any (bytes_eq b.formal) (formals_bound (take i bs)) ≡ t
among bs i b names n t named so_far h = subst (λ ns. list_any (bytes_eq b.formal) ns ≡ t) so_far (subst (λ m. list_any (bytes_eq m) names ≡ t) named h)

-- one formal more is apart from those before it
pub apart_more : (bs : List Binding) (i : ℕ) (b : Binding) (names new : List (List ℕ)) (n : List ℕ) (added : Bool) → i < length bs → b ≡ get_or bs i b → n ≡ b.formal
    → (names ≡ formals_bound (take i bs)) × (repeats [] (formals_bound bs) ≡ repeats (formals_bound (take i bs)) (formals_bound (drop i bs)))
    → added ≡ true → added ≡ not (list_any (bytes_eq n) names) → new ≡ (if list_any (bytes_eq n) names then names else names ++ n ∷ [])
    → (new ≡ formals_bound (take (i + 1) bs)) × (repeats [] (formals_bound bs) ≡ repeats (formals_bound (take (i + 1) bs)) (formals_bound (drop (i + 1) bs)))
apart_more bs i b names new n added within is named so_far was_new test step =
    let fresh = seen_before added (list_any (bytes_eq n) names) was_new test in
    let put : new ≡ names ++ n ∷ [] = step ∙ ap (λ t. if t then names else names ++ n ∷ []) fresh in
    let whole : formals_bound (take i bs) ++ b.formal ∷ [] ≡ formals_bound (take (i + 1) bs) =
    ap (λ (x : Binding). formals_bound (take i bs) ++ x.formal ∷ []) is ∙ sym (map_more (λ (x : Binding). x.formal) bs i b within) in (
      put ∙ ap (λ ns. ns ++ n ∷ []) so_far.0 ∙ ap (λ m. formals_bound (take i bs) ++ m ∷ []) named ∙ whole,
      so_far.1 ∙ ap (repeats (formals_bound (take i bs))) (rest_splits bs i b within is)
          ∙ repeats_later (formals_bound (take i bs)) (formals_bound (drop (i + 1) bs)) b.formal (among bs i b names n false named so_far.0 fresh)
          ∙ ap (λ ns. repeats ns (formals_bound (drop (i + 1) bs))) whole,
    )

-- a formal that stands among those before it repeats
pub repeated_now : (bs : List Binding) (i : ℕ) (b : Binding) (names : List (List ℕ)) (n : List ℕ) (added : Bool) → i < length bs → b ≡ get_or bs i b → n ≡ b.formal
    → (names ≡ formals_bound (take i bs)) × (repeats [] (formals_bound bs) ≡ repeats (formals_bound (take i bs)) (formals_bound (drop i bs)))
    → added ≡ false → added ≡ not (list_any (bytes_eq n) names) → repeats [] (formals_bound bs) ≡ true
repeated_now bs i b names n added within is named so_far was_old test =
    let old = seen_already added (list_any (bytes_eq n) names) was_old test in
    so_far.1 ∙ ap (repeats (formals_bound (take i bs))) (rest_splits bs i b within is)
    ∙ repeats_here (formals_bound (take i bs)) (formals_bound (drop (i + 1) bs)) b.formal (among bs i b names n true named so_far.0 old)

-- all formals are apart
pub all_apart : (bs : List Binding) (i : ℕ) (names : List (List ℕ)) → length bs ≤ i
    → (names ≡ formals_bound (take i bs)) × (repeats [] (formals_bound bs) ≡ repeats (formals_bound (take i bs)) (formals_bound (drop i bs)))
    → (repeats [] (formals_bound bs) ≡ false) × (names ≡ formals_bound bs)
all_apart bs i names past so_far =
    (so_far.1 ∙ ap (λ xs. repeats (formals_bound (take i bs)) (formals_bound xs)) (drop_all i bs past), so_far.0 ∙ ap formals_bound (take_all i bs past))
