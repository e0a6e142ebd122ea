-- Names of models that are told apart, one after another.
use Rattle.std.proofs.Common.{◌≡◌, ℕ, ◌+◌, ◌<◌, Bool, true, false, not, ◌||◌, List, [], ◌∷◌, ◌++◌, map, length, take, get_or, refl, sym, ◌∙◌, ap, subst, bytes_eq, if◌then◌else◌}
use Rattle.std.specs.List.{list_any}
use Rattle.std.proofs.lemmas.List.{map_more}
use Rattle.std.proofs.lemmas.List.Folds.{list_any-append}
use Rattle.blif_unit.specs.declared.unit.Unit.{Unit as ModelUnit}
use Rattle.blif_unit.specs.Unit.{AreDistinct}
use Rattle.blif_flat.proofs.NameLists.{bytes_flip}
use Rattle.blif_flat.proofs.BoundLemmas.{seen_before}

or_parts : (a b : Bool) → (a || b) ≡ false → (a ≡ false) × (b ≡ false)
or_parts true b h = cc
or_parts false b h = (refl, h)

distinct_more : (ns : List (List ℕ)) (n : List ℕ) → AreDistinct ns → list_any (bytes_eq n) ns ≡ false → AreDistinct (ns ++ n ∷ [])
distinct_more [] n d h = (refl, tt)
distinct_more (x ∷ ns) n d h =
    let parts = or_parts (bytes_eq n x) (list_any (bytes_eq n) ns) h in
    let other : bytes_eq x n ≡ false = bytes_flip n x parts.0 in
    let apart : list_any (bytes_eq x) (ns ++ n ∷ []) ≡ false = list_any-append (bytes_eq x) ns (n ∷ []) ∙ rw (d.0, other) refl in
    (apart, distinct_more ns n d.1 parts.1)

-- one name more differs from those before it
pub still_distinct : (us : List ModelUnit) (i : ℕ) (u : ModelUnit) (names new : List (List ℕ)) (n : List ℕ) (added : Bool) → i < length us → u ≡ get_or us i u → n ≡ u.name
    → (names ≡ map (λ (x : ModelUnit). x.name) (take i us)) × AreDistinct (map (λ (x : ModelUnit). x.name) (take i us))
    → added ≡ true → added ≡ not (list_any (bytes_eq n) names) → new ≡ (if list_any (bytes_eq n) names then names else names ++ n ∷ [])
    → (new ≡ map (λ (x : ModelUnit). x.name) (take (i + 1) us)) × AreDistinct (map (λ (x : ModelUnit). x.name) (take (i + 1) us))
still_distinct us i u names new n added within is named so_far was_new test step =
    let fresh = seen_before added (list_any (bytes_eq n) names) was_new test in
    let put : new ≡ names ++ n ∷ [] = step ∙ ap (λ t. if t then names else names ++ n ∷ []) fresh in
    let whole : names ++ n ∷ [] ≡ map (λ (x : ModelUnit). x.name) (take (i + 1) us) =
    ap (λ ns. ns ++ n ∷ []) so_far.0 ∙ ap (λ m. map (λ (x : ModelUnit). x.name) (take i us) ++ m ∷ []) named
    ∙ ap (λ (x : ModelUnit). map (λ (y : ModelUnit). y.name) (take i us) ++ x.name ∷ []) is ∙ sym (map_more (λ (x : ModelUnit). x.name) us i u within) in
    let before : AreDistinct names = subst AreDistinct (sym so_far.0) so_far.1 in
    (put ∙ whole, subst AreDistinct whole (distinct_more names n before fresh))
