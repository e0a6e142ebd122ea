-- Lemmas on a write into the slot of a name.
use Rattle.std.proofs.Common.{◌≡◌, ◌≢◌, ℕ, ◌<◌, Bool, true, false, cond, List, Option, None, Some, get_or, set, ltb, refl, sym, ap, ◌∙◌, arith}
use Rattle.std.specs.Prelude.{find, position, is_some, ◌≤◌}
use Rattle.std.specs.List.{position_or_len}
use Rattle.std.specs.Str.{bytes_eq}
use Rattle.std.proofs.lemmas.Bool.Decides.{nat_tests}
use Rattle.std.proofs.lemmas.List.{set-get_or}
use Rattle.std.proofs.lemmas.List.Folds.{find_at, find-set}
use Rattle.std.proofs.lemmas.List.Quantifiers.{position-Some}
use Rattle.std.proofs.lemmas.Option.{slice_get_past}
use Rattle.std.proofs.lemmas.Slice.Eq.{bytes_eq-Decides}

-- a place that is found is the first that passes, and is within the list
first_place : (m n i : ℕ) → Some i ≡ cond (ltb m n) (Some m) None → i ≡ m
first_place m n i found = grind (arith, nat_tests)

within : (m n i : ℕ) → Some i ≡ cond (ltb m n) (Some m) None → i < n
within m n i found = grind (arith, nat_tests)

none_past : (m n : ℕ) (place : Option ℕ) → place ≡ None → place ≡ cond (ltb m n) (Some m) None → n ≤ m
none_past m n place none found = grind (arith, nat_tests)

-- where the place of an element that passes is found, that element is found
pub passes_at : {X : Type 0} (p : X → Bool) (xs : List X) (i : ℕ) (d : X) → Some i ≡ position p xs → p (get_or xs i d) ≡ true
passes_at p xs i d found = (position-Some p xs i d (sym found)).1

-- a write of an element that passes, at the first place of such a one
pub find_written : {X : Type 0} (p : X → Bool) (xs : List X) (i : ℕ) (y : X) → Some i ≡ position p xs → p y ≡ true → find p (set xs i y) ≡ Some y
find_written p xs i y found passes =
    find-set p xs i y (first_place _ _ _ found) (within _ _ _ found) passes

-- an element is found exactly where its place is
pub found-Some : {X : Type 0} (p : X → Bool) (xs : List X) (i : ℕ) (d : X) → Some i ≡ position p xs → true ≡ is_some (find p xs)
found-Some p xs i d found =
    sym (ap is_some (rw set-get_or at (find_written p xs i (get_or xs i d) found (passes_at p xs i d found))))

pub found-None : {X : Type 0} (p : X → Bool) (xs : List X) → None ≡ position p xs → false ≡ is_some (find p xs)
found-None p xs found =
    sym (ap is_some (find_at p xs ∙ slice_get_past xs (position_or_len p xs) (none_past _ _ None refl found)))

-- a text that is one name is no other
pub is_no_other : (text name other : List ℕ) → bytes_eq text name ≡ true → other ≢ name → bytes_eq text other ≡ false
is_no_other text name other is differs = grind (arith, bytes_eq-Decides)
