-- Names of files, as references to texts.
use Rattle.std.proofs.Common.{◌≡◌, ℕ, Bool, ◌||◌, List, [], ◌∷◌, map, refl, ap, Bor}
use Rattle.std.specs.List.{list_any}

-- what holds of some text behind the references
pub any_seen : (p : List ℕ → Bool) (names : List (Bor (List ℕ))) → list_any p (map (λ name. name.now) names) ≡ list_any (λ name. p name.now) names
any_seen p [] = refl
any_seen p (name ∷ names) = ap (λ found. p name.now || found) (any_seen p names)
