-- What holds of each item of a list, one after another.
use Rattle.std.proofs.Common.{◌≡◌, ℕ, ◌+◌, ◌<◌, ◌≤◌, inl, inr, List, [], ◌∷◌, ◌++◌, length, get_or, take, refl, sym, ◌∙◌, ap, subst, arith}
use Rattle.std.specs.Prelude.{Contains}
use Rattle.std.proofs.lemmas.List.{take_more, take_all}
use Rattle.std.proofs.lemmas.List.Elements.{Contains-push_cases}

-- What is read at a place stands in the list.
pub stands-at : {X : Type 0} (xs : List X) (i : ℕ) (x : X) → i < length xs → x ≡ get_or xs i x → Contains xs x
stands-at xs i x within is = (i, within, sym is)

-- One item more.
pub each-more : {X : Type 0} (P : X → Type 0) (xs : List X) (i : ℕ) (x : X) → ((y : X) → Contains (take i xs) y → P y) → i < length xs → x ≡ get_or xs i x → P x
    → (y : X) → Contains (take (i + 1) xs) y → P y
each-more {X} P xs i x before within is here y stands =
    let more : take (i + 1) xs ≡ take i xs ++ x ∷ [] = take_more xs i x within ∙ ap (λ v. take i xs ++ v ∷ []) (sym is) in
    elim (Contains-push_cases (take i xs) x y (subst (λ (l : List X). Contains l y) more stands)) [ inl earlier ↦ before y earlier | inr same ↦ subst P same here ]

-- All items.
pub each-all : {X : Type 0} (P : X → Type 0) (xs : List X) (i : ℕ) → ((y : X) → Contains (take i xs) y → P y) → length xs ≤ i → (y : X) → Contains xs y → P y
each-all {X} P xs i before past y stands = before y (subst (λ (l : List X). Contains l y) (sym (take_all i xs past)) stands)

-- A list without items.
pub none-of : {X : Type 0} (xs : List X) → length xs ≡ 0 → xs ≡ []
none-of [] none = refl
none-of (x ∷ xs) none = absurd (omega arith)
