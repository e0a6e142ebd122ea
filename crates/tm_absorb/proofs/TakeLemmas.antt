-- The first elements of a list, one more and all.
use Rattle.std.proofs.Common.{◌≡◌, ◌⊎◌, ℕ, ◌+◌, ◌<◌, ◌≤◌, inl, inr, List, [], ◌∷◌, ◌++◌, length, take, get_or, sym, ◌∙◌, ap, subst}
use Rattle.std.specs.Prelude.{Contains}
use Rattle.std.proofs.lemmas.List.{take_more, take_all}
use Rattle.std.proofs.lemmas.List.Elements.{Contains-append_left, Contains-push, Contains-push_cases}

pub taken_cases : {A : Type 0} (xs : List A) (i : ℕ) (x y : A) → i < length xs → x ≡ get_or xs i x → Contains (take (i + 1) xs) y
    → Contains (take i xs) y ⊎ (x ≡ y)
taken_cases {A} xs i x y inside at stands =
    Contains-push_cases (take i xs) x y (subst (λ (ys : List A). Contains ys y) (take_more xs i x inside ∙ ap (λ (z : A). take i xs ++ z ∷ []) (sym at)) stands)

pub taken_end : {A : Type 0} (xs : List A) (i : ℕ) (y : A) → length xs ≤ i → Contains xs y → Contains (take i xs) y
taken_end {A} xs i y past stands = subst (λ (ys : List A). Contains ys y) (sym (take_all i xs past)) stands

pub taken_stands : {A : Type 0} (xs : List A) (i : ℕ) (x : A) → i < length xs → x ≡ get_or xs i x → Contains xs x
taken_stands xs i x inside at = (i, inside, sym at)

pub taken_earlier : {A : Type 0} (xs : List A) (i : ℕ) (x y : A) → i < length xs → x ≡ get_or xs i x → Contains (take i xs) y → Contains (take (i + 1) xs) y
taken_earlier {A} xs i x y inside at stands =
    subst (λ (ys : List A). Contains ys y) (sym (take_more xs i x inside ∙ ap (λ (z : A). take i xs ++ z ∷ []) (sym at))) (Contains-append_left (take i xs) (x ∷ []) y stands)

pub taken_last : {A : Type 0} (xs : List A) (i : ℕ) (x : A) → i < length xs → x ≡ get_or xs i x → Contains (take (i + 1) xs) x
taken_last {A} xs i x inside at =
    subst (λ (ys : List A). Contains ys x) (sym (take_more xs i x inside ∙ ap (λ (z : A). take i xs ++ z ∷ []) (sym at))) (Contains-push (take i xs) x)
