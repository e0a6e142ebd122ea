-- Lists seen through a function, and lists of which a part is done.
use Rattle.std.proofs.Common.{◌≡◌, ℕ, ◌+◌, ◌<◌, Bool, true, false, ◌||◌, List, [], ◌∷◌, ◌++◌, length, map, take, get_or, refl, sym, ◌∙◌, ap, append_assoc, append-nil, if◌then◌else◌}
use Rattle.std.specs.List.{list_any}
use Rattle.std.proofs.lemmas.List.{map-append, take_more}

pub list_any-map : {A B : Type 0} (f : A → B) (p : B → Bool) (xs : List A) → list_any p (map f xs) ≡ list_any (λ x. p (f x)) xs
list_any-map f p [] = refl
list_any-map f p (x ∷ xs) = ap (λ b. p (f x) || b) (list_any-map f p xs)

-- a list with something put last where it is new, seen through a function
pub put-map : {A B : Type 0} (f : A → B) (b : Bool) (xs : List A) (x : A)
    → map f (if b then xs else xs ++ x ∷ []) ≡ (if b then map f xs else map f xs ++ f x ∷ [])
put-map f true xs x = refl
put-map f false xs x = map-append f xs (x ∷ [])

-- What is done and what is left are the whole; one more is done.
pub done_more : {A : Type 0} (done : List A) (item : A) (now rest whole : List A) → whole ≡ done ++ now → now ≡ item ∷ rest → whole ≡ (done ++ item ∷ []) ++ rest
done_more done item now rest whole so_far is = so_far ∙ ap (λ xs. done ++ xs) is ∙ sym (append_assoc done (item ∷ []) rest)

pub done_all : {A : Type 0} (done rest whole : List A) → whole ≡ done ++ rest → rest ≡ [] → whole ≡ done
done_all done rest whole so_far none = so_far ∙ ap (λ xs. done ++ xs) none ∙ append-nil done

-- the same of what a function makes of the items so far
pub pushed_more : {X A : Type 0} (f : X → A) (xs : List X) (i : ℕ) (d : X) (old done : List A) (item : A) → i < length xs → done ≡ old ++ map f (take i xs)
    → item ≡ f (get_or xs i d) → done ++ item ∷ [] ≡ old ++ map f (take (i + 1) xs)
pushed_more f xs i d old done item inside so_far is =
    ap (λ ys. ys ++ item ∷ []) so_far ∙ append_assoc old (map f (take i xs)) (item ∷ [])
    ∙ ap (λ ys. old ++ ys) (ap (λ x. map f (take i xs) ++ x ∷ []) is ∙ sym (map-append f (take i xs) (get_or xs i d ∷ [])) ∙ ap (map f) (sym (take_more xs i d inside)))
