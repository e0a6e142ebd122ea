-- Lists of names: equal bytes, names that are among others, distinct names.
use Rattle.std.proofs.Common.{◌≡◌, ℕ, zero, suc, ◌+◌, ◌<◌, Bool, true, false, ◌||◌, List, [], ◌∷◌, ◌++◌, map, length, take, get_or, refl, sym, ◌∙◌, ap, subst, arith, bytes_eq, if◌then◌else◌, append_assoc}
use Rattle.std.specs.List.{list_any}
use Rattle.std.proofs.lemmas.Slice.Eq.{bytes_eq-Decides}
use Rattle.std.proofs.lemmas.List.{take_more, map_more, append-nil, length-map, take-map}
use Rattle.std.proofs.lemmas.List.Folds.{list_any-append, list_any_at}
use Rattle.blif_unit.specs.Unit.{AreDistinct, repeats}
use Rattle.blif_flat.specs.Places.{is_among}
use Rattle.blif_flat.specs.Sites.{Joins}

-- ---- bytes

pub same_bytes : (x y : List ℕ) → bytes_eq x y ≡ true → x ≡ y
same_bytes x y h = (bytes_eq-Decides x y).0 h

pub bytes_self : (x : List ℕ) → bytes_eq x x ≡ true
bytes_self x = (bytes_eq-Decides x x).1 refl

pub bytes_flip : (x y : List ℕ) → bytes_eq x y ≡ false → bytes_eq y x ≡ false
bytes_flip x y h = by_test (bytes_eq y x) refl
  where
    by_test : (t : Bool) → bytes_eq y x ≡ t → bytes_eq y x ≡ false
    by_test true is = let same = same_bytes y x is in absurd (let self = bytes_self x in let other : bytes_eq x x ≡ false = subst (λ z. bytes_eq x z ≡ false) same h in cc)
    by_test false is = is

-- ---- distinct names

-- a name that is not among others differs from each of them
apart_at : (n : List ℕ) (ns : List (List ℕ)) (i : ℕ) → list_any (bytes_eq n) ns ≡ false → i < length ns → bytes_eq (get_or ns i []) n ≡ false
apart_at n ns i none within = bytes_flip n (get_or ns i []) (by_test (bytes_eq n (get_or ns i [])) refl)
  where
    by_test : (t : Bool) → bytes_eq n (get_or ns i []) ≡ t → bytes_eq n (get_or ns i []) ≡ false
    by_test true is = absurd (let some = list_any_at (bytes_eq n) ns i [] within is in cc)
    by_test false is = is

-- a name is not among those before it
pub new_at : (ns : List (List ℕ)) (i : ℕ) → AreDistinct ns → i < length ns → list_any (bytes_eq (get_or ns i [])) (take i ns) ≡ false
new_at [] i h within = absurd (omega arith)
new_at (n ∷ ns) zero h within = refl
new_at (n ∷ ns) (suc i) h within =
    let first : bytes_eq (get_or ns i []) n ≡ false = apart_at n ns i h.0 (omega arith) in
    let rest = new_at ns i h.1 (omega arith) in
    ap (λ b. b || list_any (bytes_eq (get_or ns i [])) (take i ns)) first ∙ rest

-- one name more
pub named_more : {U : Type 0} (f : U → List ℕ) (us : List U) (i : ℕ) (u : U) (names new : List (List ℕ)) → AreDistinct (map f us) → i < length us → u ≡ get_or us i u
    → names ≡ map f (take i us) → new ≡ (if list_any (bytes_eq (f u)) names then names else names ++ f u ∷ []) → new ≡ map f (take (i + 1) us)
named_more {U} f us i u names new distinct within is so_far step =
    let long : i < length (map f us) = omega (arith, length-map us f, within) in
    let at : get_or (map f us) i [] ≡ f u = name_at us i within is in
    let fresh : list_any (bytes_eq (f u)) (map f (take i us)) ≡ false =
    subst (λ ns. list_any (bytes_eq (f u)) ns ≡ false) (take-map f i us) (subst (λ n. list_any (bytes_eq n) (take i (map f us)) ≡ false) at (new_at (map f us) i distinct long)) in
    let fresh' : list_any (bytes_eq (f u)) names ≡ false = ap (list_any (bytes_eq (f u))) so_far ∙ fresh in
    let put : new ≡ names ++ f u ∷ [] = step ∙ ap (λ b. if b then names else names ++ f u ∷ []) fresh' in
    put ∙ ap (λ ns. ns ++ f u ∷ []) so_far ∙ ap (λ x. map f (take i us) ++ f x ∷ []) is ∙ sym (map_more f us i u within)
  where
    name_at : (xs : List U) (k : ℕ) → k < length xs → u ≡ get_or xs k u → get_or (map f xs) k [] ≡ f u
    name_at [] k w e = absurd (omega arith)
    name_at (x ∷ xs) zero w e = ap f (sym e)
    name_at (x ∷ xs) (suc k) w e = name_at xs k (omega arith) e

-- ---- names among others

or_false : (b : Bool) → b ≡ (b || false)
or_false true = refl
or_false false = refl

-- a name that is put last where it is new is among the names
put_among : (names : List (List ℕ)) (x n : List ℕ) → is_among (if list_any (bytes_eq x) names then names else names ++ x ∷ []) n ≡ is_among (names ++ x ∷ []) n
put_among names x n = by_old (list_any (bytes_eq x) names) refl
  where
    by_name : (t : Bool) → bytes_eq n x ≡ t → list_any (bytes_eq x) names ≡ true → is_among names n ≡ (is_among names n || (t || false))
    by_name true is old = let same = same_bytes n x is in let some : list_any (bytes_eq n) names ≡ true = subst (λ z. list_any (bytes_eq z) names ≡ true) (sym same) old in rw some refl
    by_name false is old = or_false (is_among names n)

    by_old : (t : Bool) → list_any (bytes_eq x) names ≡ t → is_among (if t then names else names ++ x ∷ []) n ≡ is_among (names ++ x ∷ []) n
    by_old true old = by_name (bytes_eq n x) refl old ∙ sym (list_any-append (bytes_eq n) names (x ∷ []))
    by_old false old = refl

-- one name more is among the names
pub joined_more : (old names new more : List (List ℕ)) (i : ℕ) (x : List ℕ) → i < length more → x ≡ get_or more i x → Joins old (take i more) names
    → new ≡ (if list_any (bytes_eq x) names then names else names ++ x ∷ []) → Joins old (take (i + 1) more) new
joined_more old names new more i x within is so_far step n =
    let put : is_among new n ≡ is_among (names ++ x ∷ []) n = ap (λ ns. is_among ns n) step ∙ put_among names x n in
    let split = list_any-append (bytes_eq n) names (x ∷ []) in
    let before : is_among names n ≡ is_among (old ++ take i more) n = so_far n in
    let joined = list_any-append (bytes_eq n) (old ++ take i more) (x ∷ []) in
    let whole : (old ++ take i more) ++ x ∷ [] ≡ old ++ take (i + 1) more =
    append_assoc old (take i more) (x ∷ []) ∙ ap (λ y. old ++ (take i more ++ y ∷ [])) is ∙ ap (λ ys. old ++ ys) (sym (take_more more i x within)) in
    put ∙ split ∙ ap (λ b. b || list_any (bytes_eq n) (x ∷ [])) before ∙ sym joined ∙ ap (λ ys. is_among ys n) whole

-- no name more
pub joined_none : (old : List (List ℕ)) → Joins old [] old
joined_none old n = ap (λ ys. is_among ys n) (sym (append-nil old))

-- ---- names that repeat

-- a name that stands already repeats
pub repeats_here : (seen rest : List (List ℕ)) (x : List ℕ) → list_any (bytes_eq x) seen ≡ true → repeats seen (x ∷ rest) ≡ true
repeats_here seen rest x h = ap (λ b. b || repeats (seen ++ x ∷ []) rest) h

pub repeats_later : (seen rest : List (List ℕ)) (x : List ℕ) → list_any (bytes_eq x) seen ≡ false → repeats seen (x ∷ rest) ≡ repeats (seen ++ x ∷ []) rest
repeats_later seen rest x h = ap (λ b. b || repeats (seen ++ x ∷ []) rest) h
