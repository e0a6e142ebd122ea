-- How often a name stands in a list.
use Rattle.std.proofs.Common.{◌≡◌, ◌≢◌, ℕ, zero, suc, ◌+◌, ◌<◌, ◌≤◌, Bool, true, false, cond, nat_lt, ◌||◌, List, [], ◌∷◌, ◌++◌, length, bytes_eq, refl, sym, ◌∙◌, ap, zero-add, add_assoc, lt-ltb, ltb-false, arith}
use Rattle.std.specs.Prelude.{AllPairs, slice_index_or}
use Rattle.std.specs.List.{list_any}
use Rattle.std.proofs.lemmas.Slice.Eq.{bytes_eq-Decides}

abbrev pub tally : List ℕ → List (List ℕ) → ℕ
tally n [] = 0
tally n (x ∷ xs) = cond (bytes_eq n x) 1 0 + tally n xs

pub same_name : (a b : List ℕ) → bytes_eq a b ≡ true → a ≡ b
same_name a b = (bytes_eq-Decides a b).0

pub itself : (a : List ℕ) → bytes_eq a a ≡ true
itself a = (bytes_eq-Decides a a).1 refl

any-tally : (n : List ℕ) (xs : List (List ℕ)) → list_any (bytes_eq n) xs ≡ nat_lt 0 (tally n xs)
any-tally n [] = refl
any-tally n (x ∷ xs) = at (bytes_eq n x) (list_any (bytes_eq n) xs) (tally n xs) (any-tally n xs)
  where
    at : (b c : Bool) (t : ℕ) → c ≡ nat_lt 0 t → (b || c) ≡ nat_lt 0 (cond b 1 0 + t)
    at true c t e = sym (lt-ltb 0 (1 + t) (omega arith))
    at false c t e = e ∙ ap (nat_lt 0) (sym (zero-add t))

-- a name that is not there
pub none-tally : (n : List ℕ) (xs : List (List ℕ)) → list_any (bytes_eq n) xs ≡ false → tally n xs ≡ 0
none-tally n xs h = let e : tally n xs ≤ 0 = ltb-false 0 (tally n xs) (sym (any-tally n xs) ∙ h) in omega arith

pub tally-append : (n : List ℕ) (a b : List (List ℕ)) → tally n (a ++ b) ≡ tally n a + tally n b
tally-append n [] b = sym (zero-add (tally n b))
tally-append n (x ∷ a) b = ap (λ t. cond (bytes_eq n x) 1 0 + t) (tally-append n a b) ∙ sym (add_assoc (cond (bytes_eq n x) 1 0) (tally n a) (tally n b))

-- each name stands once, or not at all
pub record StandOnce (xs : List (List ℕ)) : Type 0 where
  pub once : (n : List ℕ) → tally n xs ≤ 1

stands : (xs : List (List ℕ)) (j : ℕ) (d : List ℕ) → j < length xs → 1 ≤ tally (slice_index_or xs j d) xs
stands [] j d inside = absurd (omega arith)
stands (x ∷ xs) zero d inside = let e : ◌≡◌ {A = ℕ} (cond (bytes_eq x x) 1 0) 1 = ap (λ b. cond b 1 0) (itself x) in omega (arith, e)
stands (x ∷ xs) (suc j) d inside = let ih = stands xs j d (omega arith) in omega (arith, ih)

stands_twice : (xs : List (List ℕ)) (i j : ℕ) (d : List ℕ) → i < j → j < length xs → slice_index_or xs i d ≡ slice_index_or xs j d → 2 ≤ tally (slice_index_or xs j d) xs
stands_twice [] i j d less inside same = absurd (omega arith)
stands_twice (x ∷ xs) zero zero d less inside same = absurd (omega arith)
stands_twice (x ∷ xs) (suc i) zero d less inside same = absurd (omega arith)
stands_twice (x ∷ xs) zero (suc j) d less inside same =
    let e : ◌≡◌ {A = ℕ} (cond (bytes_eq (slice_index_or xs j d) x) 1 0) 1 = ap (λ b. cond b 1 0) (ap (λ y. bytes_eq y x) (sym same) ∙ itself x) in
    let here = stands xs j d (omega arith) in
    omega (arith, e, here)
stands_twice (x ∷ xs) (suc i) (suc j) d less inside same = let ih = stands_twice xs i j d (omega arith) (omega arith) same in omega (arith, ih)

pub pairs_differ : (xs : List (List ℕ)) → StandOnce xs → AllPairs (λ a b. a ≢ b) xs
pairs_differ xs h i j d less inside = λ same. let two = stands_twice xs i j d less inside same in let one = h.once (slice_index_or xs j d) in omega (arith, two, one)
