-- How marks part a list, and how the parts are put together again.
use Rattle.std.proofs.Common.{◌≡◌, ◌<◌, ◌≤◌, Bool, true, false, List, [], ◌∷◌, ◌++◌, length, map, get_or, Option, None, Some, ap, refl, append_assoc, arith}
use Rattle.std.specs.Option.{option_to_list}
use Rattle.tm_shorten.specs.Parts.{marked, unmarked, joined, TakesNext}

-- A part of a list is no longer than the list.
pub length-marked : {A : Type 0} (marks : List Bool) (xs : List A) → length (marked marks xs) ≤ length xs
length-marked marks [] = omega arith
length-marked [] (x ∷ xs) = omega arith
length-marked (true ∷ marks) (x ∷ xs) = let shorter = length-marked marks xs in omega arith
length-marked (false ∷ marks) (x ∷ xs) = let shorter = length-marked marks xs in omega arith

-- With a mark on each element the part is the whole list.
pub marked-all : {A : Type 0} (xs : List A) → marked (map (λ _. true) xs) xs ≡ xs
marked-all [] = refl
marked-all (x ∷ xs) = ap (λ ys. x ∷ ys) (marked-all xs)

-- The two parts are put together.
pub joined-parts : {A : Type 0} (marks : List Bool) (xs : List A) → length marks ≡ length xs
    → joined marks (marked marks xs) (unmarked marks xs) ≡ xs
joined-parts [] [] same = refl
joined-parts (mark ∷ marks) [] same = absurd (omega arith)
joined-parts [] (x ∷ xs) same = absurd (omega arith)
joined-parts (true ∷ marks) (x ∷ xs) same = ap (λ ys. x ∷ ys) (joined-parts marks xs (omega arith))
joined-parts (false ∷ marks) (x ∷ xs) same = ap (λ ys. x ∷ ys) (joined-parts marks xs (omega arith))

-- One element more, with a mark and without one.
pub marked-more : {A : Type 0} (marks : List Bool) (xs : List A) (x : A) → get_or marks (length xs) false ≡ true
    → marked marks (xs ++ x ∷ []) ≡ marked marks xs ++ x ∷ []
marked-more [] [] x is = cc
marked-more (true ∷ marks) [] x is = refl
marked-more (false ∷ marks) [] x is = cc
marked-more [] (y ∷ ys) x is = cc
marked-more (true ∷ marks) (y ∷ ys) x is = ap (λ zs. y ∷ zs) (marked-more marks ys x is)
marked-more (false ∷ marks) (y ∷ ys) x is = marked-more marks ys x is

pub marked-less : {A : Type 0} (marks : List Bool) (xs : List A) (x : A) → length xs < length marks → get_or marks (length xs) false ≡ false
    → marked marks (xs ++ x ∷ []) ≡ marked marks xs
marked-less [] [] x small is = absurd (omega arith)
marked-less (true ∷ marks) [] x small is = cc
marked-less (false ∷ marks) [] x small is = refl
marked-less [] (y ∷ ys) x small is = absurd (omega arith)
marked-less (true ∷ marks) (y ∷ ys) x small is = ap (λ zs. y ∷ zs) (marked-less marks ys x (omega arith) is)
marked-less (false ∷ marks) (y ∷ ys) x small is = marked-less marks ys x (omega arith) is

pub unmarked-more : {A : Type 0} (marks : List Bool) (xs : List A) (x : A) → length xs < length marks → get_or marks (length xs) false ≡ false
    → unmarked marks (xs ++ x ∷ []) ≡ unmarked marks xs ++ x ∷ []
unmarked-more [] [] x small is = absurd (omega arith)
unmarked-more (true ∷ marks) [] x small is = cc
unmarked-more (false ∷ marks) [] x small is = refl
unmarked-more [] (y ∷ ys) x small is = absurd (omega arith)
unmarked-more (true ∷ marks) (y ∷ ys) x small is = unmarked-more marks ys x (omega arith) is
unmarked-more (false ∷ marks) (y ∷ ys) x small is = ap (λ zs. y ∷ zs) (unmarked-more marks ys x (omega arith) is)

pub unmarked-less : {A : Type 0} (marks : List Bool) (xs : List A) (x : A) → get_or marks (length xs) false ≡ true
    → unmarked marks (xs ++ x ∷ []) ≡ unmarked marks xs
unmarked-less [] [] x is = cc
unmarked-less (true ∷ marks) [] x is = refl
unmarked-less (false ∷ marks) [] x is = cc
unmarked-less [] (y ∷ ys) x is = cc
unmarked-less (true ∷ marks) (y ∷ ys) x is = unmarked-less marks ys x is
unmarked-less (false ∷ marks) (y ∷ ys) x is = ap (λ zs. y ∷ zs) (unmarked-less marks ys x is)

-- What the first mark comes to.
joined-next : {A : Type 0} (mark : Bool) (marks : List Bool) (next : Option A) (kept left kept-rest left-rest : List A)
    → TakesNext mark next kept left kept-rest left-rest
    → joined (mark ∷ marks) kept left ≡ option_to_list next ++ joined marks kept-rest left-rest
joined-next true marks None kept left kept-rest left-rest takes = rw (takes.0.0, takes.0.1, takes.1) refl
joined-next true marks (Some x) kept left kept-rest left-rest takes = rw (takes.0, takes.1) refl
joined-next false marks None kept left kept-rest left-rest takes = rw (takes.0.0, takes.0.1, takes.1) refl
joined-next false marks (Some x) kept left kept-rest left-rest takes = rw (takes.0, takes.1) refl

-- A turn: what was put together so far, and what is still to come.
pub joined-turn : {A : Type 0} (mark : Bool) (marks : List Bool) (next : Option A) (whole more kept left kept-rest left-rest all : List A)
    → TakesNext mark next kept left kept-rest left-rest → more ≡ whole ++ option_to_list next
    → whole ++ joined (mark ∷ marks) kept left ≡ all → more ++ joined marks kept-rest left-rest ≡ all
joined-turn mark marks next whole more kept left kept-rest left-rest all takes grows so_far =
    let turn = joined-next mark marks next kept left kept-rest left-rest takes in
    rw (grows, append_assoc, ← turn) so_far
